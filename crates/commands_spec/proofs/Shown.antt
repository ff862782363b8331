-- The status bytes say what they are said to say. Assumes nothing.
use mathlib.Core.Bool.{Bool, true, false, not, ◌&&◌}
use mathlib.Core.Path.{◌≡◌, refl, ◌∙◌}
use Prim.Native.Nat.{◌+◌, ◌-◌, ◌/◌, ◌%◌}
use native.Mathlib.Omega.{arith}
use native.Mathlib.Nat.{min-eq_left, min-eq_right}
use lib.Dec.{eqb}
use Rattle.octets.specs.Choice.{pick}
use Rattle.octets.proofs.Numbers.{word_read}
use Rattle.card.specs.declared.head.Head.{Head}
use Rattle.commands_spec.specs.Status.{administrative, operational}
use Rattle.commands_spec.specs.Shown.{bit, Administrative, Operational}

-- the administrative status
pub administrative-shown : (h : Head) (flag : Bool) → Administrative h flag (administrative h flag)
unfolding administrative
administrative-shown h flag =
    let k = bits h.purse.parameters.personalized (h.purse.parameters.bank.defined && h.pin.defined) (not (eqb h.purse.parameters.agent.size 0)) flag in
    record { low = k.0; personalized = k.1; bank = k.2; agent = k.3; validated = k.4 }
  where
    bits : (p b a v : Bool)
        → let n = pick p 0x10 0 + pick b 0x20 0 + pick a 0x40 0 + pick v 0x80 0 in
        (n % 0x10 ≡ 0) × (n / 0x10 % 2 ≡ bit p) × (n / 0x20 % 2 ≡ bit b) × (n / 0x40 % 2 ≡ bit a) × (n / 0x80 ≡ bit v)
    bits true true true true = (refl, refl, refl, refl, refl)
    bits true true true false = (refl, refl, refl, refl, refl)
    bits true true false true = (refl, refl, refl, refl, refl)
    bits true true false false = (refl, refl, refl, refl, refl)
    bits true false true true = (refl, refl, refl, refl, refl)
    bits true false true false = (refl, refl, refl, refl, refl)
    bits true false false true = (refl, refl, refl, refl, refl)
    bits true false false false = (refl, refl, refl, refl, refl)
    bits false true true true = (refl, refl, refl, refl, refl)
    bits false true true false = (refl, refl, refl, refl, refl)
    bits false true false true = (refl, refl, refl, refl, refl)
    bits false true false false = (refl, refl, refl, refl, refl)
    bits false false true true = (refl, refl, refl, refl, refl)
    bits false false true false = (refl, refl, refl, refl, refl)
    bits false false false true = (refl, refl, refl, refl, refl)
    bits false false false false = (refl, refl, refl, refl, refl)

-- the operational status
pub operational-shown : (h : Head) → Operational h (operational h)
unfolding operational
operational-shown h =
    record {
      long = refl;
      remaining = λ k. omega (arith, word_read (h.shared.maxnumber - h.state.number));
      currency = word_read _;
      balance = word_read _;
      all_of_it = λ k. word_read _ ∙ min-eq_left k;
      at_most = λ k. word_read _ ∙ min-eq_right k;
      credit = λ k. omega (arith, word_read (h.purse.parameters.maxbalance - h.purse.balance));
    }
