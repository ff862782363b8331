-- Document 01, "Only a cut run may make memory await a start-up. A finished start-up .. leaves nothing awaiting", and neither does a
-- finished installation. Assumes nothing.
use mathlib.Core.Bool.{false}
use mathlib.Core.List.{List}
use mathlib.Core.Path.{◌≡◌, refl}
use Prim.Native.Nat.{ℕ}
use native.Mathlib.Omega.{arith}
use Rattle.purse_spec.specs.Calls.{awaits}
use Rattle.purse_spec.specs.History.{Call, install, start, Situation, run}

-- "Only a cut run may make memory await a start-up"
pub only-cut-awaits : (x : Call) (st : Situation) → ((run x st).answer ≡ 7 → ⊥) → awaits (run x st).memory ≡ false
unfolding awaits
only-cut-awaits x st n = refl

-- "A finished start-up .. leaves nothing awaiting"
pub started_awaits-nothing : (limit : ℕ) (st : Situation) → (run (start limit) st).answer ≡ 0 → awaits (run (start limit) st).memory ≡ false
started_awaits-nothing limit st e = only-cut-awaits (start limit) st (λ z. omega arith)

-- "a finished one leaves the fresh card of its data and nothing awaiting", of an installation
pub installed_awaits-nothing : (d : List ℕ) (limit : ℕ) (st : Situation) → (run (install d limit) st).answer ≡ 0
    → awaits (run (install d limit) st).memory ≡ false
installed_awaits-nothing d limit st e = only-cut-awaits (install d limit) st (λ z. omega arith)
