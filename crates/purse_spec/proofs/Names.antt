-- Commands by their first two bytes: from apdu's table, and as the ledger tests them. Assumes nothing.
use Rattle.apdu.specs.declared.refusals.Refusal.{Refusal}
use Rattle.std.specs.Prelude.{Result}
use mathlib.Core.Bool.{true, false, ◌&&◌, false≢true}
use mathlib.Core.List.{List}
use mathlib.Core.Path.{◌≡◌, sym, ◌∙◌}
use Prim.Native.Nat.{ℕ}
use borrow.Author.Tests.{eqb-true, eq-eqb}
use lib.Dec.{eqb}
use Rattle.octets.specs.Bytes.{byte_at}
use Rattle.octets.proofs.Rules.{and_yes}
use Rattle.octets.proofs.Conditions.{and_both}
use Rattle.apdu.specs.declared.instructions.Instruction.{Instruction}
use Rattle.apdu.proofs.Table.{Code, instructions}
use Rattle.commands_spec.specs.Respond.{named}

-- a command begins with the two bytes of its row
pub named-bytes : (bytes : List ℕ) (i : Result Instruction Refusal) → named bytes ≡ i → Code i (byte_at bytes 0) (byte_at bytes 1)
unfolding named
named-bytes bytes i e = (instructions i (byte_at bytes 0) (byte_at bytes 1)).0 e

-- and what begins with these is that command
pub bytes-named : (bytes : List ℕ) (i : Result Instruction Refusal) → Code i (byte_at bytes 0) (byte_at bytes 1) → named bytes ≡ i
unfolding named
bytes-named bytes i c = (instructions i (byte_at bytes 0) (byte_at bytes 1)).1 c

-- a command by its first two bytes
abbrev pub Begins : List ℕ → ℕ → ℕ → Type 0
Begins bytes cla ins = (byte_at bytes 0 ≡ cla) × (byte_at bytes 1 ≡ ins)

-- what the ledger's test of them tells
pub begins : (bytes : List ℕ) (ins : ℕ) → (eqb (byte_at bytes 0) 0x94 && eqb (byte_at bytes 1) ins) ≡ true → Begins bytes 0x94 ins
begins bytes ins t = let u = and_both (eqb (byte_at bytes 0) 0x94) (eqb (byte_at bytes 1) ins) t in (eqb-true _ _ u.0, eqb-true _ _ u.1)

-- and where it fails together with that of 9000
pub begins_not : (bytes : List ℕ) (ins w : ℕ) → (eqb (byte_at bytes 0) 0x94 && eqb (byte_at bytes 1) ins && eqb w 0x9000) ≡ false
    → Begins bytes 0x94 ins → w ≡ 0x9000 → ⊥
begins_not bytes ins w t b z =
    false≢true
    (sym t
    ∙ and_yes _ _ (and_yes (eqb (byte_at bytes 0) 0x94) (eqb (byte_at bytes 1) ins) (eq-eqb (byte_at bytes 0) 0x94 b.0) (eq-eqb (byte_at bytes 1) ins b.1))
    (eq-eqb w 0x9000 z))
