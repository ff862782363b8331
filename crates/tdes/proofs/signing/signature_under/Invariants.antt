-- `signature_under` takes in a block a turn: what is left of the text, from the value so far, leaves the value of the whole. Assumes nothing.
use Prim.Native.Nat.{ℕ, ◌*◌}
use mathlib.Core.Path.{◌≡◌}
use mathlib.Core.List.{List}
use lib.ListN.{drop}
use Rattle.des_spec.specs.Walk.{cbc_encipher_by}
use Rattle.des_spec.proofs.Signature.{signed}
use Rattle.tdes.specs.Turns.{triple_under}
use Rattle.tdes.proofs.signing.signature_under.Given as goal

abbrev pub invariant-loop-i : goal.invariant-loop-i
invariant-loop-i g l =
    let m = cbc_encipher_by (triple_under (g.K.RoundKeys.bits l.keys.outer) (g.K.RoundKeys.bits l.keys.inner)) in
    ◌≡◌ {A = List ℕ} (signed m l.value (drop (8 * l.i) l.text)) (signed m l.initial.value l.text)
