-- `of` takes the two halves of the key. Assumes nothing.
use mathlib.Core.Path.{◌≡◌, ap, ◌∙◌}
use mathlib.Core.Bool.{not}
use native.Mathlib.Omega.{arith}
use borrow.Author.Rules.{rules}
use lib.ListN.{length, drop, length-drop}
use lib.Seq.{take_all}
use Rattle.des_spec.specs.Des.{round_keys}
use Rattle.octets.proofs.Parts.{field-part}
use Rattle.tdes.proofs.triple.TripleKeys.of.Goals as goal

pub returns-clause-outer : goal.returns-clause-outer
returns-clause-outer g c =
    let a = c.args in
    let e : length a.key ≡ 16 = search rules in
    c.of.ensures ∙ ap (round_keys a.decipher) (c.part.ensures ∙ field-part a.key 0 8 (omega arith))

pub returns-clause-inner : goal.returns-clause-inner
returns-clause-inner g c =
    let a = c.args in
    let e : length a.key ≡ 16 = search rules in
    let l : length (drop 8 a.key) ≡ 8 = simp length-drop (omega arith) in
    c.of-2.ensures
    ∙ ap (round_keys (not a.decipher)) (c.part-2.ensures ∙ field-part a.key 8 8 (omega arith) ∙ take_all 8 (drop 8 a.key) (omega arith))
