-- `each_under`: after i turns the text is what its first i blocks became, and then what it was. Assumes nothing.
use Prim.Native.Nat.{ℕ, ◌*◌}
use mathlib.Core.Path.{ap, ◌∙◌}
use mathlib.Core.List.{List}
use Rattle.octets.specs.Bytes.{field}
use Rattle.des_spec.specs.Des.{round_keys, block_under, des}
use Rattle.des_spec.proofs.Lengths.{length-des}
use Rattle.tdes.specs.Single.{des_each}
use Rattle.tdes.proofs.Each.{first, turn, last}
use borrow.Author.Rules.{rules}
use Rattle.tdes.proofs.single.each_under.Goals as goal

pub loop-i-init : goal.loop-i-init
loop-i-init g c = first _ _

pub loop-i-preserved : goal.loop-i-preserved
unfolding des
loop-i-preserved g c =
    let a = c.args in
    let d = a.decipher in
    let keys = a.keys.now in
    let own = c.of.ensures ∙ ap (round_keys d) c.part.ensures in
    turn (λ (i : ℕ). des d (field keys (8 * i) 8)) (λ i. length-des d (field keys (8 * i) 8)) c.loop-i.invariant (search rules) c.part-in-loop-i.ensures
    (c.block_under-put.ensures ∙ ap (λ (ks : List (List ℕ)). block_under ks c.part-in-loop-i.result) own) c.paste.ensures

pub returns : goal.returns
unfolding des_each
returns g c =
    let a = c.args in
    last (λ (k : ℕ). des a.decipher (field a.keys.now (8 * k) 8)) (λ k. length-des a.decipher (field a.keys.now (8 * k) 8))
    c.loop-i.invariant (search rules)
