-- `ecb_under`: after i turns the text is what its first i blocks became, and then what it was. Assumes nothing.
use Prim.Native.Nat.{ℕ}
use mathlib.Core.Path.{ap, ◌∙◌}
use mathlib.Core.List.{List}
use Rattle.des_spec.specs.Des.{block_under, des}
use Rattle.des_spec.proofs.Lengths.{length-block_under}
use Rattle.tdes.specs.Single.{each_text, des_text}
use Rattle.tdes.proofs.Each.{first, turn, last}
use borrow.Author.Rules.{rules}
use Rattle.tdes.proofs.single.ecb_under.Goals as goal

pub loop-i-init : goal.loop-i-init
loop-i-init g c = first _ _

pub loop-i-preserved : goal.loop-i-preserved
loop-i-preserved g c =
    let ks = g.K.RoundKeys.bits c.of-keys.result in
    turn (λ (i : ℕ). block_under ks) (λ i. length-block_under ks) c.loop-i.invariant (search rules) c.part.ensures c.block_under-put.ensures c.paste.ensures

pub returns : goal.returns
unfolding des_text des
returns g c =
    let a = c.args in
    let ks = g.K.RoundKeys.bits c.of-keys.result in
    last (λ (k : ℕ). block_under ks) (λ k. length-block_under ks) c.loop-i.invariant (search rules)
    ∙ ap (λ (l : List (List ℕ)). each_text (λ (k : ℕ). block_under l) a.text.now) c.of-keys.ensures
