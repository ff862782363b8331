-- `block_under` is the composition of its parts; what the rounds leave is a list of bits. Assumes nothing.
use Rattle.std.proofs.Common.{ℕ, rules, arith, ◌≡◌, List, length, take, drop, length-drop, sym, ap, ◌∙◌}
use mathlib.Core.Path.{ap₂}
use lib.Seq.{take_all}
use Rattle.octets.proofs.Parts.{field-part}
use Rattle.des_spec.specs.Bits.{Bits, bits_of}
use Rattle.des_spec.specs.Tables.{IP⁻¹}
use Rattle.des_spec.specs.Des.{rounds}
use Rattle.des_spec.specs.Rows.{by_rows}
use Rattle.des_spec.proofs.Lists.{below_take, below_drop}
use Rattle.des_spec.proofs.Ranges.{bits-bits_of, bits-rounds}
use Rattle.des_spec.proofs.ByRows.{block_by_rows}
use Rattle.des.proofs.block_under.Goals as goal

pub inverse-requires : goal.inverse-requires
unfolding bits_of
inverse-requires c =
    let x = c.binaries-bits.result in
    let b : Bits x = rw c.binaries-bits.ensures (bits-bits_of c.initial.result) in
    let e : length x ≡ 64 = search rules in
    rw (c.rounds-last.ensures, c.part.ensures, c.part-2.ensures, field-part x 0 32 (omega arith), field-part x 32 32 (omega arith))
    (bits-rounds _ _ _ (below_take 32 x b) (below_take 32 (drop 32 x) (below_drop 32 b)))

pub returns : goal.returns
unfolding bits_of
returns c =
    let ks = c.args.keys in
    let x = c.binaries-bits.result in
    let e : length x ≡ 64 = search rules in
    let left = c.part.ensures ∙ field-part x 0 32 (omega arith) in
    let right = c.part-2.ensures ∙ field-part x 32 32 (omega arith) ∙ take_all 32 (drop 32 x) (simp length-drop (omega arith)) in
    let bits = c.binaries-bits.ensures ∙ ap bits_of c.initial.ensures in
    let last = c.rounds-last.ensures ∙ ap₂ (rounds ks) left right ∙ ap (λ (y : List ℕ). rounds ks (take 32 y) (drop 32 y)) bits in
    c.inverse.ensures ∙ ap (by_rows IP⁻¹) last ∙ sym (block_by_rows ks c.args.block)
