-- `select` looks its entry up at the row and the column that its bits say. Assumes nothing.
use Rattle.std.proofs.Common.{ℕ, arith, ◌≡◌, ◌+◌, ◌≤◌, ◌*◌, List, [], length, get_or, drop, ap, ◌∙◌}
use mathlib.Core.Path.{ap₂}
use Rattle.octets.specs.Bytes.{field}
use Rattle.octets.proofs.Parts.{field-part}
use Rattle.des_spec.specs.Bits.{Bits}
use Rattle.des_spec.specs.Tables.{S}
use Rattle.des_spec.specs.Des.{select}
use Rattle.des_spec.proofs.Lists.{below_take, below_drop}
use Rattle.des_spec.proofs.Ranges.{number_lt}
use Rattle.des.proofs.Numbers.{bits_two, bits_four}
use Rattle.des.proofs.selection.select.Goals as goal

bits_field : (l p : List ℕ) (at : ℕ) → Bits l → at + 6 ≤ length l → p ≡ field l at 6 → Bits p
bits_field l p at b h e = rw (e ∙ field-part l at 6 h) (below_take 6 (drop at l) (below_drop at b))

pub number-row-requires : goal.number-row-requires
number-row-requires c =
    let p = c.part.result in
    (bits_two p 0 5 (bits_field c.args.sum p (6 * c.args.i) c.requires.0 (omega arith) c.part.ensures), omega arith)

pub number-column-requires : goal.number-column-requires
number-column-requires c =
    let p = c.part.result in
    (bits_four p 1 2 3 4 (bits_field c.args.sum p (6 * c.args.i) c.requires.0 (omega arith) c.part.ensures), omega arith)

pub entry-requires : goal.entry-requires
entry-requires c =
    let p = c.part.result in
    let b = bits_field c.args.sum p (6 * c.args.i) c.requires.0 (omega arith) c.part.ensures in
    (c.requires.1, rw c.number-row.ensures (number_lt _ (bits_two p 0 5 b)), rw c.number-column.ensures (number_lt _ (bits_four p 1 2 3 4 b)))

pub returns : goal.returns
unfolding select
returns c =
    let box = get_or S c.args.i [] in
    let six = c.part.ensures ∙ field-part c.args.sum (6 * c.args.i) 6 (omega arith) in
    c.entry.ensures
    ∙ ap₂ (λ (row column : ℕ). get_or (get_or box row []) column 0) c.number-row.ensures c.number-column.ensures
    ∙ ap (select box) six
