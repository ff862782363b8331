-- `row` is the number that the bits of its line say. Assumes nothing.
use Rattle.std.proofs.Common.{ℕ, rules, arith, ◌≡◌, ◌<◌, ◌*◌, List, length, ap, ◌∙◌}
use Rattle.octets.specs.Bytes.{field}
use Rattle.octets.proofs.Parts.{field-part}
use Rattle.des_spec.specs.Bits.{number}
use Rattle.des_spec.specs.Des.{permute}
use Rattle.des_spec.specs.Rows.{line, row}
use Rattle.des_spec.proofs.Lengths.{length-permute}
use Rattle.des_spec.proofs.Ranges.{bits-permute}
use Rattle.des_spec.proofs.ByRows.{names_line}
use Rattle.des.proofs.rows.row.Goals as goal

-- eight entries of the table from 8 * r on are line r
line_is : (t l : List ℕ) (r : ℕ) → length t ≡ 64 → r < 8 → l ≡ field t (8 * r) 8 → l ≡ line t r
unfolding line
line_is t l r e h f = f ∙ field-part t (8 * r) 8 (omega arith)

pub permute-requires : goal.permute-requires
permute-requires c =
    let t = c.args.table.now in
    let r = c.args.r in
    let e = line_is t c.part-line.result r c.told-table c.requires.1 c.part-line.ensures in
    (search rules, (search rules, rw e (names_line t r 64 c.told-table c.requires.1 c.requires.0)))

pub number-requires : goal.number-requires
number-requires c =
    let l = c.part-line.result in
    let b = c.args.block in
    rw c.permute.ensures (bits-permute l b c.requires.2, omega (arith, length-permute l b))

pub returns : goal.returns
unfolding row
returns c =
    let line = line_is c.args.table.now c.part-line.result c.args.r c.told-table c.requires.1 c.part-line.ensures in
    c.number.ensures ∙ ap number (c.permute.ensures ∙ ap (λ (l : List ℕ). permute l c.args.block) line)
