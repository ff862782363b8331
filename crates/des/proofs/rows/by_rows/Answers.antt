-- `by_rows` fills its array row by row. Assumes nothing.
use Rattle.std.proofs.Common.{arith, sym, ◌∙◌}
use Rattle.des_spec.proofs.ByRows.{length-rows, get_d_rows}
use Rattle.octets.proofs.Filling.{fill_start, fill_step, fill_done}
use Rattle.des.proofs.rows.by_rows.Goals as goal

pub loop-r-init : goal.loop-r-init
loop-r-init c = fill_start (sym (length-rows c.args.table.now c.args.block))

pub loop-r-preserved : goal.loop-r-preserved
loop-r-preserved c =
    let t = c.args.table.now in
    let b = c.args.block in
    fill_step 0 c.loop-r.invariant (omega (arith, length-rows t b)) (c.row.ensures ∙ sym (get_d_rows t b c.loop-r.r (omega arith)))

pub returns : goal.returns
returns c = fill_done c.loop-r.invariant (omega (arith, length-rows c.args.table.now c.args.block))
