-- `selects` fills its array entry by entry. Assumes nothing.
use Rattle.std.proofs.Common.{arith, sym, ◌∙◌}
use Rattle.des_spec.specs.Tables.{S}
use Rattle.octets.proofs.Filling.{fill_start, fill_step, fill_done}
use Rattle.des.proofs.Places.{length-S, length_entries, get_or-selects}
use Rattle.des.proofs.selection.selects.Goals as goal

pub loop-i-init : goal.loop-i-init
loop-i-init c = fill_start (sym (length_entries c.args.sum))

pub loop-i-preserved : goal.loop-i-preserved
loop-i-preserved c =
    let x = c.args.sum in
    fill_step 0 c.loop-i.invariant (omega (arith, length_entries x)) (c.select.ensures ∙ sym (get_or-selects S x c.loop-i.i (omega (arith, length-S))))

pub returns : goal.returns
returns c = fill_done c.loop-i.invariant (omega (arith, length_entries c.args.sum))
