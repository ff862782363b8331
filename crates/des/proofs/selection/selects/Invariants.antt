-- `selects` fills its array entry by entry. Assumes nothing.
use Rattle.des_spec.specs.Tables.{S}
use Rattle.des_spec.specs.Des.{selects}
use Rattle.octets.proofs.Filling.{Filled}
use Rattle.des.proofs.selection.selects.Given as goal

abbrev pub invariant-loop-i : goal.invariant-loop-i
invariant-loop-i l = Filled (selects S l.sum) l.i l.entries
