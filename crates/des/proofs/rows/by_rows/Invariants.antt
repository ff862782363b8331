-- `by_rows` fills its array row by row. Assumes nothing.
use Rattle.des_spec.specs.Rows.{by_rows}
use Rattle.octets.proofs.Filling.{Filled}
use Rattle.des.proofs.rows.by_rows.Given as goal

abbrev pub invariant-loop-r : goal.invariant-loop-r
invariant-loop-r l = Filled (by_rows l.table l.block) l.r l.bytes
