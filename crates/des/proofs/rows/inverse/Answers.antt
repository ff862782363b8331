-- `inverse` is eight rows of its bits; its table names 64 bits, by one test. Assumes nothing.
use Rattle.std.proofs.Common.{arith}
use Rattle.des_spec.specs.Tables.{IP⁻¹}
use Rattle.des_spec.proofs.Permutations.{names}
use Rattle.des.proofs.rows.inverse.Goals as goal

pub by_rows-requires : goal.by_rows-requires
by_rows-requires c = (names 64 64 _ tt (omega arith), c.requires)

pub returns : goal.returns
unfolding IP⁻¹
returns c = c.by_rows.ensures
