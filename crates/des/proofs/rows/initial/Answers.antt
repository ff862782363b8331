-- `initial` is eight rows of the bits of its block; its table names 64 bits, by one test. Assumes nothing.
use Rattle.std.proofs.Common.{arith, ap, ◌∙◌}
use Rattle.des_spec.specs.Bits.{bits_of}
use Rattle.des_spec.specs.Tables.{IP}
use Rattle.des_spec.specs.Rows.{by_rows}
use Rattle.des_spec.proofs.Ranges.{bits-bits_of}
use Rattle.des_spec.proofs.Permutations.{names}
use Rattle.des.proofs.rows.initial.Goals as goal

pub by_rows-requires : goal.by_rows-requires
unfolding bits_of
by_rows-requires c = (names 64 64 _ tt (omega arith), rw c.binaries.ensures (bits-bits_of c.args.block))

pub returns : goal.returns
unfolding IP bits_of
returns c = c.by_rows.ensures ∙ ap (by_rows IP) c.binaries.ensures
