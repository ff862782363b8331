-- `binaries` fills its array bit by bit. Assumes nothing.
use Rattle.des_spec.specs.Bits.{binaries}
use Rattle.octets.proofs.Filling.{Filled}
use Rattle.des.proofs.bits.binaries.Given as goal

abbrev pub invariant-loop-i : goal.invariant-loop-i
invariant-loop-i g l = Filled (binaries g.row.W l.numbers) l.i l.bits
