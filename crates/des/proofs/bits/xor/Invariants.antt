-- `xor` fills its array bit by bit. Assumes nothing.
use Rattle.des_spec.specs.Bits.{xor}
use Rattle.octets.proofs.Filling.{Filled}
use Rattle.des.proofs.bits.xor.Given as goal

abbrev pub invariant-loop-i : goal.invariant-loop-i
invariant-loop-i g l = Filled (xor l.a l.b) l.i l.sum
