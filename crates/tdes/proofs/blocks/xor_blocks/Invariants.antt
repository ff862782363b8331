-- `xor_blocks` fills its array byte by byte. Assumes nothing.
use Rattle.des_spec.specs.Bits.{xor_bytes}
use Rattle.octets.proofs.Filling.{Filled}
use Rattle.tdes.proofs.blocks.xor_blocks.Given as goal

abbrev pub invariant-loop-i : goal.invariant-loop-i
invariant-loop-i l = Filled (xor_bytes l.a l.b) l.i l.sum
