-- `permute` fills its array bit by bit. Assumes nothing.
use Rattle.des_spec.specs.Des.{permute}
use Rattle.octets.proofs.Filling.{Filled}
use Rattle.des.proofs.permutations.permute.Given as goal

abbrev pub invariant-loop-i : goal.invariant-loop-i
invariant-loop-i g l = Filled (permute l.table l.bits) l.i l.named
