-- The invariant: the nibbles before 2 i are those of the block.
use Prim.Native.Nat.{◌*◌}
use Rattle.octets.proofs.Filling.{Filled}
use Rattle.card.specs.Pin.{nibbles}
use Rattle.card.proofs.pin.nibbles.Given as goal

abbrev pub invariant-loop-i : goal.invariant-loop-i
invariant-loop-i l = Filled (nibbles l.fn.block) (2 * l.i) l.l
