-- `number` holds after i bits the number that they say. Assumes nothing.
use Rattle.std.proofs.Common.{◌≡◌, take}
use Rattle.des_spec.specs.Bits.{number}
use Rattle.des.proofs.bits.number.Given as goal

abbrev pub invariant-loop-b : goal.invariant-loop-b
invariant-loop-b l = l.value ≡ number (take l.b-index l.bits)
