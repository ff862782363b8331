-- `choice2` adds the word of a nibble a turn. Assumes nothing.
use Rattle.quick.proofs.Nibbles.{Summed}
use Rattle.quick.proofs.schedule.choice2.Given as goal

abbrev pub invariant-loop-j : goal.invariant-loop-j
invariant-loop-j l = Summed l.x l.rest l.sum l.j
