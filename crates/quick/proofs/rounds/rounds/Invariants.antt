-- `rounds`: after i turns, 2 i of the rounds are done. Assumes nothing.
use Prim.Native.Nat.{◌-◌, ◌*◌}
use Rattle.quick.proofs.Rounded.{Rounded}
use Rattle.quick.proofs.rounds.rounds.Given as goal

abbrev pub invariant-loop-i : goal.invariant-loop-i
invariant-loop-i l = Rounded l.ks l.b l.l l.r (2 * l.i)

abbrev pub decreases-loop-i : goal.decreases-loop-i
decreases-loop-i l = 8 - l.i
