-- `run_in_hand`: the loop keeps that the turns to come drain what is in hand. Assumes nothing.
use Prim.Native.Nat.{suc, ◌-◌}
use mathlib.Core.Bool.{true}
use mathlib.Core.Path.{◌≡◌}
use lib.ListN.{length}
use Rattle.octets.specs.Choice.{pick}
use Rattle.bench.specs.Going.{turns_again}
use Rattle.bench.proofs.Hands.{Drains}
use Rattle.bench.proofs.stream.Stream.run_in_hand.Given as goal

abbrev pub invariant-loop-self : goal.invariant-loop-self
invariant-loop-self g l = (length l.self.output ≡ 65536) × Drains l.fn.self.runner l.input 65536 l.self.runner l.hand

abbrev pub decreases-loop-self : goal.decreases-loop-self
decreases-loop-self g l = pick (turns_again l.hand.next true) (suc (length l.input - l.hand.used)) 0
