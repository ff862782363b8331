-- `copy`: the first i bytes stand in memory from the address on, and the rest is as it was. Assumes nothing.
use mathlib.Core.Path.{◌≡◌}
use lib.ListN.{length}
use lib.Seq as seq
use Rattle.stores.proofs.copy.Given as goal

abbrev pub invariant-loop-i : goal.invariant-loop-i
invariant-loop-i l = (length l.memory ≡ length l.initial.memory) × (l.memory ≡ seq.paste l.initial.memory l.at l.bytes l.i)
