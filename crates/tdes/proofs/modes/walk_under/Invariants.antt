-- `walk_under`: after i turns the text is what its first i blocks became, and then what it was. Assumes nothing.
use Rattle.tdes.specs.Turns.{triple_under, mode}
use Rattle.tdes.proofs.InPlace.{Walked}
use Rattle.tdes.proofs.modes.walk_under.Given as goal

abbrev pub invariant-loop-i : goal.invariant-loop-i
invariant-loop-i g l =
    Walked (mode l.way (triple_under (g.K.RoundKeys.bits l.keys.outer) (g.K.RoundKeys.bits l.keys.inner))) l.initial.value l.initial.text l.i l.value l.text
