-- `command`: past its tests, the outcome on the card that memory reads as, performed.
use mathlib.Core.Path.{sym, ◌∙◌}
use Rattle.purse.proofs.Requests.{a_card}
use Rattle.purse.proofs.commanding.command.Goals as goal

pub returns : goal.returns
returns c =
    a_card _ _ _ _ _ _ _ _ _ _ _ _ _ c.if-memory-ne-MEMORY_SIZE.false c.if-area-lt-LEAST_AREA.false c.if-random-ne8.false
    (sym c.read.ensures ∙ c.in-Some.is) c.asked_record-asked.ensures c.part.ensures c.respond-outcome.ensures c.perform.ensures
