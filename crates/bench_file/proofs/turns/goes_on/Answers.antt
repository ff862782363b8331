-- `goes_on`: the two tests of the definition, in order. Assumes nothing.
use Rattle.bench_file.proofs.Format.{taken_by}
use Rattle.bench_file.proofs.turns.goes_on.Goals as goal

pub returns-then-has_room : goal.returns-then-has_room
returns-then-has_room c b =
    rw (← c.if-has_room.ensures) (taken_by b _ _ c.front_of.ensures _ c.eq.ensures)
