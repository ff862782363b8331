-- `shift_halves` shifts by one place at a time. Assumes nothing.
use Rattle.std.proofs.Common.{◌≡◌}
use Rattle.des_spec.specs.Des.{shift_halves}
use Rattle.des.proofs.schedule.shift_halves.Given as goal

abbrev pub invariant-loop-i : goal.invariant-loop-i
invariant-loop-i l = l.halves ≡ shift_halves l._i l.fn.halves
