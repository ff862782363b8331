-- `schedule` holds after i turns the first i keys, and the halves from which the rest follow. Assumes nothing.
use Rattle.std.proofs.Common.{◌≡◌, drop}
use Rattle.des_spec.specs.Tables.{shifts}
use Rattle.des_spec.specs.Des.{keys_from}
use Rattle.octets.proofs.Filling.{Filled}
use Rattle.des.proofs.schedule.schedule.Given as goal

abbrev pub invariant-loop-i : goal.invariant-loop-i
invariant-loop-i l =
    Filled (keys_from shifts l.initial.halves) l.i l.keys
    × (keys_from (drop l.i shifts) l.halves ≡ drop l.i (keys_from shifts l.initial.halves))
