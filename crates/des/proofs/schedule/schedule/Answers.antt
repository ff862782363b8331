-- `schedule` holds after i turns the first i keys, and the halves from which the rest follow. Assumes nothing.
use Rattle.std.proofs.Common.{rules, arith, ◌+◌, refl, [], sym, ap, ◌∙◌, get_or, drop}
use Rattle.des_spec.specs.Tables.{shifts, PC1, PC2}
use Rattle.des_spec.specs.Des.{schedule, keys_from, permute}
use Rattle.des_spec.proofs.Lengths.{length-keys_from}
use Rattle.des_spec.proofs.Permutations.{names}
use Rattle.octets.proofs.Filling.{fill_start, fill_step, fill_done}
use Rattle.des.proofs.Turns.{keys-next}
use Rattle.des.proofs.schedule.schedule.Goals as goal

pub permute-halves-requires : goal.permute-halves-requires
permute-halves-requires c = (search rules, (search rules, names 64 _ _ tt (search rules)))

pub loop-i-init : goal.loop-i-init
unfolding shifts
loop-i-init c = (fill_start (sym (length-keys_from shifts c.permute-halves.result)), refl)

pub permute-requires : goal.permute-requires
permute-requires c = (search rules, (search rules, names 56 _ _ tt (search rules)))

pub loop-i-preserved : goal.loop-i-preserved
unfolding shifts PC2
loop-i-preserved c =
    let i = c.loop-i.i in
    let first = c.permute-halves.result in
    let e = length-keys_from shifts first in
    let k = keys-next shifts c.loop-i.halves (keys_from shifts first) i (get_or shifts i 0) c.loop-i.invariant.1 (search rules) e refl in
    let s = c.shift_halves-next.ensures in (
      fill_step [] c.loop-i.invariant.0 (omega (arith, e)) (c.permute.ensures ∙ ap (permute PC2) s ∙ k.0),
      ap (keys_from (drop (i + 1) shifts)) s ∙ k.1,
    )

pub returns : goal.returns
unfolding schedule shifts PC1
returns c =
    fill_done c.loop-i.invariant.0 (omega (arith, length-keys_from shifts c.permute-halves.result)) ∙ ap (keys_from shifts) c.permute-halves.ensures
