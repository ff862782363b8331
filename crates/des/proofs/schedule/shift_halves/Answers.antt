-- `shift_halves` shifts by one place at a time. Assumes nothing.
use Rattle.std.proofs.Common.{◌≡◌, length, rules, arith, sym}
use lib.ListN.{length-take}
use Rattle.des.proofs.Halves.{shift_none, shift_more}
use Rattle.des.proofs.schedule.shift_halves.Goals as goal

pub loop-i-init : goal.loop-i-init
loop-i-init c = sym (shift_none c.args.halves)

pub slice_bounds-rotate_left-end : goal.slice_bounds-rotate_left-end
slice_bounds-rotate_left-end c = simp length-take (omega arith)

pub loop-i-preserved : goal.loop-i-preserved
loop-i-preserved c =
    let l = c.args.halves in
    let e : length l ≡ 56 = search rules in
    shift_more c.loop-i._i l c.loop-i.halves c.rotate_left.new.self c.rotate_left-in-loop-i.new.self e (omega arith) c.loop-i.invariant
    c.rotate_left.ensures.after c.rotate_left-in-loop-i.ensures.after
