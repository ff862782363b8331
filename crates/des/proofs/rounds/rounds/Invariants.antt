-- `rounds` keeps what the rounds that are left make of its halves. Assumes nothing.
use Rattle.std.proofs.Common.{◌≡◌, drop}
use Rattle.des_spec.specs.Des.{rounds}
use Rattle.des.proofs.rounds.rounds.Given as goal

abbrev pub invariant-loop-key : goal.invariant-loop-key
invariant-loop-key l = rounds (drop l.key-index l.fn.keys) l.left l.right ≡ rounds l.fn.keys l.fn.left l.fn.right
