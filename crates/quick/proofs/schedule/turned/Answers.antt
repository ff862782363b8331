-- `turned`: a half doubled and shifted is the half rotated. Assumes nothing.
use Prim.Native.Nat.{◌<◌, ◌≤◌, ◌^◌}
use native.Mathlib.Omega.{arith}
use Rattle.quick.proofs.Keys.{turned}
use borrow.Author.Rules.{rules}
use Rattle.quick.proofs.schedule.turned.Goals as goal

pub returns : goal.returns
returns c =
    let h : c.args.c < 2 ^ 28 = search rules in
    let g : c.args.n ≤ 28 = omega arith in
    (omega arith, turned c.args.c c.args.n h g)
