-- `word`: the rule of the table at a place. Assumes nothing.
use Prim.Native.Nat.{◌<◌}
use native.Mathlib.Omega.{arith}
use lib.ListN.{length}
use Rattle.quick.proofs.table.word.Goals as goal

pub returns : goal.returns
returns c =
    let table = c.boxes in
    let h : c.args.i < length table.result.now = omega (arith, table.ensures.size) in
    table.ensures.each c.args.i h
