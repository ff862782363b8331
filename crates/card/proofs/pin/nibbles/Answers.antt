-- The invariant: the nibbles before 2 i are those of the block.
use Prim.Native.Nat.{◌+◌, ◌*◌}
use mathlib.Core.Path.{◌≡◌, sym}
use native.Mathlib.Omega.{arith}
use borrow.Author.Rules.{rules}
use Rattle.octets.proofs.Filling.{fill_start, fill_step, fill_done}
use Rattle.card.proofs.Turns.{nibbles_sixteen, nibble_high, nibble_low}
use Rattle.card.proofs.pin.nibbles.Goals as goal

pub loop-i-init : goal.loop-i-init
loop-i-init c = fill_start (sym (nibbles_sixteen c.args.block (search rules)))

pub loop-i-preserved : goal.loop-i-preserved
loop-i-preserved c =
    let b = c.args.block in
    let i = c.loop-i.i in
    let n = nibbles_sixteen b (search rules) in
    let f = fill_step 0 c.loop-i.invariant (omega arith) (sym (nibble_high b i)) in
    let g = fill_step 0 f (omega arith) (sym (nibble_low b i)) in
    let e : 2 * i + 1 + 1 ≡ 2 * (i + 1) = omega arith in
    rw e at g

pub returns : goal.returns
returns c =
    let n = nibbles_sixteen c.args.block (search rules) in
    fill_done c.loop-i.invariant (omega arith)
