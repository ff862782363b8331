-- `xor` fills its array bit by bit. Assumes nothing.
use Rattle.std.proofs.Common.{ℕ, arith}
use lib.ListN.{length-replicate}
use Rattle.des_spec.proofs.Lengths.{length-xor}
use Rattle.des_spec.proofs.Elements.{get_or-xor}
use Rattle.octets.proofs.Filling.{fill_start, fill_step, fill_done}
use Rattle.des.proofs.bits.xor.Goals as goal

pub loop-i-init : goal.loop-i-init
loop-i-init g c =
    let a = c.args.a in
    let b = c.args.b in
    fill_start (omega (arith, length-replicate {A = ℕ} g.row.N 0, length-xor a b (omega arith)))

pub loop-i-preserved : goal.loop-i-preserved
loop-i-preserved g c =
    let a = c.args.a in
    let b = c.args.b in
    fill_step 0 c.loop-i.invariant (omega (arith, length-xor a b (omega arith)))
    (omega (arith, get_or-xor a b c.loop-i.i (omega arith) (omega arith)))

pub returns : goal.returns
returns g c =
    fill_done c.loop-i.invariant (omega (arith, length-xor c.args.a c.args.b (omega arith)))
