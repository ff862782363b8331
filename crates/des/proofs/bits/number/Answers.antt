-- `number` holds after i bits the number that they say. Assumes nothing.
use Rattle.std.proofs.Common.{refl, arith}
use Rattle.des_spec.specs.Bits.{number}
use Rattle.des.proofs.Numbers.{number-next, number-room}
use Rattle.des.proofs.bits.number.Goals as goal

pub loop-b-init : goal.loop-b-init
unfolding number
loop-b-init c = refl

pub overflow_mul-value : goal.overflow_mul-value
overflow_mul-value c =
    omega (arith, number-room c.args.bits.now c.loop-b.b-index c.requires.0 (omega arith) (omega arith))

pub overflow_add-value : goal.overflow_add-value
overflow_add-value c =
    let b = c.requires.0 in
    let i = c.loop-b.b-index in
    omega (arith, number-room c.args.bits.now i b (omega arith) (omega arith), b.at i)

pub loop-b-preserved : goal.loop-b-preserved
loop-b-preserved c = omega (arith, number-next c.args.bits.now c.loop-b.b-index (omega arith))
