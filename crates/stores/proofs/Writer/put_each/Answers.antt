-- `put_each`: the first bytes are made, and one more. Assumes nothing.
use Rattle.stores.specs.Stores.{writes}
use Rattle.stores.proofs.Sequence.{made_nothing, made_byte}
use Rattle.stores.proofs.Writer.put_each.Goals as goal

pub loop-i-init : goal.loop-i-init
unfolding writes
loop-i-init c = made_nothing c.args.self.now

pub loop-i-preserved : goal.loop-i-preserved
loop-i-preserved c = made_byte c.args.bytes.now c.loop-i.i c.args.at c.loop-i-test.true c.loop-i.invariant c.put.ensures
