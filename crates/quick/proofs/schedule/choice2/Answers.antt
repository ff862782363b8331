-- `choice2` adds the word of a nibble a turn. Assumes nothing.
use Rattle.quick.proofs.Nibbles.{start, next, done}
use borrow.Author.Rules.{rules}
use Rattle.quick.proofs.schedule.choice2.Goals as goal

pub loop-j-init : goal.loop-j-init
loop-j-init c = start c.args.x

pub loop-j-preserved : goal.loop-j-preserved
loop-j-preserved c =
    next c.choices-table.result.now c.args.x c.loop-j.rest c.loop-j.sum c.loop-j.j c.choices-table.ensures (search rules) c.loop-j.invariant

pub returns : goal.returns
returns c = done c.args.x c.loop-j.rest c.loop-j.sum c.loop-j.j (search rules) c.loop-j.invariant
