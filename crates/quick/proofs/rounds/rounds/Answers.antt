-- `rounds`: after i turns, 2 i of the rounds are done. Assumes nothing.
use Prim.Native.Nat.{◌*◌}
use borrow.Author.Rules.{rules}
use Rattle.quick.proofs.Rounded.{start, turn, done}
use Rattle.quick.proofs.rounds.rounds.Goals as goal

pub loop-i-init : goal.loop-i-init
loop-i-init c = start c.args.ks.now c.args.b c.ranges.b.fits

pub loop-i-preserved : goal.loop-i-preserved
loop-i-preserved c =
    turn c.args.ks.now c.args.b c.loop-i.l c.loop-i.r c.loop-i.i c.cipher-l.result c.cipher-r.result (search rules) (search rules)
    c.cipher-l.type_inv c.cipher-r.type_inv c.cipher-l.ensures c.cipher-r.ensures c.loop-i.invariant

pub returns : goal.returns
returns c =
    done c.args.ks.now c.args.b c.loop-i.l c.loop-i.r (2 * c.loop-i.i) (search rules) (search rules) c.loop-i.invariant
