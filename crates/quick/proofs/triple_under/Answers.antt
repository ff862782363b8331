-- `triple_under`: what is left out between two of the three undoes itself. Assumes nothing.
use Rattle.quick.proofs.Blocks.{three}
use Rattle.quick.proofs.triple_under.Goals as goal

pub returns : goal.returns
returns c =
    let a = c.args in
    three a.block c.store.result a.outer.now a.inner.now c.load.result c.initial.result
    c.rounds-first.result c.rounds-second.result c.rounds-third.result c.inverse.result
    c.load.ensures c.initial.ensures c.rounds-first.ensures c.rounds-second.ensures c.rounds-third.ensures c.inverse.ensures c.store.ensures
