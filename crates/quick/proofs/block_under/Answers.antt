-- `block_under` is the composition of its parts. Assumes nothing.
use Rattle.quick.proofs.Blocks.{one}
use Rattle.quick.proofs.block_under.Goals as goal

pub returns : goal.returns
returns c =
    let a = c.args in
    one a.block c.store.result a.ks.now c.load.result c.initial.result c.rounds-last.result c.inverse.result
    c.load.ensures c.initial.ensures c.rounds-last.ensures c.inverse.ensures c.store.ensures
