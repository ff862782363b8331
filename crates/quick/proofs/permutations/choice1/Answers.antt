-- `choice1`: the initial permutation and three exchanges more put C and D where they belong. Assumes nothing.
use Rattle.quick.proofs.Permuted.{choice1_law}
use Rattle.quick.proofs.permutations.choice1.Goals as goal

pub returns : goal.returns
returns c =
    choice1_law c.args.x
    c.initial-a.result c.swap-b.result c.swap-c.result c.swap.result
    c.initial-a.ensures c.swap-b.ensures c.swap-c.ensures c.swap.ensures
