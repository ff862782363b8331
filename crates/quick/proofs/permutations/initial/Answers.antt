-- `initial`: five exchanges are the initial permutation. Assumes nothing.
use mathlib.Core.Path.{ap, ◌∙◌}
use Rattle.des_spec.specs.Bits.{binary}
use Rattle.quick.specs.Words.{swapped}
use Rattle.quick.proofs.Permuted.{initial_law}
use Rattle.quick.proofs.permutations.initial.Goals as goal

pub returns : goal.returns
returns c =
    c.swap.ensures
    ∙ ap (swapped 33 (binary 64 1431655765)) (c.swap-d.ensures
    ∙ ap (swapped 24 (binary 64 4278255360)) (c.swap-c.ensures
    ∙ ap (swapped 30 (binary 64 3435973836)) (c.swap-b.ensures
    ∙ ap (swapped 48 (binary 64 65535)) c.swap-a.ensures)))
    ∙ initial_law c.args.x
