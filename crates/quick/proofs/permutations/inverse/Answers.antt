-- `inverse`: the same five the other way round are its inverse. Assumes nothing.
use mathlib.Core.Path.{ap, ◌∙◌}
use Rattle.des_spec.specs.Bits.{binary}
use Rattle.quick.specs.Words.{swapped}
use Rattle.quick.proofs.Permuted.{inverse_law}
use Rattle.quick.proofs.permutations.inverse.Goals as goal

pub returns : goal.returns
returns c =
    c.swap.ensures
    ∙ ap (swapped 36 (binary 64 252645135)) (c.swap-d.ensures
    ∙ ap (swapped 48 (binary 64 65535)) (c.swap-c.ensures
    ∙ ap (swapped 30 (binary 64 3435973836)) (c.swap-b.ensures
    ∙ ap (swapped 24 (binary 64 4278255360)) c.swap-a.ensures)))
    ∙ inverse_law c.args.x
