-- `key_word` is permuted choice 2 of the two halves turned. Assumes nothing.
use mathlib.Core.Path.{ap, ap₂, ◌∙◌}
use mathlib.Core.List.{List, ◌++◌}
use Prim.Native.Nat.{ℕ}
use Rattle.des_spec.specs.Des.{permute}
use Rattle.des_spec.specs.Tables.{PC2}
use Rattle.quick.proofs.Words.{binary_join}
use Rattle.quick.proofs.schedule.key_word.Goals as goal

pub returns : goal.returns
returns c =
    c.choice2.ensures
    ∙ ap (permute PC2)
    (binary_join 28 28 c.turned.result c.turned-2.result c.turned-2.ensures.0
    ∙ ap₂ (λ (x y : List ℕ). x ++ y) c.turned.ensures.1 c.turned-2.ensures.1)
