-- `block_under_key` is triple DES under the round keys of its key. Assumes nothing.
use Prim.Native.Nat.{ℕ}
use mathlib.Core.Path.{ap, ◌∙◌}
use mathlib.Core.List.{List}
use Rattle.tdes.proofs.Under.{under_key}
use Rattle.tdes.proofs.triple.block_under_key.Goals as goal

pub returns : goal.returns
returns g c =
    let a = c.args in
    let keys = c.of in
    c.block.ensures ∙ ap (λ (f : List ℕ → List ℕ). f a.block) (under_key a.decipher a.key _ _ keys.ensures.outer keys.ensures.inner)
