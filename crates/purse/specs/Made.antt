-- Changes in a row, made under a limit. Assumes nothing.
use Rattle.std.specs.Prelude.{List, ◌≡◌, ℕ, length}
use Rattle.stores.specs.Stores.{leaves}
use Rattle.card.specs.declared.change.Change.{Change}
use Rattle.purse_spec.specs.Commands.{plans}

-- their stores are n in all, and m' is left of m
pub record Made (xs : List Change) (m : List ℕ) (limit n : ℕ) (m' : List ℕ) : Type 0 where
  pub count : n ≡ length (plans xs m)
  pub memory : m' ≡ leaves (plans xs m) limit m
