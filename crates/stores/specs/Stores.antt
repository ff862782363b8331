-- 01, "Stores": a run is a plan, which is a list of single-byte stores, and a limit. It makes the first of its stores, as many as the limit
-- allows. Over any memory. Assumes nothing.
use Rattle.std.specs.Prelude.{ℕ, suc, ◌+◌, ◌≤◌, ◌<◌, List, [], ◌∷◌, ltb, length, take, set}
use Rattle.octets.specs.Choice.{pick}

-- one store: an address and the byte's new value
pub record Store : Type 0 where
  pub at : ℕ
  pub value : ℕ

-- memory after the stores of a plan, one after the other; a store past its end changes nothing
unfoldable pub applied : List Store → List ℕ → List ℕ
applied [] m = m
applied (s ∷ plan) m = applied plan (set m s.at s.value)

-- the plan that puts bytes from an address on
unfoldable pub writes : ℕ → List ℕ → List Store
writes a [] = []
writes a (b ∷ bytes) = record { at = a; value = b } ∷ writes (suc a) bytes

-- what a run leaves in memory
unfoldable pub leaves : List Store → ℕ → List ℕ → List ℕ
leaves plan limit m = applied (take limit plan) m

-- what a run answers: 7 where its limit is reached before the last store
unfoldable pub answers : List Store → ℕ → ℕ
answers plan limit = pick (ltb limit (length plan)) 7 0

-- what a run reports: its limit on 7, the number of its stores when finished
unfoldable pub reports : List Store → ℕ → ℕ
reports plan limit = pick (ltb limit (length plan)) limit (length plan)

-- the address i lies outside the n bytes from a on
abbrev pub Out : ℕ → ℕ → ℕ → Type 0
Out a n i = a ≤ i → i < a + n → ⊥

-- each store of a plan is at an address of which P holds
abbrev pub OnlyAt : (ℕ → Type 0) → List Store → Type 0
OnlyAt P [] = Unit {0}
OnlyAt P (s ∷ plan) = P s.at × OnlyAt P plan
