-- Who may do what, as a table: document 01, "Access: PUBLIC, DEBIT (set 1), CREDIT (set 2), .. ADMIN (set 3), each including those below"; and
-- which channels are open, which answer with an R-MAC, and the numbers of the key sets that opened them. Assumes nothing.
use mathlib.Core.Bool.{Bool, true, false, false≢true}
use mathlib.Core.List.{List, [], ◌∷◌}
use mathlib.Core.Path.{◌≡◌, refl, sym}
use Prim.Native.Nat.{◌≤◌}
use native.Mathlib.Omega.{arith}
use lib.Dec.{leb}
use Rattle.session.specs.declared.Set.{Set}
use Rattle.session.specs.declared.Set.TheVariants.{Debit, Credit, Admin}
use Rattle.session.specs.declared.Level.{Level}
use Rattle.session.specs.declared.Level.TheVariants.{Closed, Mac, Rmac}
use Rattle.session.specs.Access.{PUBLIC, DEBIT, CREDIT, ADMIN, access_of, access, is_open, has_rmac}
use Rattle.session.specs.Codes.{opened_by}
use Rattle.session.proofs.RoundTrip.{set-least, set_small}

-- what a channel may do: what is open to PUBLIC, to DEBIT, to CREDIT, to ADMIN
abbrev pub allowed : Level → List Bool
allowed level = leb PUBLIC (access level) ∷ leb DEBIT (access level) ∷ leb CREDIT (access level) ∷ leb ADMIN (access level) ∷ []

-- set 1, set 2, set 3; the security level, 01 or 11, makes no difference
abbrev pub rights : Set → List Bool
rights Debit = true ∷ true ∷ false ∷ false ∷ []
rights Credit = true ∷ true ∷ true ∷ false ∷ []
rights Admin = true ∷ true ∷ true ∷ true ∷ []

-- the whole table: no channel, level 01, level 11
pub record Table (set : Set) : Type 0 where
  pub none : allowed Closed ≡ true ∷ false ∷ false ∷ false ∷ []
  pub mac : allowed (Mac set) ≡ rights set
  pub rmac : allowed (Rmac set) ≡ rights set

-- every set and level is so
pub who_may : (set : Set) → Table set
unfolding access access_of
who_may Debit = record { none = refl; mac = refl; rmac = refl }
who_may Credit = record { none = refl; mac = refl; rmac = refl }
who_may Admin = record { none = refl; mac = refl; rmac = refl }

-- there is a channel exactly at level 01 or 11, and its answers carry an R-MAC exactly at 11
pub record Open (level : Level) : Type 0 where
  pub shut : is_open level ≡ false → level ≡ Closed
  pub opened : (level ≡ Closed → ⊥) → is_open level ≡ true
  pub with_rmac : has_rmac level ≡ true → (set : Set) × (level ≡ Rmac set)
  pub without : ((set : Set) → level ≡ Rmac set → ⊥) → has_rmac level ≡ false

-- every level is so
pub open_or_not : (level : Level) → Open level
unfolding is_open has_rmac
open_or_not Closed = record { shut = λ e. refl; opened = λ n. absurd (n refl); with_rmac = λ e. absurd (false≢true e); without = λ n. refl }
open_or_not (Mac set) =
    record { shut = λ e. absurd (false≢true (sym e)); opened = λ n. refl; with_rmac = λ e. absurd (false≢true e); without = λ n. refl }
open_or_not (Rmac set) =
    record { shut = λ e. absurd (false≢true (sym e)); opened = λ n. refl; with_rmac = λ e. (set, refl); without = λ n. absurd (n set refl) }

-- one that answers with an R-MAC was opened by set 1, 2 or 3
pub opened_range : (level : Level) → has_rmac level ≡ true → (1 ≤ opened_by level) × (opened_by level ≤ 3)
unfolding opened_by has_rmac
opened_range Closed e = absurd (false≢true e)
opened_range (Mac set) e = absurd (false≢true e)
opened_range (Rmac set) e = (set-least set, omega (arith, set_small set))
