-- Finished or cut, of every plan of stores: what a run of them under a limit gives. Assumes nothing.
use mathlib.Core.List.{List, []}
use mathlib.Core.Logic.{◌⊎◌, inl, inr}
use mathlib.Core.Path.{◌≡◌, refl, sym}
use Prim.Native.Nat.{ℕ, ◌≤◌, ◌<◌}
use native.Mathlib.Omega.{arith}
use borrow.Author.Tests.{ltb-true, ltb-false, le-ltb}
use lib.Dec.{ltb}
use lib.ListN.{length}
use lib.Seq.{take-nil}
use Rattle.octets.specs.Choice.{pick}
use Rattle.octets.specs.Bytes.{paste}
use Rattle.octets.proofs.Rules.{pick_holds}
use Rattle.stores.specs.Stores.{Store, applied, leaves, answers, reports}
use Rattle.stores.proofs.Limits.{answers-done, answers-cut, reports_limit, reports-count}
use Rattle.session.specs.declared.Session.{Session}
use Rattle.session.specs.Transitions.{unselected}
use Rattle.purse_spec.specs.Calls.{Run, performed}

-- a plan of no stores
pub leaves_nothing : (L : ℕ) (m : List ℕ) → leaves [] L m ≡ m
unfolding leaves applied
leaves_nothing L m = rw (take-nil {A = Store} L)

-- the run of a plan, by its answer, its count and memory
pub record Follows (p : List Store) (L : ℕ) (m : List ℕ) (r : Run) : Type 0 where
  pub answer : r.answer ≡ answers p L
  pub count : r.count ≡ reports p L
  pub memory : r.memory ≡ leaves p L m

-- what holds of a cut run and of a finished one
pub by_limit : (P : Run → Type 0) (limit n : ℕ) (cut done : Run) → (limit < n → P cut) → (n ≤ limit → P done) → P (pick (ltb limit n) cut done)
by_limit P limit n cut done f g = pick_holds P (ltb limit n) cut done (λ t. f (ltb-true _ _ t)) (λ t. g (ltb-false _ _ t))

module _ (p : List Store) (L : ℕ) (m : List ℕ) (s : Session) (reply area : List ℕ) where
  pub performed_follows : Follows p L m (performed p L m s reply area)
  unfolding performed
  performed_follows =
      by_limit (Follows p L m) L _ _ _ (λ t. let z = answers-cut p L t in record { answer = sym z; count = sym (reports_limit p L z); memory = refl })
      (λ t. let z = answers-done p L t in record { answer = sym z; count = sym (reports-count p L z); memory = refl })

  pub done_or_cut : ((performed p L m s reply area).answer ≡ 0) ⊎ ((performed p L m s reply area).answer ≡ 7)
  unfolding performed
  done_or_cut = by_limit (λ (r : Run). (r.answer ≡ 0) ⊎ (r.answer ≡ 7)) L _ _ _ (λ t. inr refl) (λ t. inl refl)

-- a plan of no stores and no reply finishes at every limit
pub performed-nothing : (L : ℕ) (m : List ℕ)
    → performed [] L m unselected [] [] ≡ record { answer = 0; count = 0; session = unselected; memory = m; length = 0; response = [] }
unfolding performed paste
performed-nothing L m = rw (le-ltb L 0 (omega arith), leaves_nothing L m)
