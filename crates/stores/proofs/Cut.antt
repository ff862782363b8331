-- A cut run, for any reading of memory: a view, and the addresses that are dead in it, where a store leaves the view as it is. Assumes nothing.
use Prim.Native.Nat.{ℕ, ◌-◌, ◌≤◌, ◌<◌}
use mathlib.Core.Path.{◌≡◌, refl, sym, ◌∙◌, subst}
use mathlib.Core.Logic.{◌⊎◌, inl, inr}
use mathlib.Core.List.{List, [], ◌∷◌, ◌++◌}
use native.Mathlib.Decide.{dec_le}
use native.Mathlib.Nat.{lt_of_not-le}
use native.Mathlib.Omega.{arith}
use lib.ListN.{length, take, set, length-append}
use lib.Seq.{take-append-le}
use Rattle.stores.specs.Stores.{Store, applied, leaves, OnlyAt}
use Rattle.stores.proofs.Plans.{only-take}
use Rattle.stores.proofs.Sequence.{leaves-first, leaves-second}

module _ (Seen : Type 0) (view : List ℕ → Seen) (Dead : Seen → ℕ → Type 0)
    (kept : (m : List ℕ) (i v : ℕ) → Dead (view m) i → view (set m i v) ≡ view m) where
  -- dead stores aren't seen
  pub dead_applied : (p : List Store) (m : List ℕ) → OnlyAt (Dead (view m)) p → view (applied p m) ≡ view m
  unfolding applied
  dead_applied [] m h = refl
  dead_applied (s ∷ p) m h =
      let e : view (set m s.at s.value) ≡ view m = kept m s.at s.value h.0 in
      dead_applied p (set m s.at s.value) (subst (λ (u : Seen). OnlyAt (Dead u) p) (sym e) h.1) ∙ e

  -- dead stores and one last store, q: every cut run reads as before
  pub cut_reads_before : (p q : List Store) (L : ℕ) (m : List ℕ) → OnlyAt (Dead (view m)) p → length q ≡ 1
      → L < length (p ++ q) → view (leaves (p ++ q) L m) ≡ view m
  unfolding leaves
  cut_reads_before p q L m h o k =
      let n : L ≤ length p = omega (arith, length-append p q) in
      rw (take-append-le L p q n) (dead_applied (take L p) m (only-take (Dead (view m)) L p h))

  -- two plans in a row, each of which reads as before when cut: a cut run of both reads as before, or as after the first
  pub cut_two : (p q : List Store) (L : ℕ) (m : List ℕ)
      → ((K : ℕ) → K < length p → view (leaves p K m) ≡ view m)
      → ((K : ℕ) → K < length q → view (leaves q K (applied p m)) ≡ view (applied p m))
      → L < length (p ++ q) → (view (leaves (p ++ q) L m) ≡ view m) ⊎ (view (leaves (p ++ q) L m) ≡ view (applied p m))
  cut_two p q L m a b k =
      elim (dec_le (length p) L) [
        | yes h ↦ inr (rw (leaves-second p q L m h) (b (L - length p) (omega (arith, length-append p q))))
        | no h ↦ inl (rw (leaves-first p q L m (omega (arith, lt_of_not-le h))) (a L (lt_of_not-le h)))
      ]
