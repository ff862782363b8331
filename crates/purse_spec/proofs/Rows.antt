-- Changes in a row on a card: finished, they read as the card after all of them; cut, as the card after the first of them, fewer than
-- all. Assumes nothing.
use Rattle.std.specs.Prelude.{is_some}
use mathlib.Core.Bool.{Bool, true, false}
use mathlib.Core.List.{List, [], ◌∷◌}
use mathlib.Core.Option.{some}
use mathlib.Core.Path.{◌≡◌, refl, ap, ◌∙◌}
use Prim.Native.Nat.{ℕ, suc, ◌+◌, ◌*◌, ◌-◌, ◌≤◌, ◌<◌}
use native.Mathlib.Decide.{dec_le}
use native.Mathlib.Nat.{lt_of_not-le}
use native.Mathlib.Omega.{arith}
use lib.ListN.{length, take, length-append}
use Rattle.octets.specs.Bytes.{AreBytes}
use Rattle.octets.specs.Choice.{pick}
use Rattle.stores.specs.Stores.{applied, leaves}
use Rattle.stores.proofs.Plans.{applied-append}
use Rattle.stores.proofs.Limits.{limit_enough}
use Rattle.stores.proofs.Sequence.{leaves-first, leaves-second}
use Rattle.card.specs.Log.{record_size}
use Rattle.card.specs.Card.{Card}
use Rattle.card.specs.Proper.{Proper}
use Rattle.memory.specs.Reading.{read_card}
use Rattle.card.specs.declared.change.Change.{Change}
use Rattle.card.specs.Changes.{changed, after}
use Rattle.memory.specs.Structs.{hot_size, cold_size}
use Rattle.memory.specs.Changes.{plan, store_count}
use Rattle.memory.proofs.Cut.{change_cut}
use Rattle.memory.proofs.Done.{proper_fills, change_done}
use Rattle.memory.proofs.Bounds.{plan-length, change_bytes}
use Rattle.purse_spec.specs.Commands.{plans}
use Rattle.purse_spec.proofs.Performed.{leaves_nothing}

-- the card after any number of the changes is proper
abbrev pub EachProper : Card → List Change → Type 0
EachProper c xs = (n : ℕ) → Proper (after (take n xs) c)

-- the first change alone
pub first_proper : (x : Change) (xs : List Change) (c : Card) → EachProper c (x ∷ xs) → Proper (changed x c)
unfolding after
first_proper x xs c a = a 1

-- the others behind it
pub others_proper : (x : Change) (xs : List Change) (c : Card) → EachProper c (x ∷ xs) → EachProper (changed x c) xs
unfolding after
others_proper x xs c a n = a (suc n)

-- finished
pub plans-done : (xs : List Change) (m : List ℕ) (c : Card) → read_card m ≡ some c → EachProper c xs
    → read_card (applied (plans xs m) m) ≡ some (after xs c)
unfolding plans after applied
plans-done [] m c e a = e
plans-done (x ∷ xs) m c e a =
    let m' = applied (plan x m) m in
    ap read_card (applied-append (plan x m) (plans xs m') m)
    ∙ plans-done xs m' (changed x c) (change_done x m c e (first_proper x xs c a)) (others_proper x xs c a)

-- cut
pub plans-cut : (xs : List Change) (m : List ℕ) (c : Card) (L : ℕ) → read_card m ≡ some c → EachProper c xs → L < length (plans xs m)
    → (n : ℕ) × (n < length xs) × (read_card (leaves (plans xs m) L m) ≡ some (after (take n xs) c))
unfolding plans after
plans-cut [] m c L e a h = absurd (omega arith)
plans-cut (x ∷ xs) m c L e a h =
    let m' = applied (plan x m) m in
    let q = plans xs m' in
    elim (dec_le (length (plan x m)) L) [
      | yes k ↦
          let r =
          plans-cut xs m' (changed x c) (L - length (plan x m)) (change_done x m c e (first_proper x xs c a)) (others_proper x xs c a)
          (omega (arith, length-append (plan x m) q))
          in
          let n : r.0 < length xs = r.1 in
          (suc r.0, omega arith, ap read_card (leaves-second (plan x m) q L m k) ∙ r.2)
      | no k ↦
          let l = lt_of_not-le k in
          (0, omega arith, ap read_card (leaves-first (plan x m) q L m (omega arith)) ∙ change_cut x m c (proper_fills x c (first_proper x xs c a)) e L l)
    ]

-- ---- how many stores

-- of changes in a row
abbrev pub counted : List Change → ℕ
counted [] = 0
counted (x ∷ xs) = store_count x + counted xs

pub plans-length : (xs : List Change) (m : List ℕ) (c : Card) → EachProper c xs → length (plans xs m) ≡ counted xs
unfolding plans
plans-length [] m c a = refl
plans-length (x ∷ xs) m c a =
    let m' = applied (plan x m) m in
    let i = plans-length xs m' (changed x c) (others_proper x xs c a) in
    let n = plan-length x m (proper_fills x c (first_proper x xs c a)) in
    length-append (plan x m) (plans xs m') ∙ (λ j. n j + i j)

-- a change with a record and block C
abbrev most_stores : ℕ
most_stores = hot_size + record_size + cold_size + 1

count_most : (x : Change) → store_count x ≤ most_stores
count_most x = go (is_some x.logged) x.cold
  where
    go : (logs cold : Bool) → hot_size + pick logs record_size 0 + pick cold cold_size 0 + 1 ≤ most_stores
    go true true = omega arith
    go true false = omega arith
    go false true = omega arith
    go false false = omega arith

counted_most : (xs : List Change) → counted xs ≤ most_stores * length xs
counted_most [] = omega arith
counted_most (x ∷ xs) = omega (arith, count_most x, counted_most xs)

-- at most as many each
pub plans_few : (xs : List Change) (m : List ℕ) (c : Card) → EachProper c xs → length (plans xs m) ≤ most_stores * length xs
plans_few xs m c a = omega (arith, plans-length xs m c a, counted_most xs)

-- memory of bytes stays so
pub plans-bytes : (xs : List Change) (m : List ℕ) (c : Card) (L : ℕ) → AreBytes m → read_card m ≡ some c → EachProper c xs
    → AreBytes (leaves (plans xs m) L m)
unfolding plans
plans-bytes [] m c L f e a = rw (leaves_nothing L m) f
plans-bytes (x ∷ xs) m c L f e a =
    let m' = applied (plan x m) m in
    let q = plans xs m' in
    let p = first_proper x xs c a in
    elim (dec_le (length (plan x m)) L) [
      | yes k ↦
          rw (leaves-second (plan x m) q L m k)
          (plans-bytes xs m' (changed x c) (L - length (plan x m))
          (rw (limit_enough (plan x m) (length (plan x m)) m (omega arith)) at (change_bytes x m c f e p (length (plan x m)))) (change_done x m c e p) (others_proper x xs c a))
      | no k ↦ let l = lt_of_not-le k in rw (leaves-first (plan x m) q L m (omega arith)) (change_bytes x m c f e p L)
    ]
