-- What a limit does to a run, for every plan. Assumes nothing.
use Prim.Native.Nat.{ℕ, zero, suc, ◌≤◌, ◌<◌}
use mathlib.Core.Path.{◌≡◌, refl, sym, ◌∙◌}
use mathlib.Core.Logic.{◌≢◌}
use mathlib.Core.Bool.{Bool, true, false}
use mathlib.Core.List.{List, [], ◌∷◌}
use native.Mathlib.Omega.{arith}
use borrow.Author.Tests.{lt-ltb, le-ltb, ltb-true, ltb-false}
use lib.Dec.{ltb}
use lib.ListN.{length, get_or, set}
use lib.Seq.{take_all, set-get_or, get_or-set_other}
use Rattle.octets.specs.Choice.{pick}
use Rattle.stores.specs.Stores.{Store, applied, leaves, answers, reports}

-- limit 0 leaves memory untouched
pub limit_zero : (p : List Store) (m : List ℕ) → leaves p 0 m ≡ m
unfolding applied leaves
limit_zero p m = refl

-- raising the limit by one makes at most one store more
pub limit_suc : (p : List Store) (L : ℕ) (m : List ℕ) → (a : ℕ) × (v : ℕ) × (leaves p (suc L) m ≡ set (leaves p L m) a v)
unfolding applied leaves
limit_suc [] zero m = (0, get_or m 0 0, sym (set-get_or m 0 0))
limit_suc [] (suc L) m = (0, get_or m 0 0, sym (set-get_or m 0 0))
limit_suc (s ∷ p) zero m = (s.at, s.value, refl)
limit_suc (s ∷ p) (suc L) m = limit_suc p L (set m s.at s.value)

-- so it changes at most one byte
pub limit_one_byte : (p : List Store) (L : ℕ) (m : List ℕ)
    → (a : ℕ) × ((i : ℕ) → i ≢ a → get_or (leaves p (suc L) m) i 0 ≡ get_or (leaves p L m) i 0)
limit_one_byte p L m =
    let w = limit_suc p L m in
    (w.0, λ i h. rw w.2 (get_or-set_other (leaves p L m) w.0 i w.1 0 h))

-- from the plan's length on memory is the same at every limit
pub limit_enough : (p : List Store) (L : ℕ) (m : List ℕ) → length p ≤ L → leaves p L m ≡ applied p m
unfolding leaves
limit_enough p L m h = rw (take_all L p h)

pub limit_larger : (p : List Store) (L K : ℕ) (m : List ℕ) → length p ≤ L → L ≤ K → leaves p K m ≡ leaves p L m
limit_larger p L K m h k = limit_enough p K m (omega arith) ∙ sym (limit_enough p L m h)

-- ---- answers and counts

pub answers-done : (p : List Store) (L : ℕ) → length p ≤ L → answers p L ≡ 0
unfolding answers
answers-done p L h = rw (le-ltb L (length p) h)

pub answers-cut : (p : List Store) (L : ℕ) → L < length p → answers p L ≡ 7
unfolding answers
answers-cut p L h = rw (lt-ltb L (length p) h)

pub seven_cut : (p : List Store) (L : ℕ) → answers p L ≡ 7 → L < length p
unfolding answers
seven_cut p L e = go (ltb L (length p)) refl e
  where
    go : (b : Bool) → ltb L (length p) ≡ b → ◌≡◌ {A = ℕ} (pick b 7 0) 7 → L < length p
    go true x y = ltb-true L (length p) x
    go false x y = omega arith

-- a run that doesn't answer 7 is finished
pub not_seven_done : (p : List Store) (L : ℕ) → answers p L ≢ 7 → length p ≤ L
unfolding answers
not_seven_done p L h = go (ltb L (length p)) refl h
  where
    go : (b : Bool) → ltb L (length p) ≡ b → ◌≢◌ {A = ℕ} (pick b 7 0) 7 → length p ≤ L
    go true x y = absurd (y refl)
    go false x y = ltb-false L (length p) x

pub zero_done : (p : List Store) (L : ℕ) → answers p L ≡ 0 → length p ≤ L
zero_done p L e = not_seven_done p L (λ s. omega arith)

-- finished runs leave the same memory
pub done-same : (p : List Store) (L K : ℕ) (m : List ℕ) → answers p L ≢ 7 → answers p K ≢ 7 → leaves p L m ≡ leaves p K m
done-same p L K m h k =
    limit_enough p L m (not_seven_done p L h) ∙ sym (limit_enough p K m (not_seven_done p K k))

-- no run of at most 65,535 stores answers 7 at limit 65,535 or above
pub never_seven : (p : List Store) (L : ℕ) → length p ≤ 65535 → 65535 ≤ L → answers p L ≡ 0
never_seven p L h k = answers-done p L (omega arith)

-- 7 reports its limit, a finished run the number of its stores
pub reports_limit : (p : List Store) (L : ℕ) → answers p L ≡ 7 → reports p L ≡ L
unfolding reports
reports_limit p L e = rw (lt-ltb L (length p) (seven_cut p L e))

pub reports-count : (p : List Store) (L : ℕ) → answers p L ≡ 0 → reports p L ≡ length p
unfolding reports
reports-count p L e = rw (le-ltb L (length p) (zero_done p L e))
