-- Many tests at once hold where each of them does. Assumes nothing.
use mathlib.Core.Bool.{Bool, true, false, ◌&&◌, ◌||◌, false≢true}
use mathlib.Core.List.{List, [], ◌∷◌}
use mathlib.Core.Path.{◌≡◌, refl, sym}
use Prim.Native.Nat.{ℕ, ◌+◌, ◌≤◌, ◌<◌}
use native.Mathlib.Numerals.{add-one}
use lib.ListN.{length, get_or, drop, drop_of_length-le}
use lib.Seq.{drop-cons}
use Rattle.octets.specs.Tests.{all_true, Each}

pub each : (bs : List Bool) → all_true bs ≡ true → Each bs
each [] e = tt
each (true ∷ bs) e = (refl, each bs e)
each (false ∷ bs) e = absurd (false≢true e)

pub all_true_lem : (bs : List Bool) → Each bs → all_true bs ≡ true
all_true_lem [] h = refl
all_true_lem (true ∷ bs) h = all_true_lem bs h.1
all_true_lem (false ∷ bs) h = absurd (false≢true h.0)

-- two tests that hold together
pub and_both : (a b : Bool) → (a && b) ≡ true → (a ≡ true) × (b ≡ true)
and_both true b e = (refl, e)
and_both false b e = absurd (false≢true e)

-- two tests of which neither holds
pub neither : (a b : Bool) → (a || b) ≡ false → (a ≡ false) × (b ≡ false)
neither true b e = absurd (false≢true (sym e))
neither false b e = (refl, e)

-- the tests from the i-th on: the next fails, or holds, or there is none
pub test_fails : (l : List Bool) (i : ℕ) → i < length l → get_or l i false ≡ false → all_true (drop i l) ≡ false
test_fails l i h e = rw (drop-cons l i false h, e)

pub test_holds : (l : List Bool) (i : ℕ) → i < length l → get_or l i false ≡ true → all_true (drop i l) ≡ all_true (drop (i + 1) l)
test_holds l i h e = rw (add-one, drop-cons l i false h, e)

pub tests_end : (l : List Bool) (i : ℕ) → length l ≤ i → all_true (drop i l) ≡ true
tests_end l i h = rw (drop_of_length-le l h)
