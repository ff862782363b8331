-- The tests on byte strings mean what they say: `same` holds for equal strings alone, `all_zero` for zeros alone. Assumes nothing.
use Prim.Native.Nat.{ℕ, ◌<◌}
use mathlib.Core.Bool.{Bool, true, false, ◌&&◌, false≢true}
use mathlib.Core.List.{List, [], ◌∷◌}
use mathlib.Core.Path.{◌≡◌, refl, sym, ap, ◌∙◌}
use borrow.Author.Tests.{eq-eqb, eqb-true}
use lib.Dec.{eqb}
use lib.ListN.{length, length-replicate, get_or-replicate}
use lib.Seq.{ext_get_or}
use Rattle.octets.specs.Bytes.{same, all_zero, zeros, byte_at}

-- a test that can't hold fails
pub fails : (b : Bool) → (b ≡ true → ⊥) → b ≡ false
fails true h = absurd (h refl)
fails false h = refl

pub same_refl : (a : List ℕ) → same a a ≡ true
same_refl [] = refl
same_refl (x ∷ a) = rw (eq-eqb x x refl) (same_refl a)

pub equal_same : (a b : List ℕ) → a ≡ b → same a b ≡ true
equal_same a b e = rw (← e) (same_refl a)

pub same_equal : (a b : List ℕ) → same a b ≡ true → a ≡ b
same_equal [] [] e = refl
same_equal [] (y ∷ b) e = absurd (false≢true e)
same_equal (x ∷ a) [] e = absurd (false≢true e)
same_equal (x ∷ a) (y ∷ b) e = go (eqb x y) refl (λ q. same_equal a b q) e
  where
    go : (t : Bool) → eqb x y ≡ t → (same a b ≡ true → a ≡ b) → (t && same a b) ≡ true → x ∷ a ≡ y ∷ b
    go true p f q = let h : x ≡ y = eqb-true x y p in let k : a ≡ b = f q in cc
    go false p f q = absurd (false≢true q)

pub differ_same : (a b : List ℕ) → (a ≡ b → ⊥) → same a b ≡ false
differ_same a b h = fails (same a b) (λ e. h (same_equal a b e))

-- two strings of one length with the same bytes
pub bytes_same : (a b : List ℕ) → length a ≡ length b → ((i : ℕ) → i < length a → byte_at a i ≡ byte_at b i) → same a b ≡ true
bytes_same a b e f = equal_same a b (ext_get_or 0 a b e f)

-- a byte that differs
pub byte_differs : (a b : List ℕ) (i : ℕ) → (byte_at a i ≡ byte_at b i → ⊥) → same a b ≡ false
byte_differs a b i h = differ_same a b (λ e. h (ap (λ (x : List ℕ). byte_at x i) e))

-- zero bytes are as many zeros
pub all-zero-same : (s : List ℕ) → all_zero s ≡ same s (zeros (length s))
all-zero-same [] = refl
all-zero-same (x ∷ s) = ap (λ t. eqb x 0 && t) (all-zero-same s)

pub zeros_zero : (n : ℕ) → all_zero (zeros n) ≡ true
zeros_zero n =
    all-zero-same (zeros n)
    ∙ equal_same (zeros n) (zeros (length (zeros n))) (ap zeros (sym (length-replicate {A = ℕ} n 0)))

pub zero_zeros : (s : List ℕ) → all_zero s ≡ true → s ≡ zeros (length s)
zero_zeros s e = same_equal s (zeros (length s)) (sym (all-zero-same s) ∙ e)

pub bytes_zero : (s : List ℕ) → ((i : ℕ) → i < length s → byte_at s i ≡ 0) → all_zero s ≡ true
bytes_zero s f =
    all-zero-same s
    ∙ bytes_same s (zeros (length s)) (sym (length-replicate {A = ℕ} (length s) 0)) (λ i h. f i h ∙ sym (get_or-replicate (length s) i 0 0 h))

pub byte_not_zero : (s : List ℕ) (i : ℕ) → i < length s → (byte_at s i ≡ 0 → ⊥) → all_zero s ≡ false
byte_not_zero s i h f =
    all-zero-same s ∙ byte_differs s (zeros (length s)) i (λ e. f (e ∙ get_or-replicate (length s) i 0 0 h))
