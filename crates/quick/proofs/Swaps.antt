-- Exchanges of bits in a word. What a function does to lists of bits that passes through sums is told by what it does to single bits: one computed test
-- of 64 lists. Assumes nothing.
use mathlib.Core.Path.{◌≡◌, refl, sym, ap, ap₂, ◌∙◌, subst}
use mathlib.Core.Bool.{Bool}
use mathlib.Core.List.{List, [], ◌∷◌, ◌++◌, zip_with}
use Prim.Native.Nat.{ℕ, zero, suc, ◌+◌, ◌-◌, ◌*◌, ◌/◌, ◌%◌, ◌^◌, ◌≤◌, ◌<◌, min}
use native.Mathlib.Nat.{add-zero, zero-mul, one-mul, mod-one, mod-lt, min-le_left}
use native.Mathlib.Numerals.{one-add}
use native.Mathlib.Omega.{arith}
use lib.Arith.{lt-one}
use lib.Dec.{T}
use lib.Pow.{pow_pos, shr-shr, shr_lt, mod-pow-add}
use lib.Bits.{bit_xor, bit_and, and_shr, and_step, xor_shifted}
use lib.ListN.{length, take, drop, length-append, length-take, length-drop}
use Rattle.des_spec.specs.Bits.{binary, xor}
use Rattle.des_spec.specs.Des.{permute}
use Rattle.des_spec.proofs.Lengths.{length-binary, length-xor}
use Rattle.quick.specs.Words.{masked, rightward, leftward, swapped}
use Rattle.quick.proofs.Words.{binary-xor, binary_mod, binary-append, binary_join, high_half, low_half, permute-xor}
use Rattle.des_spec.proofs.Tests.{at, every, same, same_eq}

-- ---- the code's word, as a list of bits
and_bit : (a b : ℕ) → bit_and a b % 2 ≡ min (a % 2) (b % 2)
and_bit a b = omega (arith, and_step a b, min-le_left (a % 2) (b % 2))

masked-cons : (b c : ℕ) (l m : List ℕ) → b < 2 → c < 2 → ◌≡◌ {A = List ℕ} (min b c ∷ masked m l) (masked (c ∷ m) (b ∷ l))
unfolding masked
masked-cons zero zero l m h k = refl
masked-cons (suc zero) zero l m h k = refl
masked-cons zero (suc zero) l m h k = refl
masked-cons (suc zero) (suc zero) l m h k = refl
masked-cons (suc (suc b)) c l m h k = absurd (omega arith)
masked-cons zero (suc (suc c)) l m h k = absurd (omega arith)
masked-cons (suc zero) (suc (suc c)) l m h k = absurd (omega arith)

pub binary_and : (n a m : ℕ) → binary n (bit_and a m) ≡ masked (binary n m) (binary n a)
unfolding binary masked
binary_and zero a m = refl
binary_and (suc n) a m =
    ap₂ (λ (x : ℕ) (l : List ℕ). x ∷ l)
    (ap (λ (x : ℕ). x % 2) (and_shr a m n) ∙ and_bit (a / 2 ^ n) (m / 2 ^ n))
    (binary_and n a m)
    ∙ masked-cons (a / 2 ^ n % 2) (m / 2 ^ n % 2) (binary n a) (binary n m) (omega arith) (omega arith)

binary_right : (s x : ℕ) → s < 64 → x < 2 ^ 64 → binary 64 (x / 2 ^ s) ≡ rightward s (binary 64 x)
unfolding rightward
binary_right s x h g =
    let e : s + (64 - s) ≡ 64 = omega arith in
    let e' : (64 - s) + s ≡ 64 = omega arith in
    let z : x / 2 ^ s / 2 ^ (64 - s) ≡ 0 =
    shr-shr x s (64 - s) ∙ ap (λ (k : ℕ). x / 2 ^ k) e ∙ lt-one (shr_lt 0 64 g) in
    ap (λ (k : ℕ). binary k (x / 2 ^ s)) (sym e)
    ∙ binary-append s (64 - s) (x / 2 ^ s)
    ∙ ap₂ (λ (a b : List ℕ). a ++ b) (ap (binary s) z)
    (sym (high_half (64 - s) s x) ∙ ap (λ (k : ℕ). take (64 - s) (binary k x)) e')

binary_left : (s t : ℕ) → s < 64 → binary 64 ((t * 2 ^ s) % 2 ^ 64) ≡ leftward s (binary 64 t)
unfolding leftward
binary_left s t h =
    let e : s + (64 - s) ≡ 64 = omega arith in
    let e' : 64 ≡ (64 - s) + s = omega arith in
    binary_mod 64 0 (t * 2 ^ s)
    ∙ ap₂ (λ (k y : ℕ). binary k y) e' (sym (add-zero (t * 2 ^ s)))
    ∙ binary_join (64 - s) s t 0 (pow_pos s)
    ∙ ap (λ (a : List ℕ). a ++ binary s 0) (sym (low_half s (64 - s) t) ∙ ap (λ (k : ℕ). drop s (binary k t)) e)

pub swap_law : (x s m : ℕ) → s < 64 → x < 2 ^ 64
    → binary 64 (bit_xor (bit_xor x (bit_and (bit_xor (x / 2 ^ s) x) m)) ((bit_and (bit_xor (x / 2 ^ s) x) m * 2 ^ s) % 2 ^ 64)) ≡ swapped s (binary 64 m) (binary 64 x)
unfolding swapped
swap_law x s m h g =
    let t : ℕ = bit_and (bit_xor (x / 2 ^ s) x) m in
    let e : binary 64 t ≡ masked (binary 64 m) (xor (rightward s (binary 64 x)) (binary 64 x)) =
    binary_and 64 (bit_xor (x / 2 ^ s) x) m
    ∙ ap (masked (binary 64 m)) (binary-xor 64 (x / 2 ^ s) x ∙ ap (λ (l : List ℕ). xor l (binary 64 x)) (binary_right s x h g)) in
    binary-xor 64 (bit_xor x t) ((t * 2 ^ s) % 2 ^ 64)
    ∙ ap₂ xor (binary-xor 64 x t) (binary_left s t h)
    ∙ ap (λ (l : List ℕ). xor (xor (binary 64 x) l) (leftward s l)) e

-- ---- sums pass through
xor_nil : (l : List ℕ) → xor l [] ≡ []
unfolding xor zip_with
xor_nil [] = refl
xor_nil (x ∷ l) = refl

halves : (p q : ℕ) → (p % 2 + q % 2) % 2 ≡ (p + q) % 2
halves p q = omega arith

between : (x y z w : ℕ) → ((x + y) % 2 + (z + w) % 2) % 2 ≡ ((x + z) % 2 + (y + w) % 2) % 2
between x y z w =
    let e : x + y + (z + w) ≡ x + z + (y + w) = omega arith in
    halves (x + y) (z + w) ∙ ap (λ (n : ℕ). n % 2) e ∙ sym (halves (x + z) (y + w))

xor-xor : (a b c d : List ℕ) → xor (xor a b) (xor c d) ≡ xor (xor a c) (xor b d)
unfolding xor zip_with
xor-xor [] b c d = refl
xor-xor (x ∷ a) [] [] d = refl
xor-xor (x ∷ a) [] (z ∷ c) d = refl
xor-xor (x ∷ a) (y ∷ b) [] d = refl
xor-xor (x ∷ a) (y ∷ b) (z ∷ c) [] = refl
xor-xor (x ∷ a) (y ∷ b) (z ∷ c) (w ∷ d) = ap₂ (λ (n : ℕ) (l : List ℕ). n ∷ l) (between x y z w) (xor-xor a b c d)

take-xor : (n : ℕ) (a b : List ℕ) → take n (xor a b) ≡ xor (take n a) (take n b)
unfolding xor zip_with
take-xor zero a b = refl
take-xor (suc n) [] b = refl
take-xor (suc n) (x ∷ a) [] = refl
take-xor (suc n) (x ∷ a) (y ∷ b) = ap (λ (l : List ℕ). (x + y) % 2 ∷ l) (take-xor n a b)

drop-xor : (n : ℕ) (a b : List ℕ) → drop n (xor a b) ≡ xor (drop n a) (drop n b)
unfolding xor zip_with
drop-xor zero a b = refl
drop-xor (suc n) [] b = refl
drop-xor (suc n) (x ∷ a) [] = sym (xor_nil (drop n a))
drop-xor (suc n) (x ∷ a) (y ∷ b) = drop-xor n a b

append-xor : (a b c d : List ℕ) → length a ≡ length b → xor (a ++ c) (b ++ d) ≡ xor a b ++ xor c d
unfolding xor zip_with
append-xor [] [] c d e = refl
append-xor [] (y ∷ b) c d e = absurd (omega arith)
append-xor (x ∷ a) [] c d e = absurd (omega arith)
append-xor (x ∷ a) (y ∷ b) c d e = ap (λ (l : List ℕ). (x + y) % 2 ∷ l) (append-xor a b c d (omega arith))

pub masked-xor : (m a b : List ℕ) → masked m (xor a b) ≡ xor (masked m a) (masked m b)
unfolding xor zip_with masked
masked-xor [] a b = refl
masked-xor (c ∷ m) [] b = refl
masked-xor (zero ∷ m) (x ∷ a) [] = refl
masked-xor (suc c ∷ m) (x ∷ a) [] = refl
masked-xor (zero ∷ m) (x ∷ a) (y ∷ b) = ap (λ (l : List ℕ). 0 ∷ l) (masked-xor m a b)
masked-xor (suc c ∷ m) (x ∷ a) (y ∷ b) = ap (λ (l : List ℕ). (x + y) % 2 ∷ l) (masked-xor m a b)

zeros-xor : (s : ℕ) → xor (binary s 0) (binary s 0) ≡ binary s 0
zeros-xor s = sym (binary-xor s 0 0)

length-masked : (m l : List ℕ) → length m ≡ length l → length (masked m l) ≡ length l
unfolding masked
length-masked [] [] e = refl
length-masked [] (x ∷ l) e = absurd (omega arith)
length-masked (c ∷ m) [] e = refl
length-masked (zero ∷ m) (x ∷ l) e = ap suc (length-masked m l (omega arith))
length-masked (suc c ∷ m) (x ∷ l) e = ap suc (length-masked m l (omega arith))

pub record Linear (f : List ℕ → List ℕ) : Type 0 where
  pub size : (l : List ℕ) → length l ≡ 64 → length (f l) ≡ 64
  pub sum : (a b : List ℕ) → length a ≡ 64 → length b ≡ 64 → f (xor a b) ≡ xor (f a) (f b)

pub after : {f g : List ℕ → List ℕ} → Linear g → Linear f → Linear (λ (l : List ℕ). g (f l))
after {f} {g} q p = record {
  size = λ l e. q.size (f l) (p.size l e);
  sum = λ a b e h. ap g (p.sum a b e h) ∙ q.sum (f a) (f b) (p.size a e) (p.size b h);
}

module _ (s : ℕ) (m : List ℕ) (h : s < 64) (k : length m ≡ 64) where
  difference : List ℕ → List ℕ
  difference l = masked m (xor (rightward s l) l)

  length_right : (l : List ℕ) → length l ≡ 64 → length (rightward s l) ≡ 64
  unfolding rightward
  length_right l e = length-append (binary s 0) (take (64 - s) l) ∙ simp (length-binary, length-take) (omega arith)

  right_xor : (a b : List ℕ) → rightward s (xor a b) ≡ xor (rightward s a) (rightward s b)
  unfolding rightward
  right_xor a b =
      ap₂ (λ (x y : List ℕ). x ++ y) (sym (zeros-xor s)) (take-xor (64 - s) a b)
      ∙ sym (append-xor (binary s 0) (binary s 0) (take (64 - s) a) (take (64 - s) b) refl)

  length_difference : (l : List ℕ) → length l ≡ 64 → length (difference l) ≡ 64
  unfolding difference
  length_difference l e =
      let n : length (xor (rightward s l) l) ≡ 64 = length-xor (rightward s l) l (omega (arith, length_right l e)) ∙ length_right l e in
      length-masked m (xor (rightward s l) l) (k ∙ sym n) ∙ n

  difference_xor : (a b : List ℕ) → difference (xor a b) ≡ xor (difference a) (difference b)
  unfolding difference
  difference_xor a b =
      ap (masked m) (ap (λ (l : List ℕ). xor l (xor a b)) (right_xor a b) ∙ xor-xor (rightward s a) (rightward s b) a b)
      ∙ masked-xor m (xor (rightward s a) a) (xor (rightward s b) b)

  length_left : (l : List ℕ) → length l ≡ 64 → length (leftward s l) ≡ 64
  unfolding leftward
  length_left l e = length-append (drop s l) (binary s 0) ∙ simp (length-binary, length-drop) (omega arith)

  left_xor : (a b : List ℕ) → length a ≡ 64 → length b ≡ 64 → leftward s (xor a b) ≡ xor (leftward s a) (leftward s b)
  unfolding leftward
  left_xor a b e g =
      let n : length (drop s a) ≡ length (drop s b) = simp length-drop (omega arith) in
      ap₂ (λ (x y : List ℕ). x ++ y) (drop-xor s a b) (sym (zeros-xor s))
      ∙ sym (append-xor (drop s a) (drop s b) (binary s 0) (binary s 0) n)

  pub swapped_linear : Linear (swapped s m)
  unfolding swapped difference
  swapped_linear = record {
    size = λ l e.
        let n : length (difference l) ≡ 64 = length_difference l e in
        let o : length (xor l (difference l)) ≡ 64 = length-xor l (difference l) (omega arith) ∙ e in
        length-xor (xor l (difference l)) (leftward s (difference l)) (omega (arith, length_left (difference l) n)) ∙ o;
    sum = λ a b e g.
        ap (λ (t : List ℕ). xor (xor (xor a b) t) (leftward s t)) (difference_xor a b)
        ∙ ap₂ xor (xor-xor a b (difference a) (difference b)) (left_xor (difference a) (difference b) (length_difference a e) (length_difference b g))
        ∙ xor-xor (xor a (difference a)) (xor b (difference b)) (leftward s (difference a)) (leftward s (difference b));
  }

-- ---- the test of the single bits
abbrev pub single : (List ℕ → List ℕ) → List ℕ → ℕ → ℕ → Bool
single f t k x = same (f (binary 64 (2 ^ k))) (permute t (binary 64 (2 ^ k)))

module _ (f : List ℕ → List ℕ) (t : List ℕ) (sum : (a b : List ℕ) → length a ≡ 64 → length b ≡ 64 → f (xor a b) ≡ xor (f a) (f b))
    (none : f (binary 64 0) ≡ permute t (binary 64 0)) (tested : T (every (single f t) 0 (binary 64 0))) where
  one : (b k : ℕ) → b < 2 → k < 64 → f (binary 64 (b * 2 ^ k)) ≡ permute t (binary 64 (b * 2 ^ k))
  one zero k h g = ap (λ (n : ℕ). f (binary 64 n)) (zero-mul (2 ^ k)) ∙ none ∙ ap (λ (n : ℕ). permute t (binary 64 n)) (sym (zero-mul (2 ^ k)))
  one (suc zero) k h g =
      ap (λ (n : ℕ). f (binary 64 n)) (one-mul (2 ^ k))
      ∙ same_eq _ _ (at (single f t) (binary 64 0) tested k (subst (λ (n : ℕ). k < n) (sym (length-binary 64 0)) g))
      ∙ ap (λ (n : ℕ). permute t (binary 64 n)) (sym (one-mul (2 ^ k)))
  one (suc (suc b)) k h g = absurd (omega arith)

  low : (x k : ℕ) → k ≤ 64 → f (binary 64 (x % 2 ^ k)) ≡ permute t (binary 64 (x % 2 ^ k))
  low x zero h = ap (λ (n : ℕ). f (binary 64 n)) (mod-one x) ∙ none ∙ ap (λ (n : ℕ). permute t (binary 64 n)) (sym (mod-one x))
  low x (suc k) h =
      let b : ℕ = x / 2 ^ k % 2 ^ 1 in
      let e : x % 2 ^ suc k ≡ bit_xor (b * 2 ^ k) (x % 2 ^ k) =
      ap (λ (n : ℕ). x % 2 ^ n) (sym (one-add k)) ∙ mod-pow-add x 1 k ∙ sym (xor_shifted b k (x % 2 ^ k) (mod-lt x (pow_pos k))) in
      ap (λ (n : ℕ). f (binary 64 n)) e
      ∙ ap f (binary-xor 64 (b * 2 ^ k) (x % 2 ^ k))
      ∙ sum (binary 64 (b * 2 ^ k)) (binary 64 (x % 2 ^ k)) (length-binary 64 (b * 2 ^ k)) (length-binary 64 (x % 2 ^ k))
      ∙ ap₂ xor (one b k (omega arith) (omega arith)) (low x k (omega arith))
      ∙ sym (permute-xor t 64 (b * 2 ^ k) (x % 2 ^ k))
      ∙ ap (λ (n : ℕ). permute t (binary 64 n)) (sym e)

  pub told : (x : ℕ) → f (binary 64 x) ≡ permute t (binary 64 x)
  told x =
      ap f (sym (binary_mod 64 0 x)) ∙ low x 64 (omega arith) ∙ ap (permute t) (binary_mod 64 0 x)
