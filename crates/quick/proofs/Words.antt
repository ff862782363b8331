-- Words and their bits: what addition modulo 2, shifts and remainders of a word do to its list of bits. Assumes nothing.
use mathlib.Core.Path.{◌≡◌, refl, sym, ap, ap₂, ◌∙◌}
use mathlib.Core.List.{List, [], ◌∷◌, ◌++◌, zip_with}
use Prim.Native.Nat.{ℕ, zero, suc, ◌+◌, ◌-◌, ◌*◌, ◌/◌, ◌%◌, ◌^◌, ◌<◌}
use native.Mathlib.Nat.{add_comm, zero-add, suc-add}
use native.Mathlib.Omega.{arith}
use lib.Pow.{shr-shr, field, mod-mod-pow, high, shr_lt}
use lib.Bits.{bit_xor, xor_shr, xor_add_and}
use lib.ListN.{length, get_or, take, drop}
use lib.Seq.{take_at, drop_at}
use Rattle.des_spec.specs.Bits.{binary, xor}
use Rattle.des_spec.specs.Des.{permute, rotate}
use Rattle.des_spec.proofs.Binary.{binary-high}
use Rattle.des_spec.proofs.Lengths.{length-binary}

-- ---- the bits of a sum modulo 2
bit-xor : (a b : ℕ) → bit_xor a b % 2 ≡ (a % 2 + b % 2) % 2
bit-xor a b = omega (arith, xor_add_and a b)

pub binary-xor : (n a b : ℕ) → binary n (bit_xor a b) ≡ xor (binary n a) (binary n b)
unfolding binary xor zip_with
binary-xor zero a b = refl
binary-xor (suc n) a b =
    ap₂ (λ (x : ℕ) (l : List ℕ). x ∷ l)
    (ap (λ (x : ℕ). x % 2) (xor_shr a b n) ∙ bit-xor (a / 2 ^ n) (b / 2 ^ n))
    (binary-xor n a b)

-- ---- a permutation passes through the sum
get_or_xors : (a b : List ℕ) (i : ℕ) → length a ≡ length b → get_or (xor a b) i 0 ≡ (get_or a i 0 + get_or b i 0) % 2
unfolding xor zip_with
get_or_xors [] [] i e = refl
get_or_xors [] (y ∷ b) i e = absurd (omega arith)
get_or_xors (x ∷ a) [] i e = absurd (omega arith)
get_or_xors (x ∷ a) (y ∷ b) zero e = refl
get_or_xors (x ∷ a) (y ∷ b) (suc i) e = get_or_xors a b i (omega arith)

pub permute_xors : (t a b : List ℕ) → length a ≡ length b → permute t (xor a b) ≡ xor (permute t a) (permute t b)
unfolding permute xor zip_with
permute_xors [] a b e = refl
permute_xors (j ∷ t) a b e = ap₂ (λ (x : ℕ) (l : List ℕ). x ∷ l) (get_or_xors a b (j - 1) e) (permute_xors t a b e)

pub permute-xor : (t : List ℕ) (n a b : ℕ) → permute t (binary n (bit_xor a b)) ≡ xor (permute t (binary n a)) (permute t (binary n b))
permute-xor t n a b =
    ap (permute t) (binary-xor n a b) ∙ permute_xors t (binary n a) (binary n b) (length-binary n a ∙ sym (length-binary n b))

-- ---- fields of a word
-- the n digits of x from the s-th on
unfoldable pub digits_from : ℕ → ℕ → ℕ → List ℕ
digits_from zero s x = []
digits_from (suc n) s x = (x / 2 ^ (s + n) % 2) ∷ digits_from n s x

pub binary_shr : (n s x : ℕ) → binary n (x / 2 ^ s) ≡ digits_from n s x
unfolding binary digits_from
binary_shr zero s x = refl
binary_shr (suc n) s x = ap₂ (λ (y : ℕ) (l : List ℕ). y % 2 ∷ l) (shr-shr x s n) (binary_shr n s x)

-- what lies above is of no concern
pub binary_mod : (n j x : ℕ) → binary n (x % 2 ^ (j + n)) ≡ binary n x
unfolding binary
binary_mod zero j x = refl
binary_mod (suc n) j x =
    let e : j + suc n ≡ j + 1 + n = omega arith in
    let e' : j + suc n ≡ suc j + n = omega arith in
    ap₂ (λ (y : ℕ) (l : List ℕ). y ∷ l)
    (ap (λ (k : ℕ). x % 2 ^ k / 2 ^ n % 2) e ∙ ap (λ (y : ℕ). y % 2) (field x (j + 1) n) ∙ mod-mod-pow (x / 2 ^ n) j 1)
    (ap (λ (k : ℕ). binary n (x % 2 ^ k)) e' ∙ binary_mod n (suc j) x)

pub binary-append : (m n x : ℕ) → binary (m + n) x ≡ binary m (x / 2 ^ n) ++ binary n x
unfolding binary
binary-append zero n x = ap (λ (k : ℕ). binary k x) (zero-add n)
binary-append (suc m) n x =
    ap (λ (k : ℕ). binary k x) (suc-add m n)
    ∙ ap₂ (λ (y : ℕ) (l : List ℕ). y % 2 ∷ l)
    (ap (λ (k : ℕ). x / 2 ^ k) (add_comm m n) ∙ sym (shr-shr x n m))
    (binary-append m n x)

pub binary_join : (m n a b : ℕ) → b < 2 ^ n → binary (m + n) (a * 2 ^ n + b) ≡ binary m a ++ binary n b
binary_join m n a b h = binary-append m n (a * 2 ^ n + b) ∙ ap₂ (λ (x : ℕ) (l : List ℕ). binary m x ++ l) (high a n h) (binary-high n a b)

-- the two halves of a word
pub high_half : (m n x : ℕ) → take m (binary (m + n) x) ≡ binary m (x / 2 ^ n)
high_half m n x = ap (take m) (binary-append m n x) ∙ take_at (binary m (x / 2 ^ n)) (binary n x) m (length-binary m (x / 2 ^ n))

pub low_half : (m n x : ℕ) → drop m (binary (m + n) x) ≡ binary n x
low_half m n x = ap (drop m) (binary-append m n x) ∙ drop_at (binary m (x / 2 ^ n)) (binary n x) m (length-binary m (x / 2 ^ n))

-- a word turned left by s
pub turn_law : (m s c : ℕ) → c < 2 ^ (s + m) → binary (m + s) ((c % 2 ^ m) * 2 ^ s + c / 2 ^ m) ≡ rotate s (binary (s + m) c)
unfolding rotate
turn_law m s c h =
    binary_join m s (c % 2 ^ m) (c / 2 ^ m) (shr_lt s m h)
    ∙ ap₂ (λ (x y : List ℕ). x ++ y)
    (ap (λ (k : ℕ). binary m (c % 2 ^ k)) (sym (zero-add m)) ∙ binary_mod m 0 c ∙ sym (low_half s m c))
    (sym (high_half s m c))
