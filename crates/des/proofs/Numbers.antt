-- The number that a list of bits says, one bit more at a time, and the entry that six bits select. Assumes nothing.
use Prim.Native.Nat.{ℕ, suc, ◌+◌, ◌*◌, ◌^◌, ◌<◌, ◌≤◌}
use mathlib.Core.Path.{◌≡◌, sym, ap, ◌∙◌, subst}
use mathlib.Core.List.{List, [], ◌∷◌, ◌++◌}
use native.Mathlib.Nat.{pow-succ', mul_assoc, mul_comm, lt_of_lt_of_le}
use native.Mathlib.Numerals.{add-one}
use native.Mathlib.Omega.{arith}
use lib.ListN.{length, get_or, take, length-append}
use lib.Seq.{take-suc, length-take-le}
use lib.Dec.{lit<}
use lib.Pow.{pow_mono}
use Rattle.des_spec.specs.Bits.{Bits, number}
use Rattle.des_spec.proofs.Lists.{below_cons, below_replicate, below_take}
use Rattle.des_spec.proofs.Ranges.{number_lt}

number_append : (l : List ℕ) (b : ℕ) → number (l ++ (b ∷ [])) ≡ 2 * number l + b
unfolding number
number_append [] b = omega arith
number_append (x ∷ l) b =
    let n : length (l ++ (b ∷ [])) ≡ suc (length l) = length-append l (b ∷ []) ∙ omega arith in
    let p : x * 2 ^ suc (length l) ≡ 2 * (x * 2 ^ length l) =
    ap (λ (m : ℕ). x * m) (pow-succ' 2 (length l)) ∙ sym (mul_assoc x 2 (2 ^ length l)) ∙ ap (λ (m : ℕ). m * 2 ^ length l) (mul_comm x 2) ∙ mul_assoc 2 x (2 ^ length l) in
    ap (λ (m : ℕ). x * 2 ^ m + number (l ++ (b ∷ []))) n
    ∙ ap (λ (m : ℕ). x * 2 ^ suc (length l) + m) (number_append l b)
    ∙ omega (arith, p)

pub number-next : (l : List ℕ) (i : ℕ) → i < length l → number (take (i + 1) l) ≡ 2 * number (take i l) + get_or l i 0
number-next l i h = ap (λ (n : ℕ). number (take n l)) (add-one i) ∙ ap number (take-suc l i 0 h) ∙ number_append (take i l) (get_or l i 0)

-- fewer than eight bits say a number below 128
pub number-room : (l : List ℕ) (i : ℕ) → Bits l → i ≤ length l → i < 8 → number (take i l) < 128
number-room l i b h g =
    let e : length (take i l) ≤ 7 = subst (λ (n : ℕ). n ≤ 7) (sym (length-take-le i l h)) (omega arith) in
    lt_of_lt_of_le (number_lt (take i l) (below_take i l b)) (pow_mono e)

-- two bits of a list say a number below 4, four a number below 16
pub bits_two : (l : List ℕ) (i j : ℕ) → Bits l → Bits (get_or l i 0 ∷ get_or l j 0 ∷ [])
bits_two l i j b = below_cons (b.at i) (below_cons (b.at j) (below_replicate 0 0 (lit< tt)))

pub bits_four : (l : List ℕ) (i j k m : ℕ) → Bits l → Bits (get_or l i 0 ∷ get_or l j 0 ∷ get_or l k 0 ∷ get_or l m 0 ∷ [])
bits_four l i j k m b = below_cons (b.at i) (below_cons (b.at j) (bits_two l k m b))
