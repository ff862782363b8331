-- Numbers and their bits say the same: bits to bytes and back, bytes to bits and back. Assumes nothing.
use Prim.Native.Nat.{ℕ, zero, suc, ◌+◌, ◌*◌, ◌/◌, ◌%◌, ◌^◌}
use mathlib.Core.Path.{◌≡◌, refl, sym, ap, ◌∙◌}
use mathlib.Core.List.{List, [], ◌∷◌, ◌++◌}
use native.Mathlib.Nat.{mul-add-div_right, pow-succ', mul_assoc}
use native.Mathlib.Numerals.{one-add}
use native.Mathlib.Omega.{arith}
use lib.ListN.{length, take, drop, length-take, length-drop, take-append-drop}
use lib.Seq.{take_at, drop_at}
use lib.Pow.{mod-pow-add, high, pow_pos}
use Rattle.des_spec.specs.Bits.{Bits, Bytes, binary, number, binaries, parts, bits_of, bytes_of}
use Rattle.des_spec.proofs.Lists.{below_head, below_tail, below_take, below_drop}
use Rattle.des_spec.proofs.Lengths.{length-binary}
use Rattle.des_spec.proofs.Ranges.{number_lt}

-- n bits of a number say it modulo 2 ^ n
pub number-binary : (n v : ℕ) → number (binary n v) ≡ v % 2 ^ n
unfolding number binary
number-binary zero v = omega arith
number-binary (suc n) v =
    ap (λ (m : ℕ). v / 2 ^ n % 2 * 2 ^ m + number (binary n v)) (length-binary n v)
    ∙ ap (λ (m : ℕ). v / 2 ^ n % 2 * 2 ^ n + m) (number-binary n v)
    ∙ sym (mod-pow-add v 1 n)
    ∙ ap (λ (m : ℕ). v % 2 ^ m) (one-add n)

-- n bits of a number do not depend on what stands above them
pub binary-high : (n a m : ℕ) → binary n (a * 2 ^ n + m) ≡ binary n m
unfolding binary
binary-high zero a m = refl
binary-high (suc n) a m =
    let e : a * 2 ^ suc n + m ≡ a * 2 * 2 ^ n + m = ap (λ (k : ℕ). a * k + m) (pow-succ' 2 n) ∙ ap (λ (k : ℕ). k + m) (sym (mul_assoc a 2 (2 ^ n))) in
    let q : (a * 2 * 2 ^ n + m) / 2 ^ n ≡ a * 2 + m / 2 ^ n = mul-add-div_right (pow_pos n) (a * 2) m in
    let h : (a * 2 * 2 ^ n + m) / 2 ^ n % 2 ≡ m / 2 ^ n % 2 = omega arith in
    ap (binary (suc n)) e ∙ ap (λ (x : ℕ). x ∷ binary n (a * 2 * 2 ^ n + m)) h ∙ ap (λ (t : List ℕ). m / 2 ^ n % 2 ∷ t) (binary-high n (a * 2) m)

pub binary-number : (l : List ℕ) → Bits l → binary (length l) (number l) ≡ l
unfolding number binary
binary-number [] b = refl
binary-number (x ∷ l) b =
    let n = length l in
    let m = number l in
    let q : (x * 2 ^ n + m) / 2 ^ n ≡ x = high x n (number_lt l (below_tail b)) in
    let d : (x * 2 ^ n + m) / 2 ^ n % 2 ≡ x = omega (arith, q, below_head b) in
    ap (λ (y : ℕ). y ∷ binary n (x * 2 ^ n + m)) d ∙ ap (λ (t : List ℕ). x ∷ t) (binary-high n x m ∙ binary-number l (below_tail b))

pub bits_of_bytes : (n : ℕ) (y : List ℕ) → Bits y → length y ≡ 8 * n → bits_of (bytes_of n y) ≡ y
unfolding bits_of binaries bytes_of parts
bits_of_bytes zero [] b e = refl
bits_of_bytes zero (x ∷ y) b e = absurd (omega arith)
bits_of_bytes (suc n) y b e =
    let l : length (take 8 y) ≡ 8 = simp length-take (omega arith) in
    let r : length (drop 8 y) ≡ 8 * n = simp length-drop (omega arith) in
    ap (λ (m : ℕ). binary m (number (take 8 y)) ++ bits_of (bytes_of n (drop 8 y))) (sym l)
    ∙ ap (λ (t : List ℕ). t ++ bits_of (bytes_of n (drop 8 y))) (binary-number (take 8 y) (below_take 8 y b))
    ∙ ap (λ (t : List ℕ). take 8 y ++ t) (bits_of_bytes n (drop 8 y) (below_drop 8 b) r)
    ∙ take-append-drop 8 y

pub bytes_of_bits : (l : List ℕ) → Bytes l → bytes_of (length l) (bits_of l) ≡ l
unfolding bits_of binaries bytes_of parts
bytes_of_bits [] b = refl
bytes_of_bits (v ∷ l) b =
    let rest = bits_of l in
    let a : number (binary 8 v) ≡ v = omega (arith, number-binary 8 v, below_head b) in
    ap (λ (t : List ℕ). number t ∷ bytes_of (length l) (drop 8 (binary 8 v ++ rest))) (take_at (binary 8 v) rest 8 (length-binary 8 v))
    ∙ ap (λ (x : ℕ). x ∷ bytes_of (length l) (drop 8 (binary 8 v ++ rest))) a
    ∙ ap (λ (t : List ℕ). v ∷ bytes_of (length l) t) (drop_at (binary 8 v) rest 8 (length-binary 8 v))
    ∙ ap (λ (t : List ℕ). v ∷ t) (bytes_of_bits l (below_tail b))
