-- The round keys of a key, a word each, in either order. Assumes nothing.
use mathlib.Core.Path.{◌≡◌, refl, sym, ap, ap₂, ◌∙◌, subst}
use mathlib.Core.List.{List, [], ◌∷◌, ◌++◌, map, reverse, reverse_aux}
use Prim.Native.Nat.{ℕ, ◌+◌, ◌-◌, ◌*◌, ◌/◌, ◌%◌, ◌^◌, ◌≤◌, ◌<◌}
use native.Mathlib.Omega.{arith}
use lib.Pow.{shr_lt}
use lib.ListN.{length, take, drop}
use lib.Seq.{take-append-add, drop-append-le}
use Rattle.des_spec.specs.Bits.{binary}
use Rattle.des_spec.specs.Des.{permute, rotate, shift_halves, keys_from}
use Rattle.des_spec.specs.Tables.{shifts, PC2}
use Rattle.des_spec.proofs.Lengths.{length-binary}
use Rattle.quick.specs.Words.{key_bits, halves_at}
use Rattle.quick.proofs.Words.{binary_mod, binary_shr, binary_join, high_half, low_half, digits_from}

abbrev cons : List ℕ → List (List ℕ) → List (List ℕ)
cons k ks = k ∷ ks

-- ---- C and D
pub halves : (z : ℕ) → binary 28 (z / 2 ^ 36) ++ binary 28 (z / 2 ^ 4 % 2 ^ 28) ≡ permute halves_at (binary 64 z)
unfolding digits_from permute halves_at binary
halves z = ap₂ (λ (x y : List ℕ). x ++ y) (binary_shr 28 36 z) (binary_mod 28 0 (z / 2 ^ 4) ∙ binary_shr 28 4 z)

-- what the code asks of a round key
pub ready : {z n : ℕ} → z < 2 ^ 64 → n < 29
    → (z / 2 ^ 36 < 2 ^ 28) × ((z / 2 ^ 4 % 2 ^ 28 < 2 ^ 28) × (n < 29))
ready {z} h g = (shr_lt 28 36 h, (omega arith, g))

rotated : (m : ℕ) (l : List ℕ) → m ≤ length l → drop m (take (length l + m) (l ++ l)) ≡ rotate m l
unfolding rotate
rotated m l h = ap (drop m) (take-append-add l l m) ∙ drop-append-le m l (take m l) h

pub turned : (c n : ℕ) → c < 2 ^ 28 → n ≤ 28 → binary 28 (c * 268435457 / 2 ^ n % 268435456) ≡ rotate (28 - n) (binary 28 c)
turned c n h g =
    let e : c * 268435457 ≡ c * 2 ^ 28 + c = omega arith in
    let f : 28 + (28 - n) ≡ (28 - n) + 28 = omega arith in
    let f' : (28 - n) + 28 + n ≡ 56 = omega arith in
    let x : ℕ = c * 268435457 in
    binary_mod 28 0 (x / 2 ^ n)
    ∙ sym (low_half (28 - n) 28 (x / 2 ^ n))
    ∙ ap (drop (28 - n))
    (sym (high_half ((28 - n) + 28) n x)
    ∙ ap₂ (λ (k : ℕ) (l : List ℕ). take k l) (sym f)
    (ap₂ (λ (k y : ℕ). binary k y) f' e ∙ binary_join 28 28 c c h))
    ∙ ap (λ (k : ℕ). drop (28 - n) (take (k + (28 - n)) (binary 28 c ++ binary 28 c))) (sym (length-binary 28 c))
    ∙ rotated (28 - n) (binary 28 c) (subst (λ (k : ℕ). 28 - n ≤ k) (sym (length-binary 28 c)) (omega arith))

-- ---- K1 to K16
module _ (c d k1 k2 k3 k4 k5 k6 k7 k8 k9 k10 k11 k12 k13 k14 k15 k16 : ℕ)
    (e1 : key_bits k1 ≡ permute PC2 (rotate 1 (binary 28 c) ++ rotate 1 (binary 28 d)))
    (e2 : key_bits k2 ≡ permute PC2 (rotate 2 (binary 28 c) ++ rotate 2 (binary 28 d)))
    (e3 : key_bits k3 ≡ permute PC2 (rotate 4 (binary 28 c) ++ rotate 4 (binary 28 d)))
    (e4 : key_bits k4 ≡ permute PC2 (rotate 6 (binary 28 c) ++ rotate 6 (binary 28 d)))
    (e5 : key_bits k5 ≡ permute PC2 (rotate 8 (binary 28 c) ++ rotate 8 (binary 28 d)))
    (e6 : key_bits k6 ≡ permute PC2 (rotate 10 (binary 28 c) ++ rotate 10 (binary 28 d)))
    (e7 : key_bits k7 ≡ permute PC2 (rotate 12 (binary 28 c) ++ rotate 12 (binary 28 d)))
    (e8 : key_bits k8 ≡ permute PC2 (rotate 14 (binary 28 c) ++ rotate 14 (binary 28 d)))
    (e9 : key_bits k9 ≡ permute PC2 (rotate 15 (binary 28 c) ++ rotate 15 (binary 28 d)))
    (e10 : key_bits k10 ≡ permute PC2 (rotate 17 (binary 28 c) ++ rotate 17 (binary 28 d)))
    (e11 : key_bits k11 ≡ permute PC2 (rotate 19 (binary 28 c) ++ rotate 19 (binary 28 d)))
    (e12 : key_bits k12 ≡ permute PC2 (rotate 21 (binary 28 c) ++ rotate 21 (binary 28 d)))
    (e13 : key_bits k13 ≡ permute PC2 (rotate 23 (binary 28 c) ++ rotate 23 (binary 28 d)))
    (e14 : key_bits k14 ≡ permute PC2 (rotate 25 (binary 28 c) ++ rotate 25 (binary 28 d)))
    (e15 : key_bits k15 ≡ permute PC2 (rotate 27 (binary 28 c) ++ rotate 27 (binary 28 d)))
    (e16 : key_bits k16 ≡ permute PC2 (rotate 28 (binary 28 c) ++ rotate 28 (binary 28 d))) where
  pub scheduled : map key_bits (k1 ∷ k2 ∷ k3 ∷ k4 ∷ k5 ∷ k6 ∷ k7 ∷ k8 ∷ k9 ∷ k10 ∷ k11 ∷ k12 ∷ k13 ∷ k14 ∷ k15 ∷ k16 ∷ [])
      ≡ keys_from shifts (binary 28 c ++ binary 28 d)
  unfolding keys_from shifts shift_halves rotate binary
  scheduled =
      ap₂ cons e1 (ap₂ cons e2 (ap₂ cons e3 (ap₂ cons e4 (ap₂ cons e5 (ap₂ cons e6 (ap₂ cons e7 (ap₂ cons e8
      (ap₂ cons e9 (ap₂ cons e10 (ap₂ cons e11 (ap₂ cons e12 (ap₂ cons e13 (ap₂ cons e14 (ap₂ cons e15 (ap₂ cons e16 refl)))))))))))))))

-- ---- the other way round
map_reverse_aux : (f : ℕ → List ℕ) (l r : List ℕ) → map f (reverse_aux l r) ≡ reverse_aux (map f l) (map f r)
map_reverse_aux f [] r = refl
map_reverse_aux f (x ∷ l) r = map_reverse_aux f l (x ∷ r)

pub map-reverse : (f : ℕ → List ℕ) (l : List ℕ) → map f (reverse l) ≡ reverse (map f l)
map-reverse f l = map_reverse_aux f l []
