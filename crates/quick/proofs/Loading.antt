-- Eight bytes as a word, and back. Assumes nothing.
use mathlib.Core.Path.{◌≡◌, refl, sym, ap, ap₂, ◌∙◌, subst}
use mathlib.Core.List.{List, ◌∷◌}
use Prim.Native.Nat.{ℕ, zero, suc, ◌+◌, ◌*◌, ◌/◌, ◌%◌, ◌^◌, ◌<◌}
use native.Mathlib.Nat.{zero-add, mod-lt}
use native.Mathlib.Numerals.{one-add}
use lib.Arith.{lt-one}
use lib.Pow.{pow_pos, split, shr_mod}
use lib.ListN.{length, get_or}
use Rattle.std.specs.Int.{w64, to_be_bytes, from_be_bytes}
use Rattle.std.proofs.lemmas.Nat.{be_bytes_8}
use Rattle.des_spec.proofs.Binary.{number-binary, bits_of_bytes}
use Rattle.des_spec.proofs.Lengths.{length-binary}
use Rattle.des_spec.proofs.Ranges.{bits-binary}
use Rattle.des_spec.specs.Bits.{binary, bits_of, bytes_of, parts, number}
use Rattle.quick.proofs.Words.{binary_mod, binary_shr, digits_from}

-- ---- a word is told by its bits
head_eq : {a b : ℕ} {l m : List ℕ} → ◌≡◌ {A = List ℕ} (a ∷ l) (b ∷ m) → a ≡ b
head_eq e = cc

tail_eq : {a b : ℕ} {l m : List ℕ} → ◌≡◌ {A = List ℕ} (a ∷ l) (b ∷ m) → l ≡ m
tail_eq e = cc

pub binary_injective : (n x y : ℕ) → x < 2 ^ n → y < 2 ^ n → binary n x ≡ binary n y → x ≡ y
unfolding binary
binary_injective zero x y h k e = lt-one h ∙ sym (lt-one k)
binary_injective (suc n) x y h k e =
    let top : x / 2 ^ n ≡ y / 2 ^ n =
    sym (shr_mod 1 n (subst (λ (m : ℕ). x < 2 ^ m) (sym (one-add n)) h)) ∙ head_eq e ∙ shr_mod 1 n (subst (λ (m : ℕ). y < 2 ^ m) (sym (one-add n)) k) in
    let low : x % 2 ^ n ≡ y % 2 ^ n =
    binary_injective n (x % 2 ^ n) (y % 2 ^ n) (mod-lt x (pow_pos n)) (mod-lt y (pow_pos n))
    (same_low x ∙ tail_eq e ∙ sym (same_low y)) in
    sym (split x n) ∙ ap₂ (λ (a b : ℕ). a * 2 ^ n + b) top low ∙ split y n
  where
    same_low : (z : ℕ) → binary n (z % 2 ^ n) ≡ binary n z
    same_low z = ap (λ (m : ℕ). binary n (z % 2 ^ m)) (sym (zero-add n)) ∙ binary_mod n 0 z

-- ---- bytes out
octet : (s x : ℕ) → x / 2 ^ s % 256 ≡ number (digits_from 8 s x)
octet s x = sym (number-binary 8 (x / 2 ^ s)) ∙ ap number (binary_shr 8 s x)

cons : ℕ → List ℕ → List ℕ
cons a l = a ∷ l

pub stored : (x : ℕ) → to_be_bytes w64 x ≡ bytes_of 8 (binary 64 x)
unfolding bytes_of parts binary digits_from cons
stored x =
    ap₂ cons (octet 56 x) (ap₂ cons (octet 48 x) (ap₂ cons (octet 40 x) (ap₂ cons (octet 32 x)
    (ap₂ cons (octet 24 x) (ap₂ cons (octet 16 x) (ap₂ cons (octet 8 x) (ap₂ cons (sym (number-binary 8 x)) refl)))))))

-- ---- bytes in
pub loaded : (bytes : List ℕ) (x : ℕ) → length bytes ≡ 8 → ((i : ℕ) → get_or bytes i 0 < 256) → x ≡ from_be_bytes w64 bytes → binary 64 x ≡ bits_of bytes
loaded bytes x n h e =
    sym (bits_of_bytes 8 (binary 64 x) (bits-binary 64 x) (length-binary 64 x))
    ∙ ap bits_of (sym (stored x) ∙ be_bytes_8 bytes x n h e)
