-- A word put together nibble by nibble from a table's words. A permutation of a number's bits passes through the sum
-- modulo 2, so the sum of the words for the nibbles is the word for the whole. Assumes nothing.
use mathlib.Core.Path.{◌≡◌, refl, sym, ap, ap₂, ◌∙◌, subst}
use mathlib.Core.List.{List, ◌++◌}
use Prim.Native.Nat.{ℕ, ◌+◌, ◌*◌, ◌^◌, ◌<◌}
use lib.Arith.{digits_lt}
use lib.Pow.{pow-add}
use lib.Bits.{bit_xor, xor_shifted}
use Rattle.des_spec.specs.Bits.{binary, xor}
use Rattle.des_spec.specs.Des.{permute}
use Rattle.quick.proofs.Words.{binary-xor, permute-xor, binary_join}

-- of w bits, y is what t takes of a number of n bits whose m low bits are l, and the rest zeros
pub record Part (t : List ℕ) (w n m : ℕ) (l : List ℕ) (y : ℕ) : Type 0 where
  pub low : ℕ
  pub below : low < 2 ^ m
  pub are : binary m low ≡ l
  pub chosen : binary w y ≡ permute t (binary n low)

pub first : {t : List ℕ} {w n m s y : ℕ} → s < 2 ^ m → binary w y ≡ permute t (binary n s) → Part t w n m (binary m s) y
first {s = s} h e = record { low = s; below = h; are = refl; chosen = e }

pub more : {t : List ℕ} {w n m : ℕ} {l : List ℕ} {y : ℕ} (j s z : ℕ)
    → s < 2 ^ j → binary w z ≡ permute t (binary n (s * 2 ^ m)) → Part t w n m l y → Part t w n (j + m) (binary j s ++ l) (bit_xor z y)
more {t} {w} {n} {m} {l} {y} j s z h e p =
    let sum : bit_xor (s * 2 ^ m) p.low ≡ s * 2 ^ m + p.low = xor_shifted s m p.low p.below in
    record {
      low = bit_xor (s * 2 ^ m) p.low;
      below = subst (λ (x : ℕ). bit_xor (s * 2 ^ m) p.low < x) (sym (pow-add 2 j m)) (subst (λ (x : ℕ). x < 2 ^ j * 2 ^ m) (sym sum) (digits_lt h p.below));
      are = ap (binary (j + m)) sum ∙ binary_join j m s p.low p.below ∙ ap (λ (x : List ℕ). binary j s ++ x) p.are;
      chosen = binary-xor w z y ∙ ap₂ xor e p.chosen ∙ sym (permute-xor t n (s * 2 ^ m) p.low);
    }

pub whole : {t : List ℕ} {w n : ℕ} {l : List ℕ} {y : ℕ} → Part t w n n l y → binary w y ≡ permute t l
whole {t} p = p.chosen ∙ ap (permute t) p.are
