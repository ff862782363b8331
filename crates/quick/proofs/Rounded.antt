-- The rounds on words: under the first i keys they have brought the halves of b to l and r. Assumes nothing.
use mathlib.Core.Path.{◌≡◌, sym, ap, ap₂, ◌∙◌, subst}
use mathlib.Core.List.{List, map}
use Prim.Native.Nat.{ℕ, suc, ◌+◌, ◌*◌, ◌/◌, ◌%◌, ◌^◌, ◌≤◌, ◌<◌}
use native.Mathlib.Numerals.{add-one}
use native.Mathlib.Omega.{arith}
use lib.Bits.{bit_xor, xor_lt}
use lib.ListN.{length, get_or, take, drop, drop_of_length-le}
use lib.Seq.{drop-cons}
use Rattle.des_spec.specs.Bits.{binary, xor}
use Rattle.des_spec.specs.Des.{rounds, cipher}
use Rattle.quick.specs.Words.{key_bits}
use Rattle.quick.proofs.Words.{binary-xor, binary_join, binary_mod, high_half, low_half}

pub record Rounded (ks : List ℕ) (b l r i : ℕ) : Type 0 where
  pub within : i ≤ 16
  pub left : l < 2 ^ 32
  pub right : r < 2 ^ 32
  pub same : rounds (map key_bits (drop i ks)) (binary 32 l) (binary 32 r) ≡ rounds (map key_bits ks) (take 32 (binary 64 b)) (drop 32 (binary 64 b))

pub next : (ks : List ℕ) (b l r i f : ℕ) → length ks ≡ 16 → i < 16 → f < 2 ^ 32 → binary 32 f ≡ cipher (binary 32 r) (key_bits (get_or ks i 0))
    → Rounded ks b l r i → Rounded ks b r (bit_xor l f) (i + 1)
unfolding rounds
next ks b l r i f n h g e p =
    record {
      within = omega arith;
      left = p.right;
      right = xor_lt 32 l f p.left g;
      same =
          ap (λ (k : ℕ). rounds (map key_bits (drop k ks)) (binary 32 r) (binary 32 (bit_xor l f))) (add-one i)
          ∙ ap (rounds (map key_bits (drop (suc i) ks)) (binary 32 r)) (binary-xor 32 l f ∙ ap (xor (binary 32 l)) e)
          ∙ sym (ap (λ (x : List ℕ). rounds (map key_bits x) (binary 32 l) (binary 32 r)) (drop-cons ks i 0 (omega arith)))
          ∙ p.same;
    }

-- two rounds, the halves in their places again
pub turn : (ks : List ℕ) (b l r i f g : ℕ) → length ks ≡ 16 → i < 8 → f < 2 ^ 32 → g < 2 ^ 32
    → binary 32 f ≡ cipher (binary 32 r) (key_bits (get_or ks (2 * i) 0))
    → binary 32 g ≡ cipher (binary 32 (bit_xor l f)) (key_bits (get_or ks (2 * i + 1) 0))
    → Rounded ks b l r (2 * i) → Rounded ks b (bit_xor l f) (bit_xor r g) (2 * (i + 1))
turn ks b l r i f g n h f< g< p q a =
    let e : 2 * i + 1 + 1 ≡ 2 * (i + 1) = omega arith in
    subst (Rounded ks b (bit_xor l f) (bit_xor r g)) e
    (next ks b r (bit_xor l f) (2 * i + 1) g n (omega arith) g< q (next ks b l r (2 * i) f n (omega arith) f< p a))

pub done : (ks : List ℕ) (b l r i : ℕ) → length ks ≡ 16 → 16 ≤ i → Rounded ks b l r i
    → binary 64 (r * 4294967296 + l) ≡ rounds (map key_bits ks) (take 32 (binary 64 b)) (drop 32 (binary 64 b))
unfolding rounds
done ks b l r i n h p =
    binary_join 32 32 r l p.left
    ∙ sym (ap (λ (x : List ℕ). rounds (map key_bits x) (binary 32 l) (binary 32 r)) (drop_of_length-le ks {i = i} (omega arith)))
    ∙ p.same

pub start : (ks : List ℕ) (b : ℕ) → b < 2 ^ 64 → Rounded ks b (b / 2 ^ 32) (b % 2 ^ 32) 0
start ks b h =
    record {
      within = omega arith;
      left = omega arith;
      right = omega arith;
      same = ap₂ (rounds (map key_bits ks)) (sym (high_half 32 32 b)) (binary_mod 32 0 b ∙ sym (low_half 32 32 b));
    }
