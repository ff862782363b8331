-- Words of different selection functions have no bit in common, so their sum modulo 2, bit by bit, is their sum. Assumes nothing.
use mathlib.Core.Path.{◌≡◌, refl, sym, ap, ap₂, ◌∙◌, subst}
use mathlib.Core.Bool.{Bool, true, false}
use mathlib.Core.List.{List, [], ◌∷◌, zip_with}
use Prim.Native.Nat.{ℕ, zero, suc, ◌+◌, ◌-◌, ◌*◌, ◌/◌, ◌%◌, ◌^◌, ◌<◌}
use native.Mathlib.Omega.{arith}
use lib.Bits.{bit_xor, bit_and, xor_lt, and_lt}
use lib.Dec.{T, lit<}
use lib.ListN.{length}
use Rattle.des_spec.specs.Bits.{binary, xor}
use Rattle.des_spec.specs.Des.{permute}
use Rattle.des_spec.specs.Tables.{P}
use Rattle.des_spec.proofs.Lengths.{length-binary}
use Rattle.quick.specs.Words.{masked, mask, Word}
use Rattle.quick.proofs.Words.{binary-xor}
use Rattle.quick.proofs.Loading.{binary_injective}
use Rattle.quick.proofs.Swaps.{binary_and, masked-xor}

none : ℕ → List ℕ
none zero = []
none (suc n) = 0 ∷ none n

-- two masks have no one at the same place
abbrev pub apart : List ℕ → List ℕ → Bool
apart [] m = true
apart (x ∷ l) [] = true
apart (zero ∷ l) (y ∷ m) = apart l m
apart (suc x ∷ l) (zero ∷ m) = apart l m
apart (suc x ∷ l) (suc y ∷ m) = false

-- where the first has a one, the second has one
abbrev pub covers : List ℕ → List ℕ → Bool
covers [] u = true
covers (x ∷ m) [] = false
covers (zero ∷ m) (y ∷ u) = covers m u
covers (suc x ∷ m) (zero ∷ u) = false
covers (suc x ∷ m) (suc y ∷ u) = covers m u

both_zero : (m n x y : List ℕ) → T (apart m n) → masked (masked n y) (masked m x) ≡ none (length (masked (masked n y) (masked m x)))
unfolding masked none
both_zero m [] x y t = refl
both_zero m (d ∷ n) x [] t = refl
both_zero [] (zero ∷ n) x (b ∷ y) t = refl
both_zero [] (suc d ∷ n) x (b ∷ y) t = refl
both_zero (c ∷ m) (zero ∷ n) [] (b ∷ y) t = refl
both_zero (c ∷ m) (suc d ∷ n) [] (b ∷ y) t = refl
both_zero (zero ∷ m) (zero ∷ n) (a ∷ x) (b ∷ y) t = ap (λ (l : List ℕ). 0 ∷ l) (both_zero m n x y t)
both_zero (zero ∷ m) (suc d ∷ n) (a ∷ x) (zero ∷ y) t = ap (λ (l : List ℕ). 0 ∷ l) (both_zero m n x y t)
both_zero (zero ∷ m) (suc d ∷ n) (a ∷ x) (suc b ∷ y) t = ap (λ (l : List ℕ). 0 ∷ l) (both_zero m n x y t)
both_zero (suc c ∷ m) (zero ∷ n) (a ∷ x) (b ∷ y) t = ap (λ (l : List ℕ). 0 ∷ l) (both_zero m n x y t)
both_zero (suc c ∷ m) (suc d ∷ n) (a ∷ x) (b ∷ y) t = absurd t

wider : (m u x : List ℕ) → T (covers m u) → masked u (masked m x) ≡ masked m x
unfolding masked
wider [] [] x t = refl
wider [] (c ∷ u) x t = refl
wider (c ∷ m) [] x t = absurd t
wider (zero ∷ m) (d ∷ u) [] t = refl
wider (suc c ∷ m) (d ∷ u) [] t = refl
wider (zero ∷ m) (zero ∷ u) (a ∷ x) t = ap (λ (l : List ℕ). 0 ∷ l) (wider m u x t)
wider (zero ∷ m) (suc d ∷ u) (a ∷ x) t = ap (λ (l : List ℕ). 0 ∷ l) (wider m u x t)
wider (suc c ∷ m) (zero ∷ u) (a ∷ x) t = absurd t
wider (suc c ∷ m) (suc d ∷ u) (a ∷ x) t = ap (λ (l : List ℕ). a ∷ l) (wider m u x t)

-- a word of 32 bits has ones only where the mask has
pub record Inside (m : List ℕ) (w : ℕ) : Type 0 where
  pub below : w < 2 ^ 32
  pub only : masked m (binary 32 w) ≡ binary 32 w

module _ {m n : List ℕ} {a b : ℕ} (p : Inside m a) (q : Inside n b) (t : T (apart m n)) where
  nothing : binary 32 (bit_and a b) ≡ binary 32 0
  unfolding none binary
  nothing =
      let e : binary 32 (bit_and a b) ≡ masked (masked n (binary 32 b)) (masked m (binary 32 a)) =
      binary_and 32 a b ∙ ap₂ masked (sym q.only) (sym p.only) in
      e ∙ both_zero m n (binary 32 a) (binary 32 b) t ∙ ap none (ap length (sym e) ∙ length-binary 32 (bit_and a b))

  pub apart_and : bit_and a b ≡ 0
  apart_and = binary_injective 32 (bit_and a b) 0 (and_lt 32 a b p.below q.below) (lit< tt) nothing

  pub joined : (u : List ℕ) → T (covers m u) → T (covers n u) → Inside u (bit_xor a b)
  joined u c d =
      let e : binary 32 (bit_xor a b) ≡ xor (masked m (binary 32 a)) (masked n (binary 32 b)) =
      binary-xor 32 a b ∙ ap₂ xor (sym p.only) (sym q.only) in
      record {
        below = xor_lt 32 a b p.below q.below;
        only =
            ap (masked u) e ∙ masked-xor u (masked m (binary 32 a)) (masked n (binary 32 b))
            ∙ ap₂ xor (wider m u (binary 32 a) c) (wider n u (binary 32 b) d) ∙ sym e;
      }

-- ---- the eight words of a round
pub inside : {i w : ℕ} (j : ℕ) → w < 2 ^ 32 → Word i w → i / 64 ≡ j → Inside (mask j) w
inside {w = w} j h o e = record { below = h; only = subst (λ (n : ℕ). masked (mask n) (binary 32 w) ≡ binary 32 w) e o.only }

-- the places of two neighbouring selection functions
pub pair : ℕ → List ℕ
pair i = permute P (binary 32 (255 * 2 ^ (24 - 4 * i)))

pub two_0 : {a b : ℕ} → Inside (mask 0) a → Inside (mask 1) b → bit_and a b ≡ 0
unfolding mask permute P binary
two_0 p q = apart_and p q tt

pub pair_0 : {a b r : ℕ} → Inside (mask 0) a → Inside (mask 1) b → r ≡ bit_xor a b → Inside (pair 0) r
unfolding mask pair permute P binary
pair_0 p q e = subst (Inside (pair 0)) (sym e) (joined p q tt (pair 0) tt tt)

pub two_2 : {a b : ℕ} → Inside (mask 2) a → Inside (mask 3) b → bit_and a b ≡ 0
unfolding mask permute P binary
two_2 p q = apart_and p q tt

pub pair_2 : {a b r : ℕ} → Inside (mask 2) a → Inside (mask 3) b → r ≡ bit_xor a b → Inside (pair 2) r
unfolding mask pair permute P binary
pair_2 p q e = subst (Inside (pair 2)) (sym e) (joined p q tt (pair 2) tt tt)

pub two_4 : {a b : ℕ} → Inside (mask 4) a → Inside (mask 5) b → bit_and a b ≡ 0
unfolding mask permute P binary
two_4 p q = apart_and p q tt

pub pair_4 : {a b r : ℕ} → Inside (mask 4) a → Inside (mask 5) b → r ≡ bit_xor a b → Inside (pair 4) r
unfolding mask pair permute P binary
pair_4 p q e = subst (Inside (pair 4)) (sym e) (joined p q tt (pair 4) tt tt)

pub two_6 : {a b : ℕ} → Inside (mask 6) a → Inside (mask 7) b → bit_and a b ≡ 0
unfolding mask permute P binary
two_6 p q = apart_and p q tt

pub pair_6 : {a b r : ℕ} → Inside (mask 6) a → Inside (mask 7) b → r ≡ bit_xor a b → Inside (pair 6) r
unfolding mask pair permute P binary
pair_6 p q e = subst (Inside (pair 6)) (sym e) (joined p q tt (pair 6) tt tt)

pub four_0 : {a b : ℕ} → Inside (pair 0) a → Inside (pair 2) b → bit_and a b ≡ 0
unfolding pair permute P binary
four_0 p q = apart_and p q tt

pub four_4 : {a b : ℕ} → Inside (pair 4) a → Inside (pair 6) b → bit_and a b ≡ 0
unfolding pair permute P binary
four_4 p q = apart_and p q tt

-- ---- their sum, in the order of the code
xor_assoc : (a b c : List ℕ) → xor (xor a b) c ≡ xor a (xor b c)
unfolding xor zip_with
xor_assoc [] b c = refl
xor_assoc (x ∷ a) [] c = refl
xor_assoc (x ∷ a) (y ∷ b) [] = refl
xor_assoc (x ∷ a) (y ∷ b) (z ∷ c) =
    let e : ((x + y) % 2 + z) % 2 ≡ (x + (y + z) % 2) % 2 = omega arith in
    ap₂ (λ (n : ℕ) (l : List ℕ). n ∷ l) e (xor_assoc a b c)

pub in_order : (a b c d e f g h : ℕ) →
    binary 32 (bit_xor (bit_xor (bit_xor a b) (bit_xor c d)) (bit_xor (bit_xor e f) (bit_xor g h)))
    ≡ binary 32 (bit_xor a (bit_xor b (bit_xor c (bit_xor d (bit_xor e (bit_xor f (bit_xor g h)))))))
in_order a b c d e f g h = simp (binary-xor, xor_assoc)
