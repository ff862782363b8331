-- The initial permutation and its inverse undo each other. Assumes nothing.
use Prim.Native.Nat.{ℕ, zero, suc, ◌-◌, ◌<◌, ◌≤◌}
use mathlib.Core.Path.{◌≡◌, refl, sym, ap, ◌∙◌}
use mathlib.Core.Bool.{Bool, ◌&&◌}
use mathlib.Core.List.{List, [], ◌∷◌}
use native.Mathlib.Nat.{le_trans}
use native.Mathlib.Omega.{arith}
use lib.ListN.{length, get_or}
use lib.Seq.{take_all}
use lib.Dec.{T, leb, leb→le}
use Rattle.des_spec.specs.Bits.{Names}
use Rattle.des_spec.specs.Tables.{IP, IP⁻¹}
use Rattle.des_spec.specs.Des.{permute}
use Rattle.des_spec.proofs.Tests.{and_left, and_right, each, each_at}
use Rattle.des_spec.proofs.Lists.{elements, of_elements}
use Rattle.des_spec.proofs.Elements.{get_or-permute}

-- an entry of 1 to n
abbrev pub within : ℕ → ℕ → Bool
within n x = leb 1 x && leb x n

pub names : (n m : ℕ) (t : List ℕ) → T (each (within n) t) → n ≤ m → Names t m
names n m t h e =
    let at : (k : ℕ) → k < length t → T (within n (get_or t k 0)) = each_at (within n) t h in
    record {
      least = λ k l. let x = get_or t k 0 in leb→le 1 x (and_left (leb 1 x) (leb x n) (at k l));
      most = λ k l. let x = get_or t k 0 in le_trans (leb→le x n (and_right (leb 1 x) (leb x n) (at k l))) e;
    }

-- one permutation after another is the permutation by one table
pub permute-permute : (t u x : List ℕ) → Names t (length u) → permute t (permute u x) ≡ permute (permute t u) x
unfolding permute
permute-permute [] u x h = refl
permute-permute (i ∷ t) u x h =
    let a : 1 ≤ i = h.least 0 (omega arith) in
    let b : i ≤ length u = h.most 0 (omega arith) in
    let e : get_or (permute u x) (i - 1) 0 ≡ get_or x (get_or u (i - 1) 0 - 1) 0 = get_or-permute u x (i - 1) (omega arith) in
    let g : Names t (length u) = record { least = λ k l. h.least (suc k) (omega arith); most = λ k l. h.most (suc k) (omega arith) } in
    ap (λ (v : ℕ). v ∷ permute t (permute u x)) e ∙ ap (λ (l : List ℕ). get_or x (get_or u (i - 1) 0 - 1) 0 ∷ l) (permute-permute t u x g)

-- the n numbers after i: a table that leaves all as it is
abbrev pub upto : ℕ → ℕ → List ℕ
upto i zero = []
upto i (suc n) = suc i ∷ upto (suc i) n

permute_upto : (x : List ℕ) (i n : ℕ) → permute (upto i n) x ≡ elements x i n
unfolding permute
permute_upto x i zero = refl
permute_upto x i (suc n) =
    let e : suc i - 1 ≡ i = omega arith in
    ap (λ (m : ℕ). get_or x m 0 ∷ permute (upto (suc i) n) x) e ∙ ap (λ (l : List ℕ). get_or x i 0 ∷ l) (permute_upto x (suc i) n)

pub permute-all : (x : List ℕ) (n : ℕ) → length x ≡ n → permute (upto 0 n) x ≡ x
permute-all x n e = permute_upto x 0 n ∙ sym (of_elements x 0 n (omega arith)) ∙ take_all n x (omega arith)

pub initial_undoes_inverse : (x : List ℕ) → length x ≡ 64 → permute IP (permute IP⁻¹ x) ≡ x
unfolding IP IP⁻¹ permute
initial_undoes_inverse x e = permute-permute IP IP⁻¹ x (names 64 64 IP tt (omega arith)) ∙ permute-all x 64 e

pub inverse_undoes_initial : (x : List ℕ) → length x ≡ 64 → permute IP⁻¹ (permute IP x) ≡ x
unfolding IP IP⁻¹ permute
inverse_undoes_initial x e = permute-permute IP⁻¹ IP x (names 64 64 IP⁻¹ tt (omega arith)) ∙ permute-all x 64 e
