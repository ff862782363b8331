-- The sum of a table's words for the nibbles of a number, the low nibble first. Assumes nothing.
use mathlib.Core.Path.{◌≡◌, refl, sym, ap, ap₂, ◌∙◌}
use mathlib.Core.Bool.{Bool}
use mathlib.Core.List.{List}
use Prim.Native.Nat.{ℕ, ◌+◌, ◌*◌, ◌/◌, ◌%◌, ◌^◌, ◌≤◌, ◌<◌}
use native.Mathlib.Nat.{mod-lt, mod-one, div-one}
use native.Mathlib.Omega.{arith}
use lib.Dec.{T}
use lib.Pow.{pow_pos, mod-pow-add, shr-shr}
use lib.Bits.{bit_xor, xor_shifted}
use lib.ListN.{length, get_or}
use Rattle.std.proofs.lemmas.Nat.{xor_comm}
use Rattle.des_spec.specs.Bits.{binary, xor}
use Rattle.des_spec.specs.Des.{permute}
use Rattle.des_spec.specs.Tables.{PC2}
use Rattle.quick.specs.Words.{key_bits, places, Chosen}
use Rattle.quick.proofs.Words.{permute-xor, binary_mod}
use Rattle.des_spec.proofs.Tests.{at, every, same, same_eq}

key_xor : (a b : ℕ) → key_bits (bit_xor a b) ≡ xor (key_bits a) (key_bits b)
unfolding key_bits
key_xor a b = permute-xor places 64 a b

none : key_bits 0 ≡ permute PC2 (binary 56 0)
unfolding key_bits places permute PC2 binary
none = refl

pub record Summed (x y sum j : ℕ) : Type 0 where
  pub within : j ≤ 14
  pub rest : y ≡ x / 2 ^ (4 * j)
  pub sums : key_bits sum ≡ permute PC2 (binary 56 (x % 2 ^ (4 * j)))

pub start : (x : ℕ) → Summed x x 0 0
start x = record {
  within = omega arith;
  rest = sym (div-one x);
  sums = none ∙ ap (λ (k : ℕ). permute PC2 (binary 56 k)) (sym (mod-one x));
}

pub next : (t : List ℕ) (x y sum j : ℕ) → Chosen t → j < 14 → Summed x y sum j
    → Summed x (y / 16) (bit_xor sum (get_or t (16 * j + y % 16) 0)) (j + 1)
next t x y sum j q h p =
    let e : 4 * (j + 1) ≡ 4 * j + 4 = omega arith in
    let e' : 4 * (j + 1) ≡ 4 + 4 * j = omega arith in
    let digit : y % 16 ≡ x / 2 ^ (4 * j) % 2 ^ 4 = ap (λ (k : ℕ). k % 16) p.rest in
    let column : (16 * j + y % 16) / 16 ≡ j = omega arith in
    let row : (16 * j + y % 16) % 16 ≡ y % 16 = omega arith in
    record {
      within = omega arith;
      rest = ap (λ (k : ℕ). k / 16) p.rest ∙ shr-shr x (4 * j) 4 ∙ ap (λ (k : ℕ). x / 2 ^ k) (sym e);
      sums =
          ap key_bits (xor_comm sum (get_or t (16 * j + y % 16) 0))
          ∙ key_xor (get_or t (16 * j + y % 16) 0) sum
          ∙ ap₂ xor (q.each (16 * j + y % 16) (omega (arith, q.size)) ∙ ap₂ (λ (a b : ℕ). permute PC2 (binary 56 (a * 2 ^ (4 * b)))) row column) p.sums
          ∙ sym (permute-xor PC2 56 (y % 16 * 2 ^ (4 * j)) (x % 2 ^ (4 * j)))
          ∙ ap (λ (k : ℕ). permute PC2 (binary 56 k))
          (xor_shifted (y % 16) (4 * j) (x % 2 ^ (4 * j)) (mod-lt x (pow_pos (4 * j)))
          ∙ ap (λ (k : ℕ). k * 2 ^ (4 * j) + x % 2 ^ (4 * j)) digit
          ∙ sym (mod-pow-add x 4 (4 * j))
          ∙ ap (λ (k : ℕ). x % 2 ^ k) (sym e'));
    }

pub done : (x y sum j : ℕ) → 14 ≤ j → Summed x y sum j → key_bits sum ≡ permute PC2 (binary 56 x)
done x y sum j h p =
    let e : 4 * j ≡ 0 + 56 = omega (arith, p.within) in
    p.sums ∙ ap (λ (k : ℕ). permute PC2 (binary 56 (x % 2 ^ k))) e ∙ ap (permute PC2) (binary_mod 56 0 x)

-- the table's rule, from one test over all its entries
abbrev pub chosen_at : ℕ → ℕ → Bool
chosen_at k x = same (key_bits x) (permute PC2 (binary 56 (k % 16 * 2 ^ (4 * (k / 16)))))

pub chosen : (t : List ℕ) → length t ≡ 224 → T (every chosen_at 0 t) → Chosen t
chosen t e h = record { size = e; each = λ k l. same_eq _ _ (at chosen_at t h k l) }
