-- A block, from the words of its text and its round keys. Assumes nothing.
use mathlib.Core.Path.{◌≡◌, sym, ap, ◌∙◌}
use mathlib.Core.Bool.{Bool, true, false}
use mathlib.Core.List.{List, map, reverse}
use Prim.Native.Nat.{ℕ}
use lib.ListN.{length, take, drop}
use Rattle.des_spec.specs.Bits.{Bits, binary, bits_of, bytes_of}
use Rattle.des_spec.specs.Des.{permute, rounds, crypt, keys_from, schedule, order, round_keys, block_under}
use Rattle.des_spec.specs.Tables.{IP, IP⁻¹, PC1, shifts}
use Rattle.des_spec.proofs.Binary.{bits_of_bytes}
use Rattle.des_spec.proofs.Lengths.{length-crypt, length-binary}
use Rattle.des_spec.proofs.Ranges.{bits-crypt, bits-bits_of}
use Rattle.des_spec.proofs.Permutations.{initial_undoes_inverse}
use Rattle.quick.specs.Words.{key_bits, halves_at}
use Rattle.quick.proofs.Keys.{map-reverse}

-- ---- round keys
module _ (key ks : List ℕ) (x z : ℕ) (loaded : binary 64 x ≡ bits_of key) (chosen : permute halves_at (binary 64 z) ≡ permute PC1 (binary 64 x))
    (words : map key_bits ks ≡ keys_from shifts (permute halves_at (binary 64 z))) where
  scheduled : map key_bits ks ≡ schedule (bits_of key)
  unfolding schedule
  scheduled = words ∙ ap (keys_from shifts) (chosen ∙ ap (permute PC1) loaded)

  pub forth : (d : Bool) → d ≡ false → map key_bits ks ≡ round_keys d key
  unfolding round_keys order
  forth d e = scheduled ∙ ap (λ (b : Bool). round_keys b key) (sym e)

  pub back : (d : Bool) (r : List ℕ) → d ≡ true → r ≡ reverse ks → map key_bits r ≡ round_keys d key
  unfolding round_keys order
  back d r e f = ap (map key_bits) f ∙ map-reverse key_bits ks ∙ ap reverse scheduled ∙ ap (λ (b : Bool). round_keys b key) (sym e)

-- ---- blocks
-- the rounds under some keys, on the halves of a list
abbrev turns : List ℕ → List ℕ → List ℕ
turns ks l = rounds (map key_bits ks) (take 32 l) (drop 32 l)

-- without the permutations around it
inner : (ks l : List ℕ) → length l ≡ 64 → crypt (map key_bits ks) (permute IP⁻¹ l) ≡ permute IP⁻¹ (turns ks l)
unfolding crypt
inner ks l e = ap (λ (m : List ℕ). permute IP⁻¹ (turns ks m)) (initial_undoes_inverse l e)

under : (ks : List (List ℕ)) (l : List ℕ) → Bits l → length l ≡ 64 → block_under ks (bytes_of 8 l) ≡ bytes_of 8 (crypt ks l)
unfolding block_under
under ks l b e = ap (λ (m : List ℕ). bytes_of 8 (crypt ks m)) (bits_of_bytes 8 l b e)

pub one : (block r ks : List ℕ) (x i y o : ℕ) → binary 64 x ≡ bits_of block → binary 64 i ≡ permute IP (binary 64 x) → binary 64 y ≡ turns ks (binary 64 i)
    → binary 64 o ≡ permute IP⁻¹ (binary 64 y) → r ≡ bytes_of 8 (binary 64 o) → r ≡ block_under (map key_bits ks) block
unfolding block_under crypt
one block r ks x i y o loaded first turned last stored =
    stored ∙ ap (bytes_of 8) (last ∙ ap (permute IP⁻¹) (turned ∙ ap (turns ks) (first ∙ ap (permute IP) loaded)))

module _ (block r outer inner-keys : List ℕ) (x i a b c o : ℕ) (loaded : binary 64 x ≡ bits_of block) (first : binary 64 i ≡ permute IP (binary 64 x))
    (one_turn : binary 64 a ≡ turns outer (binary 64 i)) (two-turns : binary 64 b ≡ turns inner-keys (binary 64 a))
    (three-turns : binary 64 c ≡ turns outer (binary 64 b)) (last : binary 64 o ≡ permute IP⁻¹ (binary 64 c)) (stored : r ≡ bytes_of 8 (binary 64 o)) where
  O : List (List ℕ)
  O = map key_bits outer

  I : List (List ℕ)
  I = map key_bits inner-keys

  after_one : crypt O (bits_of block) ≡ permute IP⁻¹ (binary 64 a)
  unfolding crypt O
  after_one = sym (ap (permute IP⁻¹) (one_turn ∙ ap (turns outer) (first ∙ ap (permute IP) loaded)))

  after_two : crypt I (crypt O (bits_of block)) ≡ permute IP⁻¹ (binary 64 b)
  unfolding I
  after_two = ap (crypt I) after_one ∙ inner inner-keys (binary 64 a) (length-binary 64 a) ∙ ap (permute IP⁻¹) (sym two-turns)

  after_three : crypt O (crypt I (crypt O (bits_of block))) ≡ permute IP⁻¹ (binary 64 c)
  unfolding O
  after_three = ap (crypt O) after_two ∙ inner outer (binary 64 b) (length-binary 64 b) ∙ ap (permute IP⁻¹) (sym three-turns)

  together : block_under O (block_under I (bytes_of 8 (crypt O (bits_of block)))) ≡ bytes_of 8 (crypt O (crypt I (crypt O (bits_of block))))
  together =
      let f : Bits (crypt O (bits_of block)) = bits-crypt O (bits_of block) (bits-bits_of block) in
      ap (block_under O) (under I (crypt O (bits_of block)) f (length-crypt O (bits_of block)))
      ∙ under O (crypt I (crypt O (bits_of block))) (bits-crypt I (crypt O (bits_of block)) f) (length-crypt I (crypt O (bits_of block)))

  pub three : r ≡ block_under (map key_bits outer) (block_under (map key_bits inner-keys) (block_under (map key_bits outer) block))
  unfolding block_under O I
  three = stored ∙ ap (bytes_of 8) (last ∙ sym after_three) ∙ sym together
