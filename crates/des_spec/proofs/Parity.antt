-- 01: "DES ignores parity bits". Two keys whose bytes agree but for the lowest bit do the same, in DES, triple DES, ECB, CBC and signatures.
-- Assumes nothing.
use Prim.Native.Nat.{ℕ, ◌+◌, ◌-◌, ◌/◌, ◌%◌, ◌^◌, ◌<◌, ◌≤◌}
use mathlib.Core.Path.{◌≡◌, refl, sym, ap, ◌∙◌, subst}
use mathlib.Core.Bool.{Bool, true, false, not, ◌&&◌}
use mathlib.Core.List.{List}
use native.Mathlib.Omega.{arith}
use lib.ListN.{length, get_or, take, drop, length-take, length-drop}
use lib.Seq.{ext_get_or, get_or-take, get_or-drop}
use lib.Dec.{leb, ltb, leb→le, ltb→lt}
use lib.Pow.{shr-shr}
use Rattle.des_spec.specs.Bits.{bits_of}
use Rattle.des_spec.specs.Tables.{PC1}
use Rattle.des_spec.specs.Des.{encipher, decipher, permute, schedule, round_keys, des}
use Rattle.des_spec.specs.Modes.{triple_des, ecb, cbc, ecb_text, cbc_text, padded, last_block, signature}
use Rattle.des_spec.proofs.Lengths.{length-permute}
use Rattle.des_spec.proofs.Elements.{get_or-permute, get_or-bits_of}
use Rattle.des_spec.proofs.Tests.{and_left, and_right, each_at}
use Rattle.des_spec.specs.Walk.{Mode, walk, ecb_by, cbc_encipher_by, cbc_decipher_by, ecb_mode, cbc_mode}
use Rattle.des_spec.proofs.Walk.{ecb-walk, cbc-walk, zeros}

-- two keys of n bytes that agree but for the parity bits
pub record ButParity (n : ℕ) (a b : List ℕ) : Type 0 where
  pub long_a : length a ≡ n
  pub long_b : length b ≡ n
  pub high : (i : ℕ) → i < n → get_or a i 0 / 2 ≡ get_or b i 0 / 2

-- permuted choice 1 names bits of 1 to 64, and of no byte the lowest
abbrev kept : ℕ → Bool
kept x = leb 1 x && (leb x 64 && ltb ((x - 1) % 8) 7)

record Kept (x : ℕ) : Type 0 where
  pub least : 1 ≤ x
  pub most : x ≤ 64
  pub high : (x - 1) % 8 < 7

choice_kept : (k : ℕ) → k < 56 → Kept (get_or PC1 k 0)
unfolding PC1
choice_kept k h =
    let x = get_or PC1 k 0 in
    let t = each_at kept PC1 tt k h in
    let u = and_right (leb 1 x) (leb x 64 && ltb ((x - 1) % 8) 7) t in
    record {
      least = leb→le 1 x (and_left (leb 1 x) (leb x 64 && ltb ((x - 1) % 8) 7) t);
      most = leb→le x 64 (and_left (leb x 64) (ltb ((x - 1) % 8) 7) u);
      high = ltb→lt ((x - 1) % 8) 7 (and_right (leb x 64) (ltb ((x - 1) % 8) 7) u);
    }

length-PC1 : length PC1 ≡ 56
unfolding PC1
length-PC1 = refl

-- bits above the lowest depend on the halves alone
high_bit : (v w m : ℕ) → 1 ≤ m → v / 2 ≡ w / 2 → v / 2 ^ m % 2 ≡ w / 2 ^ m % 2
high_bit v w m h e =
    let n : 1 + (m - 1) ≡ m = omega arith in
    let a : v / 2 / 2 ^ (m - 1) ≡ v / 2 ^ m = shr-shr v 1 (m - 1) ∙ ap (λ (j : ℕ). v / 2 ^ j) n in
    let b : w / 2 / 2 ^ (m - 1) ≡ w / 2 ^ m = shr-shr w 1 (m - 1) ∙ ap (λ (j : ℕ). w / 2 ^ j) n in
    ap (λ (x : ℕ). x % 2) (sym a ∙ ap (λ (x : ℕ). x / 2 ^ (m - 1)) e ∙ b)

-- so what is chosen from the two keys is the same
choice_parity : (a b : List ℕ) → ButParity 8 a b → permute PC1 (bits_of a) ≡ permute PC1 (bits_of b)
choice_parity a b p =
    ext_get_or 0 (permute PC1 (bits_of a)) (permute PC1 (bits_of b)) (length-permute PC1 (bits_of a) ∙ sym (length-permute PC1 (bits_of b)))
    λ k l.
    let g : k < length PC1 = subst (λ (n : ℕ). k < n) (length-permute PC1 (bits_of a)) l in
    let q = choice_kept k (subst (λ (n : ℕ). k < n) length-PC1 g) in
    let j = get_or PC1 k 0 - 1 in
    get_or-permute PC1 (bits_of a) k g
    ∙ get_or-bits_of a j (omega (arith, p.long_a, q))
    ∙ high_bit (get_or a (j / 8) 0) (get_or b (j / 8) 0) (7 - j % 8) (omega (arith, q)) (p.high (j / 8) (omega (arith, q)))
    ∙ sym (get_or-bits_of b j (omega (arith, p.long_b, q)))
    ∙ sym (get_or-permute PC1 (bits_of b) k g)

pub round_keys_parity : (d : Bool) (a b : List ℕ) → ButParity 8 a b → round_keys d a ≡ round_keys d b
unfolding round_keys schedule
round_keys_parity d a b p = rw (choice_parity a b p)

pub des_parity : (d : Bool) (a b block : List ℕ) → ButParity 8 a b → des d a block ≡ des d b block
unfolding des
des_parity d a b block p = rw (round_keys_parity d a b p)

-- ---- keys of 16 bytes
module _ (a b : List ℕ) (p : ButParity 16 a b) where
  first_half : ButParity 8 (take 8 a) (take 8 b)
  first_half =
      record {
        long_a = simp length-take (omega (arith, p));
        long_b = simp length-take (omega (arith, p));
        high = λ i h. rw (get_or-take 8 a i 0 h, get_or-take 8 b i 0 h) (p.high i (omega arith));
      }

  second_half : ButParity 8 (drop 8 a) (drop 8 b)
  second_half =
      record {
        long_a = simp length-drop (omega (arith, p));
        long_b = simp length-drop (omega (arith, p));
        high = λ i h. rw (get_or-drop 8 a i 0, get_or-drop 8 b i 0) (p.high (8 + i) (omega arith));
      }

  pub triple_des_parity : (d : Bool) (block : List ℕ) → triple_des d a block ≡ triple_des d b block
  unfolding triple_des
  triple_des_parity d block =
      (λ i. des d (take 8 a) (des (not d) (drop 8 a) (des_parity d (take 8 a) (take 8 b) block first_half i)))
      ∙ (λ i. des d (take 8 a) (des_parity (not d) (drop 8 a) (drop 8 b) (des d (take 8 b) block) second_half i))
      ∙ des_parity d (take 8 a) (take 8 b) _ first_half

  cipher_parity : (d : Bool) → triple_des d a ≡ triple_des d b
  cipher_parity d = λ i block. triple_des_parity d block i

  ecb_mode_parity : (d : Bool) → ecb_mode d a ≡ ecb_mode d b
  unfolding ecb_mode
  ecb_mode_parity d = ap ecb_by (cipher_parity d)

  cbc_mode_parity : (d : Bool) → cbc_mode d a ≡ cbc_mode d b
  unfolding cbc_mode
  cbc_mode_parity false = ap cbc_encipher_by (cipher_parity encipher)
  cbc_mode_parity true = ap cbc_decipher_by (cipher_parity decipher)

  pub ecb_parity : (n : ℕ) (d : Bool) (text : List ℕ) → ecb n d a text ≡ ecb n d b text
  ecb_parity n d text = ecb-walk n d a zeros text ∙ ap (λ (m : Mode). walk m n zeros text) (ecb_mode_parity d) ∙ sym (ecb-walk n d b zeros text)

  pub cbc_parity : (n : ℕ) (d : Bool) (start text : List ℕ) → cbc n d a start text ≡ cbc n d b start text
  cbc_parity n d start text = cbc-walk n d a start text ∙ ap (λ (m : Mode). walk m n start text) (cbc_mode_parity d) ∙ sym (cbc-walk n d b start text)

  pub ecb_text_parity : (d : Bool) (text : List ℕ) → ecb_text d a text ≡ ecb_text d b text
  unfolding ecb_text
  ecb_text_parity d text = rw (ecb_parity _ d text)

  pub cbc_text_parity : (d : Bool) (start text : List ℕ) → cbc_text d a start text ≡ cbc_text d b start text
  unfolding cbc_text
  cbc_text_parity d start text = rw (cbc_parity _ d start text)

  pub signature_parity : (start text : List ℕ) → signature a start text ≡ signature b start text
  unfolding signature
  signature_parity start text = ap last_block (cbc_text_parity encipher start (padded text))
