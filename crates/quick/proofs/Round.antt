-- The cipher function on words: the sum of eight words of the table is P of what the selection functions take. Assumes nothing.
use mathlib.Core.Path.{◌≡◌, refl, sym, ap, ap₂, ◌∙◌}
use mathlib.Core.Bool.{Bool, true, ◌&&◌}
use mathlib.Core.List.{List, [], ◌∷◌, ◌++◌, zip_with}
use Prim.Native.Nat.{ℕ, zero, suc, ◌+◌, ◌-◌, ◌*◌, ◌/◌, ◌%◌, ◌^◌, ◌<◌}
use native.Mathlib.Nat.{mul-one}
use native.Mathlib.Omega.{arith}
use lib.Bits.{bit_xor, bit_or, xor_shr, or_shifted, or_shifted_r}
use Rattle.std.specs.Int.{w32, rotate_left, rotate_right}
use lib.Dec.{T, ltb, ltb→lt, lit<}
use lib.ListN.{get_or, take, drop}
use Rattle.des_spec.specs.Bits.{binary, number, xor, binaries}
use Rattle.des_spec.specs.Des.{permute, select, selects, cipher, rotate}
use Rattle.des_spec.specs.Tables.{E, P, S, S1, S2, S3, S4, S5, S6, S7, S8}
use Rattle.des_spec.proofs.Tests.{and_left, and_right}
use Rattle.quick.specs.Words.{placed, key_bits, places, Word}
use Rattle.quick.proofs.Words.{binary-xor, binary_shr, binary_mod, digits_from, turn_law, high_half, low_half}
use Rattle.quick.proofs.Parts.{Part, first, more, whole}

cat : {a b c d : List ℕ} → a ≡ b → c ≡ d → a ++ c ≡ b ++ d
cat p q = ap₂ (λ (x y : List ℕ). x ++ y) p q

-- ---- the half turned both ways
abbrev pub right : ℕ → ℕ
right r = (r % 8) * 536870912 + r / 8

abbrev pub left : ℕ → ℕ
left r = (r % 2147483648) * 2 + r / 2147483648

-- a word with the six bits for S1, S3, S5 and S7, a byte each, and one with those for the others
abbrev pub odd : ℕ → ℕ → ℕ
odd p k = bit_xor p (k / 2 ^ 32)

abbrev pub even : ℕ → ℕ → ℕ
even q k = bit_xor q (k % 2 ^ 32)

-- the library's words for the two
pub turned_right : (r : ℕ) → r < 2 ^ 32 → rotate_right w32 r 3 ≡ right r
turned_right r h =
    let e : r * 536870912 % 4294967296 ≡ r % 8 * 536870912 = omega arith in
    ap (bit_or (r / 8)) e ∙ or_shifted_r (r % 8) 29 (r / 8) (omega arith)

pub turned_left : (r : ℕ) → r < 2 ^ 32 → rotate_left w32 r 1 ≡ left r
turned_left r h =
    let e : r * 2 % 4294967296 ≡ r % 2147483648 * 2 = omega arith in
    ap (λ (x : ℕ). bit_or x (r / 2147483648)) e ∙ or_shifted (r % 2147483648) 1 (r / 2147483648) (omega arith)

group : (s p q : ℕ) → binary 6 (bit_xor p q / 2 ^ s % 64) ≡ xor (digits_from 6 s p) (digits_from 6 s q)
group s p q =
    binary_mod 6 0 (bit_xor p q / 2 ^ s)
    ∙ ap (binary 6) (xor_shr p q s)
    ∙ binary-xor 6 (p / 2 ^ s) (q / 2 ^ s)
    ∙ ap₂ xor (binary_shr 6 s p) (binary_shr 6 s q)

lowest : (p q : ℕ) → binary 6 (bit_xor p q % 64) ≡ xor (digits_from 6 0 p) (digits_from 6 0 q)
unfolding binary digits_from
lowest p q = binary_mod 6 0 (bit_xor p q) ∙ binary-xor 6 p q

-- eight groups of six of the half's bits against the key's
abbrev six : ℕ → List ℕ → List ℕ → List ℕ
six n a k = xor (take 6 (drop n a)) (take 6 (drop n k))

sixes : List ℕ → List ℕ → List ℕ → List ℕ → List ℕ
sixes a b ka kb = six 2 a ka ++ six 2 b kb ++ six 10 a ka ++ six 10 b kb ++ six 18 a ka ++ six 18 b kb ++ six 26 a ka ++ six 26 b kb

expanded : (r k : ℕ)
    → xor (permute E (binary 32 r)) (key_bits k)
    ≡ sixes (rotate 29 (binary 32 r)) (rotate 1 (binary 32 r)) (take 32 (binary 64 k)) (drop 32 (binary 64 k))
unfolding sixes binary xor zip_with permute E key_bits places rotate
expanded r k = refl

turned : (r k : ℕ) → r < 2 ^ 32 →
    sixes (rotate 29 (binary 32 r)) (rotate 1 (binary 32 r)) (take 32 (binary 64 k)) (drop 32 (binary 64 k))
    ≡ sixes (binary 32 (right r)) (binary 32 (left r)) (binary 32 (k / 2 ^ 32)) (binary 32 (k % 2 ^ 32))
turned r k h =
    ap₂ (λ (x y : List ℕ). sixes x y (take 32 (binary 64 k)) (drop 32 (binary 64 k))) (sym (turn_law 3 29 r h)) (sym (turn_law 31 1 r h))
    ∙ ap₂ (sixes (binary 32 (right r)) (binary 32 (left r))) (high_half 32 32 k) (low_half 32 32 k ∙ sym (binary_mod 32 0 k))

-- the six bits of a word from the s-th on
abbrev from : ℕ → ℕ → List ℕ
from s x = binary 6 (x / 2 ^ s % 64)

taken : (a b ka kb : ℕ) → sixes (binary 32 a) (binary 32 b) (binary 32 ka) (binary 32 kb)
    ≡ from 24 (bit_xor a ka) ++ (from 24 (bit_xor b kb) ++ (from 16 (bit_xor a ka) ++ (from 16 (bit_xor b kb)
    ++ (from 8 (bit_xor a ka) ++ (from 8 (bit_xor b kb) ++ (binary 6 (bit_xor a ka % 64) ++ binary 6 (bit_xor b kb % 64)))))))
unfolding sixes binary digits_from xor zip_with
taken a b ka kb =
    sym (cat (group 24 a ka) (cat (group 24 b kb) (cat (group 16 a ka) (cat (group 16 b kb)
    (cat (group 8 a ka) (cat (group 8 b kb) (cat (lowest a ka) (lowest b kb))))))))

-- what a selection function takes of six bits
abbrev four : List (List ℕ) → ℕ → List ℕ
four s x = binary 4 (select s (binary 6 x))

boxed : (a b c d e f g h : ℕ)
    → binaries 4 (selects S
    (binary 6 a ++ (binary 6 b ++ (binary 6 c ++ (binary 6 d ++ (binary 6 e ++ (binary 6 f ++ (binary 6 g ++ (binary 6 h)))))))))
    ≡ four S1 a ++ (four S2 b ++ (four S3 c ++ (four S4 d ++ (four S5 e ++ (four S6 f ++ (four S7 g ++ (four S8 h)))))))
unfolding binaries selects S binary
boxed a b c d e f g h = refl

-- ---- what stands in a box is below 16
abbrev small : List ℕ → Bool
small [] = true
small (x ∷ xs) = ltb x 16 && small xs

get_or_small : (s : List ℕ) (i : ℕ) → T (small s) → get_or s i 0 < 16
get_or_small [] i t = lit< tt
get_or_small (x ∷ s) zero t = ltb→lt x 16 (and_left (ltb x 16) (small s) t)
get_or_small (x ∷ s) (suc i) t = get_or_small s i (and_right (ltb x 16) (small s) t)

abbrev smalls : List (List ℕ) → Bool
smalls [] = true
smalls (x ∷ xs) = small x && smalls xs

row_small : (s : List (List ℕ)) (i : ℕ) → T (smalls s) → T (small (get_or s i []))
row_small [] i t = tt
row_small (x ∷ s) zero t = and_left (small x) (smalls s) t
row_small (x ∷ s) (suc i) t = row_small s i (and_right (small x) (smalls s) t)

entry_small : (s : List (List ℕ)) (b : List ℕ) → T (smalls s) → select s b < 16
unfolding select
entry_small s b t =
    get_or_small (get_or s (number (get_or b 0 0 ∷ get_or b 5 0 ∷ [])) []) (number (get_or b 1 0 ∷ get_or b 2 0 ∷ get_or b 3 0 ∷ get_or b 4 0 ∷ []))
    (row_small s (number (get_or b 0 0 ∷ get_or b 5 0 ∷ [])) t)

-- ---- the table's words for the eight groups
unplaced : (i j y : ℕ) → i ≡ 64 * j + y % 64 → placed (i / 64) (i % 64) ≡ placed j (y % 64)
unplaced i j y e = ap₂ placed (omega arith) (omega arith)

-- the word of box j at the six bits of y, as a part
word : (i j y w : ℕ) (s : List (List ℕ)) → i ≡ 64 * j + y % 64 → get_or S j [] ≡ s → Word i w
    → binary 32 w ≡ permute P (binary 32 (select s (binary 6 (y % 64)) * 2 ^ (28 - 4 * j)))
unfolding placed
word i j y w s e b h =
    h.bits
    ∙ unplaced i j y e
    ∙ ap (λ (x : List (List ℕ)). permute P (binary 32 (select x (binary 6 (y % 64)) * 2 ^ (28 - 4 * j)))) b

module _ (r k p q : ℕ) {w0 w1 w2 w3 w4 w5 w6 w7 : ℕ} (h : r < 2 ^ 32) (ep : p ≡ rotate_right w32 r 3) (eq : q ≡ rotate_left w32 r 1)
    (e0 : Word (odd p k / 2 ^ 24 % 64) w0)
    (e1 : Word (64 + even q k / 2 ^ 24 % 64) w1)
    (e2 : Word (128 + odd p k / 2 ^ 16 % 64) w2)
    (e3 : Word (192 + even q k / 2 ^ 16 % 64) w3)
    (e4 : Word (256 + odd p k / 2 ^ 8 % 64) w4)
    (e5 : Word (320 + even q k / 2 ^ 8 % 64) w5)
    (e6 : Word (384 + odd p k % 64) w6)
    (e7 : Word (448 + even q k % 64) w7) where
  parts : Part P 32 32 32
      (four S1 (odd p k / 2 ^ 24 % 64) ++ (four S2 (even q k / 2 ^ 24 % 64) ++ (four S3 (odd p k / 2 ^ 16 % 64)
      ++ (four S4 (even q k / 2 ^ 16 % 64) ++ (four S5 (odd p k / 2 ^ 8 % 64) ++ (four S6 (even q k / 2 ^ 8 % 64)
      ++ (four S7 (odd p k % 64) ++ four S8 (even q k % 64))))))))
      (bit_xor w0 (bit_xor w1 (bit_xor w2 (bit_xor w3 (bit_xor w4 (bit_xor w5 (bit_xor w6 w7)))))))
  unfolding S S1 S2 S3 S4 S5 S6 S7 S8
  parts =
      more 4 (select S1 (binary 6 (odd p k / 2 ^ 24 % 64))) w0 (entry_small S1 _ tt) (word _ 0 (odd p k / 2 ^ 24) w0 S1 (omega arith) refl e0)
      (more 4 (select S2 (binary 6 (even q k / 2 ^ 24 % 64))) w1 (entry_small S2 _ tt) (word _ 1 (even q k / 2 ^ 24) w1 S2 refl refl e1)
      (more 4 (select S3 (binary 6 (odd p k / 2 ^ 16 % 64))) w2 (entry_small S3 _ tt) (word _ 2 (odd p k / 2 ^ 16) w2 S3 refl refl e2)
      (more 4 (select S4 (binary 6 (even q k / 2 ^ 16 % 64))) w3 (entry_small S4 _ tt) (word _ 3 (even q k / 2 ^ 16) w3 S4 refl refl e3)
      (more 4 (select S5 (binary 6 (odd p k / 2 ^ 8 % 64))) w4 (entry_small S5 _ tt) (word _ 4 (odd p k / 2 ^ 8) w4 S5 refl refl e4)
      (more 4 (select S6 (binary 6 (even q k / 2 ^ 8 % 64))) w5 (entry_small S6 _ tt) (word _ 5 (even q k / 2 ^ 8) w5 S6 refl refl e5)
      (more 4 (select S7 (binary 6 (odd p k % 64))) w6 (entry_small S7 _ tt) (word _ 6 (odd p k) w6 S7 refl refl e6)
      (first (entry_small S8 _ tt) (word _ 7 (even q k) w7 S8 refl refl e7 ∙ ap (λ (x : ℕ). permute P (binary 32 x)) (mul-one _)))))))))

  pub cipher_law : binary 32 (bit_xor w0 (bit_xor w1 (bit_xor w2 (bit_xor w3 (bit_xor w4 (bit_xor w5 (bit_xor w6 w7)))))))
      ≡ cipher (binary 32 r) (key_bits k)
  unfolding cipher
  cipher_law =
      let from_right : right r ≡ p = sym (ep ∙ turned_right r h) in
      let from_left : left r ≡ q = sym (eq ∙ turned_left r h) in
      whole parts
      ∙ ap (permute P)
      (sym (ap (λ (x : List ℕ). binaries 4 (selects S x)) (expanded r k ∙ turned r k h
      ∙ (λ i. sixes (binary 32 (from_right i)) (binary 32 (from_left i)) (binary 32 (k / 2 ^ 32)) (binary 32 (k % 2 ^ 32)))
      ∙ taken p q (k / 2 ^ 32) (k % 2 ^ 32))
      ∙ boxed (odd p k / 2 ^ 24 % 64) (even q k / 2 ^ 24 % 64) (odd p k / 2 ^ 16 % 64) (even q k / 2 ^ 16 % 64)
      (odd p k / 2 ^ 8 % 64) (even q k / 2 ^ 8 % 64) (odd p k % 64) (even q k % 64)))
