-- What stands in the words of the quick engine: those of its tables, and those of round keys. Assumes nothing.
use Rattle.std.specs.Prelude.{◌≡◌, List, [], ◌∷◌, ◌++◌, ℕ, zero, suc, ◌*◌, ◌/◌, ◌%◌, ◌^◌, ◌-◌, ◌<◌, get_or, length, take, drop}
use Rattle.des_spec.specs.Bits.{binary, xor}
use Rattle.des_spec.specs.Des.{permute, select}
use Rattle.des_spec.specs.Tables.{P, PC2, S}

-- where the 48 bits of a round key stand in its word: six to a byte behind two zeros, those of S1, S3, S5, S7 in the high half, the others
-- in the low
unfoldable pub places : List ℕ
places =
    3 ∷ 4 ∷ 5 ∷ 6 ∷ 7 ∷ 8 ∷ 35 ∷ 36 ∷ 37 ∷ 38 ∷ 39 ∷ 40 ∷
    11 ∷ 12 ∷ 13 ∷ 14 ∷ 15 ∷ 16 ∷ 43 ∷ 44 ∷ 45 ∷ 46 ∷ 47 ∷ 48 ∷
    19 ∷ 20 ∷ 21 ∷ 22 ∷ 23 ∷ 24 ∷ 51 ∷ 52 ∷ 53 ∷ 54 ∷ 55 ∷ 56 ∷
    27 ∷ 28 ∷ 29 ∷ 30 ∷ 31 ∷ 32 ∷ 59 ∷ 60 ∷ 61 ∷ 62 ∷ 63 ∷ 64 ∷ []

-- the round key of a word
unfoldable pub key_bits : ℕ → List ℕ
key_bits k = permute places (binary 64 k)

-- selection function i at six bits, put at nibble i of a word that is otherwise zero, and permuted
unfoldable pub placed : ℕ → ℕ → List ℕ
placed i x = permute P (binary 32 (select (get_or S i []) (binary 6 x) * 2 ^ (28 - 4 * i)))

-- the bits of a list where a mask has ones, zeros elsewhere
unfoldable pub masked : List ℕ → List ℕ → List ℕ
masked [] l = []
masked (c ∷ m) [] = []
masked (zero ∷ m) (b ∷ l) = 0 ∷ masked m l
masked (suc c ∷ m) (b ∷ l) = b ∷ masked m l

-- the places of a word that a selection function sets
unfoldable pub mask : ℕ → List ℕ
mask i = permute P (binary 32 (15 * 2 ^ (28 - 4 * i)))

-- w is the word at 64 * i + x, of function i at x: its bits, and zeros but at the places of function i
pub record Word (at w : ℕ) : Type 0 where
  pub bits : binary 32 w ≡ placed (at / 64) (at % 64)
  pub only : masked (mask (at / 64)) (binary 32 w) ≡ binary 32 w

-- t holds the words of the selection functions
pub record Boxed (t : List ℕ) : Type 0 where
  pub size : length t ≡ 512
  pub each : (k : ℕ) → k < length t → Word k (get_or t k 0)

-- t holds the words of permuted choice 2 by nibbles: at 16 * j + v, what it takes of halves with the nibble v at place j, counted from
-- the low end, and zeros elsewhere
pub record Chosen (t : List ℕ) : Type 0 where
  pub size : length t ≡ 224
  pub each : (k : ℕ) → k < length t → key_bits (get_or t k 0) ≡ permute PC2 (binary 56 (k % 16 * 2 ^ (4 * (k / 16))))

-- a list of 64 bits moved by s places to the right, and to the left, zeros coming in
unfoldable pub rightward : ℕ → List ℕ → List ℕ
rightward s l = binary s 0 ++ take (64 - s) l

unfoldable pub leftward : ℕ → List ℕ → List ℕ
leftward s l = drop s l ++ binary s 0

-- a list of 64 bits, those where the mask has ones exchanged with those s places to their left
unfoldable pub swapped : ℕ → List ℕ → List ℕ → List ℕ
swapped s m l =
    let t = masked m (xor (rightward s l) l) in
    xor (xor l t) (leftward s t)

-- where the halves C and D of a key stand in a word: each in the high 28 bits of a half
unfoldable pub halves_at : List ℕ
halves_at =
    1 ∷ 2 ∷ 3 ∷ 4 ∷ 5 ∷ 6 ∷ 7 ∷ 8 ∷ 9 ∷ 10 ∷ 11 ∷ 12 ∷ 13 ∷ 14 ∷
    15 ∷ 16 ∷ 17 ∷ 18 ∷ 19 ∷ 20 ∷ 21 ∷ 22 ∷ 23 ∷ 24 ∷ 25 ∷ 26 ∷ 27 ∷ 28 ∷
    33 ∷ 34 ∷ 35 ∷ 36 ∷ 37 ∷ 38 ∷ 39 ∷ 40 ∷ 41 ∷ 42 ∷ 43 ∷ 44 ∷ 45 ∷ 46 ∷
    47 ∷ 48 ∷ 49 ∷ 50 ∷ 51 ∷ 52 ∷ 53 ∷ 54 ∷ 55 ∷ 56 ∷ 57 ∷ 58 ∷ 59 ∷ 60 ∷ []
