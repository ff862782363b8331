-- Lists of bits and of bytes, as FIPS 46-3 writes blocks and keys: the leftmost bit comes first, and a byte is its eight bits, the most
-- significant first.
-- A bit is 0 or 1, a byte is 0 to 255. Assumes nothing.
use Rattle.std.specs.Prelude.{ℕ, zero, suc, ◌+◌, ◌*◌, ◌/◌, ◌%◌, ◌^◌, ◌<◌, ◌≤◌, length, get_or, take, drop}
use mathlib.Core.List.{List, [], ◌∷◌, ◌++◌, map, zip_with}
use Rattle.std.specs.Int.Bits.{bit_xor}

-- the number v in binary, n bits
unfoldable pub binary : ℕ → ℕ → List ℕ
binary zero v = []
binary (suc n) v = v / 2 ^ n % 2 ∷ binary n v

-- the number that a list of bits says
unfoldable pub number : List ℕ → ℕ
number [] = 0
number (b ∷ bs) = b * 2 ^ length bs + number bs

-- the numbers vs in binary, n bits each, one after the other
unfoldable pub binaries : ℕ → List ℕ → List ℕ
binaries n [] = []
binaries n (v ∷ vs) = binary n v ++ binaries n vs

-- the first n parts of a list, each of w elements
unfoldable pub parts : ℕ → ℕ → List ℕ → List (List ℕ)
parts zero w l = []
parts (suc n) w l = take w l ∷ parts n w (drop w l)

-- the bits of a list of bytes
unfoldable pub bits_of : List ℕ → List ℕ
bits_of bytes = binaries 8 bytes

-- the first n bytes of a list of bits
unfoldable pub bytes_of : ℕ → List ℕ → List ℕ
bytes_of n bits = map number (parts n 8 bits)

-- bit-by-bit addition modulo 2 of two lists of bits
unfoldable pub xor : List ℕ → List ℕ → List ℕ
xor a b = zip_with (λ (x y : ℕ). (x + y) % 2) a b

-- the same of two lists of bytes
unfoldable pub xor_bytes : List ℕ → List ℕ → List ℕ
xor_bytes a b = zip_with bit_xor a b

-- every element is below m
pub record Below (m : ℕ) (l : List ℕ) : Type 0 where
  pub at : (k : ℕ) → get_or l k 0 < m

-- every element is a bit
abbrev pub Bits : List ℕ → Type 0
Bits l = Below 2 l

-- every element is a byte
abbrev pub Bytes : List ℕ → Type 0
Bytes l = Below 256 l

-- every entry of a table names a place of a list of n, counted from 1
pub record Names (table : List ℕ) (n : ℕ) : Type 0 where
  pub least : (k : ℕ) → k < length table → 1 ≤ get_or table k 0
  pub most : (k : ℕ) → k < length table → get_or table k 0 ≤ n
