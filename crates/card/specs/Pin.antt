-- The PIN block of document 01, PIN CHANGE/UNBLOCK: "nibble 2, length 4–12, digits, F to 16 nibbles". The high nibble of a byte
-- comes first. Assumes nothing.
use Rattle.std.specs.Prelude.{Bool, true, ◌&&◌, List, [], ◌∷◌, ◌++◌, ℕ, ◌+◌, ◌-◌, ◌*◌, ◌/◌, ◌%◌, ◌≤◌, leb, eqb, length, get_or, take, drop, replicate}
use Rattle.octets.specs.Tests.{all_true}

-- the nibbles of bytes
unfoldable pub nibbles : List ℕ → List ℕ
nibbles [] = []
nibbles (b ∷ block) = b / 16 ∷ b % 16 ∷ nibbles block

-- every number of a list is from low to high
unfoldable pub between : ℕ → ℕ → List ℕ → Bool
between low high [] = true
between low high (d ∷ l) = leb low d && leb d high && between low high l

-- of the nibbles after the first two, the first n are digits and the others F
unfoldable pub well_formed : List ℕ → Bool
well_formed block =
    let l = nibbles block in
    let n = get_or l 1 0 in
    all_true
    (eqb (get_or l 0 0) 2 ∷ leb 4 n ∷ leb n 12 ∷ between 0 9 (take n (drop 2 l)) ∷ between 0xF 0xF (drop n (drop 2 l)) ∷ [])

-- ---- the same block made of its digits

-- bytes of nibbles, the high one first
unfoldable pub paired : List ℕ → List ℕ
paired [] = []
paired (x ∷ []) = x * 16 ∷ []
paired (x ∷ y ∷ l) = (x * 16 + y) ∷ paired l

-- the block of a PIN of some digits
unfoldable pub block_of : List ℕ → List ℕ
block_of digits = paired (2 ∷ length digits ∷ digits ++ replicate (14 - length digits) 0xF)

-- 4 to 12 digits, each from 0 to 9
pub record Digits (digits : List ℕ) : Type 0 where
  pub least : 4 ≤ length digits
  pub most : length digits ≤ 12
  pub each : (i : ℕ) → get_or digits i 0 ≤ 9
