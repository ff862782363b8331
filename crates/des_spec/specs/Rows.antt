-- A permutation of a block of 64 bits, one row of eight bits at a time: document 02, request 3. A row is one byte of the result, and
-- holds the bits that one printed line of FIPS 46-3's table lists. Lines and rows are counted from 0.
-- Assumes nothing.
use Rattle.std.specs.Prelude.{ℕ, ◌*◌, List, [], ◌∷◌, map, take, drop}
use Rattle.des_spec.specs.Bits.{number}
use Rattle.des_spec.specs.Des.{permute}

-- line r of a table, as printed: eight entries
unfoldable pub line : List ℕ → ℕ → List ℕ
line table r = take 8 (drop (8 * r) table)

-- row r of a permutation of a block of bits: the bits that line r lists, in order, the first one highest
unfoldable pub row : List ℕ → ℕ → List ℕ → ℕ
row table r block = number (permute (line table r) block)

-- all eight rows
unfoldable pub by_rows : List ℕ → List ℕ → List ℕ
by_rows table block = map (λ (r : ℕ). row table r block) (0 ∷ 1 ∷ 2 ∷ 3 ∷ 4 ∷ 5 ∷ 6 ∷ 7 ∷ [])
