-- A block of bytes as fields of fixed widths: taken apart and put together. Assumes nothing.
use Rattle.std.specs.Prelude.{ℕ, zero, suc, ◌+◌, List, [], ◌∷◌, ◌++◌, ◌≡◌, length, take, drop}

-- how many bytes the fields take
abbrev pub total : List ℕ → ℕ
total [] = 0
total (w ∷ widths) = w + total widths

-- where field k starts
abbrev pub offset : List ℕ → ℕ → ℕ
offset [] k = 0
offset (w ∷ widths) zero = 0
offset (w ∷ widths) (suc k) = w + offset widths k

-- the fields of a block
abbrev pub fields : List ℕ → List ℕ → List (List ℕ)
fields [] block = []
fields (w ∷ widths) block = take w block ∷ fields widths (drop w block)

-- the block of the fields
abbrev pub joined : List (List ℕ) → List ℕ
joined [] = []
joined (f ∷ fs) = f ++ joined fs

-- the fields have the widths
abbrev pub Fit : List ℕ → List (List ℕ) → Type 0
Fit [] [] = Unit {0}
Fit [] (f ∷ fs) = ⊥
Fit (w ∷ widths) [] = ⊥
Fit (w ∷ widths) (f ∷ fs) = (length f ≡ w) × Fit widths fs
