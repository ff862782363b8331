-- Byte strings: their parts, one laid over another, and the tests on them. A byte string is a list of numbers. Assumes nothing.
use Rattle.std.specs.Prelude.{ℕ, ◌+◌, ◌<◌, Bool, List, ◌++◌, ◌≡◌, leb, eqb, length, get_or, take, drop, replicate}
use Rattle.std.specs.List.{list_all}
use Rattle.std.specs.Str.{bytes_eq}
use Rattle.octets.specs.Choice.{pick}

-- each number of s is a byte
abbrev pub AreBytes : List ℕ → Type 0
AreBytes s = (i : ℕ) → get_or s i 0 < 256

-- s is n bytes
pub record Octets (n : ℕ) (s : List ℕ) : Type 0 where
  pub size : length s ≡ n
  pub each : AreBytes s

-- n zeros
abbrev pub zeros : ℕ → List ℕ
zeros n = replicate n 0

-- the byte at an index, 0 past the end
abbrev pub byte_at : List ℕ → ℕ → ℕ
byte_at s at = get_or s at 0

-- the n bytes from an index on, fewer where s ends before
abbrev pub part : List ℕ → ℕ → ℕ → List ℕ
part s at n = take n (drop at s)

-- the n bytes from an index on, zeros past the end
unfoldable pub field : List ℕ → ℕ → ℕ → List ℕ
field s at n = take n (drop at s ++ zeros n)

-- s over the bytes of d from an index on; d where s doesn't fit there
unfoldable pub paste : List ℕ → ℕ → List ℕ → List ℕ
paste d at s =
    pick (leb (at + length s) (length d))
    (take at d ++ s ++ drop (at + length s) d)
    d

-- whether two byte strings are equal
abbrev pub same : List ℕ → List ℕ → Bool
same a b = bytes_eq a b

-- whether all bytes are zero
abbrev pub all_zero : List ℕ → Bool
all_zero s = list_all (λ x. eqb x 0) s
