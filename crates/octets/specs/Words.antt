-- Numbers of two bytes, the high byte first. Assumes nothing.
use Rattle.std.specs.Prelude.{ℕ, ◌+◌, ◌*◌, ◌/◌, ◌%◌, List, [], ◌∷◌}
use Rattle.octets.specs.Bytes.{byte_at}

-- the two bytes of a number below 65,536
abbrev pub word : ℕ → List ℕ
word n = n / 256 ∷ n % 256 ∷ []

-- the number of two bytes
abbrev pub word_of : ℕ → ℕ → ℕ
word_of high low = high * 256 + low

-- the number of the two bytes from an index on; bytes past the end count as 0
abbrev pub word_at : List ℕ → ℕ → ℕ
word_at s at = word_of (byte_at s at) (byte_at s (at + 1))
