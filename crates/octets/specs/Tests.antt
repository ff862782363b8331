-- Tests: many at once, and one as a byte. Assumes nothing.
use Rattle.std.specs.Prelude.{ℕ, Bool, true, false, ◌&&◌, List, [], ◌∷◌, ◌≡◌}

-- whether all tests hold
abbrev pub all_true : List Bool → Bool
all_true [] = true
all_true (b ∷ bs) = b && all_true bs

-- each test holds
abbrev pub Each : List Bool → Type 0
Each [] = Unit {0}
Each (b ∷ bs) = (b ≡ true) × Each bs

-- a flag as a byte: 1 for yes
abbrev pub flag_byte : Bool → ℕ
flag_byte true = 1
flag_byte false = 0
