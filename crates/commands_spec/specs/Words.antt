-- The status words of document 01. Assumes nothing.
use Rattle.std.specs.Prelude.{Bool, false, ◌||◌, List, [], ◌∷◌, ℕ, eqb}

-- whether a number is in a list
unfoldable pub is_one : ℕ → List ℕ → Bool
is_one w [] = false
is_one w (x ∷ l) = eqb w x || is_one w l

-- the refusals that keep the card
unfoldable pub refusals : List ℕ
refusals =
    0x6700 ∷ 0x6982 ∷ 0x6983 ∷ 0x6985 ∷ 0x6A80 ∷ 0x6A81 ∷ 0x6A82 ∷ 0x6A83 ∷ 0x6A85 ∷ 0x6A86 ∷ 0x6A88 ∷ 0x6D00 ∷ 0x6E00
    ∷ 0x9410 ∷ 0x9411 ∷ 0x9412 ∷ 0x9413 ∷ 0x9414 ∷ []

-- done, a wrong PIN or cryptogram, and those
unfoldable pub status_words : List ℕ
status_words = 0x9000 ∷ 0x6300 ∷ refusals
