-- Lines by their characters: document 01, "One line each: I, S or C, the answer, and after C 0 the response in upper-case hex".
-- Assumes nothing.
use Rattle.std.specs.Prelude.{ℕ, ◌+◌, ◌*◌, ◌/◌, ◌%◌, ◌<◌, List, [], ◌∷◌, ◌≡◌, length}
use Rattle.octets.specs.Bytes.{byte_at}

-- "0123456789ABCDEF"
unfoldable pub upper_case : List ℕ
upper_case =
    0x30 ∷ 0x31 ∷ 0x32 ∷ 0x33 ∷ 0x34 ∷ 0x35 ∷ 0x36 ∷ 0x37 ∷ 0x38 ∷ 0x39 ∷ 0x41 ∷ 0x42 ∷ 0x43 ∷ 0x44 ∷ 0x45 ∷ 0x46 ∷ []

-- a line of four characters: a letter, a space, the answer's digit, a line feed
abbrev pub answer_text : ℕ → ℕ → List ℕ
answer_text letter n = letter ∷ 0x20 ∷ byte_at upper_case n ∷ 0x0A ∷ []

-- a line of "C 0", a space, two digits for each byte of x, a line feed
pub record ResponseText (x l : List ℕ) : Type 0 where
  pub size : length l ≡ 5 + 2 * length x
  pub letter : byte_at l 0 ≡ 0x43
  pub space : byte_at l 1 ≡ 0x20
  pub answer : byte_at l 2 ≡ 0x30
  pub gap : byte_at l 3 ≡ 0x20
  pub high : (i : ℕ) → i < length x → byte_at x i < 256 → byte_at l (4 + 2 * i) ≡ byte_at upper_case (byte_at x i / 16)
  pub low : (i : ℕ) → i < length x → byte_at l (5 + 2 * i) ≡ byte_at upper_case (byte_at x i % 16)
  pub feed : byte_at l (4 + 2 * length x) ≡ 0x0A
