-- What is no whole frame, by its bytes: document 01, "A wrong mark or kind, a record cut short". Assumes nothing.
use Rattle.std.specs.Prelude.{ℕ, ◌+◌, ◌*◌, ◌<◌, Bool, false, List, ◌≡◌, length}
use Rattle.octets.specs.Bytes.{byte_at}

-- "a two-byte length"
abbrev pub data_length : List ℕ → ℕ
data_length s = byte_at s 3 * 256 + byte_at s 4

-- bytes where a frame is due, and what is wrong with them
pub data Broken (ok : ℕ → ℕ → Bool) (s : List ℕ) : Type 0 where
  wrong_mark : (byte_at s 0 ≡ 0xB5 → byte_at s 1 ≡ 0xC3 → ⊥) → Broken ok s
  wrong_data : ok (byte_at s 2) (data_length s) ≡ false → Broken ok s
  header_cut : length s < 5 → Broken ok s
  data_cut : length s < 5 + data_length s → Broken ok s
