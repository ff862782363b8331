-- What prints X and ends: document 01, "A wrong mark or kind, a record cut short, a missing limit or random byte, data after 02's limit, or
-- data over 512 bytes". Assumes nothing.
use Rattle.std.specs.Prelude.{ℕ, ◌+◌, ◌<◌, List, ◌≡◌, length}
use Rattle.octets.specs.Bytes.{byte_at}
use Rattle.framing.specs.Broken.{data_length}

-- bytes where a frame is due, and what is wrong with them
pub data Malformed (s : List ℕ) : Type 0 where
  wrong_mark : (byte_at s 0 ≡ 0xB5 → byte_at s 1 ≡ 0xC3 → ⊥) → Malformed s
  wrong_kind : (byte_at s 2 ≡ 0x01 → ⊥) → (byte_at s 2 ≡ 0x02 → ⊥) → (byte_at s 2 ≡ 0x03 → ⊥) → Malformed s
  header_cut : length s < 5 → Malformed s
  data_cut : length s < 5 + data_length s → Malformed s
  no_limit : data_length s < 2 → Malformed s
  no_random : byte_at s 2 ≡ 0x03 → data_length s < 10 → Malformed s
  behind_limit : byte_at s 2 ≡ 0x02 → 2 < data_length s → Malformed s
  too_long : 512 < data_length s → Malformed s
