-- Frames: document 01, "Each record has the two-byte mark B5 C3, a kind, a two-byte length, data." Which kinds there are, and how many
-- bytes of data each may have, every format says for itself: `ok kind n`. Assumes nothing.
use Rattle.std.specs.Prelude.{ℕ, ◌+◌, Bool, true, false, not, ◌&&◌, List, ◌∷◌, ◌++◌, leb, ltb, eqb, length}
use Rattle.octets.specs.Choice.{pick}
use Rattle.octets.specs.Bytes.{byte_at, part}
use Rattle.octets.specs.Words.{word, word_at}
use Rattle.framing.specs.declared.front.Front.{Front}
use Rattle.framing.specs.declared.front.Front.TheVariants.{Frame, Malformed, Awaited}

-- mark, kind and length
abbrev pub header_size : ℕ
header_size = 5

-- a frame of a kind and its data
unfoldable pub frame_of : ℕ → List ℕ → List ℕ
frame_of kind d = 0xB5 ∷ 0xC3 ∷ kind ∷ (word (length d) ++ d)

-- of the frame that leads s, the kind
abbrev pub frame_kind : List ℕ → ℕ
frame_kind s = byte_at s 2

-- how many bytes of data it has
abbrev pub data_size : List ℕ → ℕ
data_size s = word_at s 3

-- its data
abbrev pub frame_data : List ℕ → List ℕ
frame_data s = part s header_size (data_size s)

-- its length
unfoldable pub frame_size : List ℕ → ℕ
frame_size s = header_size + data_size s

-- the mark leads s
unfoldable pub marked : List ℕ → Bool
marked s = eqb (byte_at s 0) 0xB5 && eqb (byte_at s 1) 0xC3

-- what leads the bytes in hand, by whether its kind may have so many bytes of data
unfoldable pub leads : Bool → List ℕ → Front
leads ok s =
    pick (ltb (length s) header_size) Awaited
    (pick (not (marked s)) Malformed
    (pick (not ok) Malformed
    (pick (ltb (length s) (frame_size s)) Awaited
    Frame)))

unfoldable pub is_frame : Front → Bool
is_frame Frame = true
is_frame Malformed = false
is_frame Awaited = false

unfoldable pub is_malformed : Front → Bool
is_malformed Frame = false
is_malformed Malformed = true
is_malformed Awaited = false

module _ (ok : ℕ → ℕ → Bool) where
  -- what leads s
  abbrev pub front_of : List ℕ → Front
  front_of s = leads (ok (frame_kind s) (data_size s)) s

  -- whether the header that leads s is one
  unfoldable pub header_ok : List ℕ → Bool
  header_ok s = marked s && ok (frame_kind s) (data_size s)

  -- a whole frame leads s
  unfoldable pub whole : List ℕ → Bool
  whole s = leb header_size (length s) && header_ok s && leb (frame_size s) (length s)

  -- no frame leads s, whatever follows s
  unfoldable pub malformed : List ℕ → Bool
  malformed s = leb header_size (length s) && not (header_ok s)
