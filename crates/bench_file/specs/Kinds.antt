-- The kinds of a bench file's frames: document 01, "Kind 01: installation (limit, then AID length, AID, log size, tries, keys); 02:
-- start-up, limit; 03: limit, 8 random bytes, command. Limits are two bytes." Assumes nothing.
use Rattle.std.specs.Prelude.{ℕ, zero, suc, Bool, false, not, ◌&&◌, List, [], ◌∷◌, leb, eqb, length, drop}
use Rattle.octets.specs.Choice.{pick}
use Rattle.octets.specs.Bytes.{zeros, part}
use Rattle.octets.specs.Words.{word_at}
use Rattle.framing.specs.Frames.{frame_kind, frame_data, frame_size, whole}
use Rattle.purse_spec.specs.History.{Call, install, start, send}
use Rattle.bench_file.specs.declared.kind.Kind.{Kind}
use Rattle.bench_file.specs.declared.kind.Kind.TheVariants.{Installation, Startup, Command}

-- "Kind 01: installation .. 02: start-up .. 03: .. command"
abbrev pub number : Kind → ℕ
number Installation = 0x01
number Startup = 0x02
number Command = 0x03

-- "data over 512 bytes"
abbrev pub most_data : ℕ
most_data = 512

-- the bench's response area, the least that a command takes
abbrev pub area_size : ℕ
area_size = 32

-- "a missing limit or random byte, data after 02's limit, or data over 512 bytes": whether a kind may have n bytes of data; no other
-- kind may have any
unfoldable pub size_ok : ℕ → ℕ → Bool
size_ok kind n =
    leb n most_data
    && pick (eqb kind 0x01) (leb 2 n)
    (pick (eqb kind 0x02) (eqb n 2)
    (pick (eqb kind 0x03) (leb 10 n)
    false))

-- the call of a kind and its data
unfoldable pub call_of : ℕ → List ℕ → Call
call_of kind d =
    pick (eqb kind 0x01) (install (drop 2 d) (word_at d 0))
    (pick (eqb kind 0x02) (start (word_at d 0))
    (send (drop 10 d) (part d 2 8) (zeros area_size) (word_at d 0)))

-- the call of the frame that leads s
abbrev pub first_call : List ℕ → Call
first_call s = call_of (frame_kind s) (frame_data s)

-- a file: its calls up to the end or to what is malformed, and whether something is
pub record File : Type 0 where
  pub calls : List Call
  pub malformed : Bool

-- a file that no frame leads: empty, or malformed
unfoldable pub frameless : List ℕ → File
frameless s = record { calls = []; malformed = not (eqb (length s) 0) }

-- a call before the others
unfoldable pub leading : Call → File → File
leading c f = record { calls = c ∷ f.calls; malformed = f.malformed }

-- the file that s is, of at most k frames
unfoldable pub file_in : ℕ → List ℕ → File
file_in zero s = frameless s
file_in (suc k) s = pick (whole size_ok s) (leading (first_call s) (file_in k (drop (frame_size s) s))) (frameless s)

-- the file that s is: it has fewer frames than bytes
unfoldable pub file : List ℕ → File
file s = file_in (length s) s
