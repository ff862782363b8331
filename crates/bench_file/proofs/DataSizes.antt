-- Which frames are run and which print X, by their bytes: data of up to 512 bytes, and of more. Assumes nothing.
use Prim.Native.Nat.{ℕ, ◌+◌, ◌*◌, ◌/◌, ◌%◌, ◌≤◌, ◌<◌}
use mathlib.Core.List.{List, [], ◌∷◌, ◌++◌}
use mathlib.Core.Path.{◌≡◌, refl}
use native.Mathlib.Omega.{arith}
use borrow.Author.Tests.{le-leb}
use lib.ListN.{length, take, drop}
use Rattle.octets.specs.Bytes.{zeros, byte_at}
use Rattle.octets.proofs.Numbers.{word_read}
use Rattle.framing.specs.Frames.{frame_of}
use Rattle.purse_spec.specs.History.{Call, install, start, send}
use Rattle.bench_file.specs.Kinds.{size_ok, call_of}
use Rattle.bench_file.specs.Malformed.{too_long}
use Rattle.bench_file.specs.Lines.{Bench, ran, moved, line, bench_lines}
use Rattle.bench_file.proofs.Ends.{malformed_ends, frame_line}

-- the mark, a kind, the length of the data in two bytes, the data, and what follows
abbrev pub sent : ℕ → List ℕ → List ℕ → List ℕ
sent kind d t = 0xB5 ∷ 0xC3 ∷ kind ∷ length d / 256 ∷ length d % 256 ∷ (d ++ t)

-- the line of a call, then the lines of what follows
abbrev pub lines_of : Call → Bench → List ℕ → List ℕ
lines_of c b t = line c (ran c b) ++ bench_lines (moved c b) t

-- kind 01 with 2 to 512 bytes of data is an installation: limit, then installation data
pub installation-run : (b : Bench) (d t : List ℕ) → 2 ≤ length d → length d ≤ 512
    → bench_lines b (sent 0x01 d t) ≡ lines_of (install (drop 2 d) (byte_at d 0 * 256 + byte_at d 1)) b t
unfolding frame_of call_of size_ok
installation-run b d t h l = frame_line 0x01 d t (rw (le-leb (length d) 512 l) (le-leb 2 (length d) h)) b

-- kind 02 with two bytes of data is a start-up: limit
pub start-run : (b : Bench) (high low : ℕ) (t : List ℕ)
    → bench_lines b (0xB5 ∷ 0xC3 ∷ 0x02 ∷ 0x00 ∷ 0x02 ∷ high ∷ low ∷ t) ≡ lines_of (start (high * 256 + low)) b t
unfolding frame_of call_of size_ok
start-run b high low t = frame_line 0x02 (high ∷ low ∷ []) t refl b

-- kind 03 with 10 to 512 bytes of data is a command: limit, 8 random bytes, command; the response area is 32 zeros
pub command-run : (b : Bench) (d t : List ℕ) → 10 ≤ length d → length d ≤ 512
    → bench_lines b (sent 0x03 d t) ≡ lines_of (send (drop 10 d) (take 8 (drop 2 d)) (zeros 32) (byte_at d 0 * 256 + byte_at d 1)) b t
unfolding frame_of call_of size_ok
command-run b d t h l = frame_line 0x03 d t (rw (le-leb (length d) 512 l) (le-leb 10 (length d) h)) b

-- any kind with 513 bytes of data or more prints X, a line feed, and nothing for what follows
pub too_long_ends : (b : Bench) (kind : ℕ) (d t : List ℕ) → 512 < length d → bench_lines b (sent kind d t) ≡ 0x58 ∷ 0x0A ∷ []
too_long_ends b kind d t h =
    malformed_ends b (sent kind d t) (too_long (rw (word_read (length d)) h)) (omega arith)
