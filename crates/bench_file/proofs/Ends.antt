-- Every malformation of document 01's list prints X and ends, and nothing else does. Assumes nothing.
use Prim.Native.Nat.{ℕ, ◌<◌}
use mathlib.Core.Bool.{true}
use mathlib.Core.List.{List, [], ◌∷◌, ◌++◌}
use mathlib.Core.Path.{◌≡◌, refl, sym, ◌∙◌}
use lib.ListN.{length}
use Rattle.framing.specs.Frames.{frame_of}
use Rattle.framing.proofs.Ends.{empty-closes, broken_refused}
use Rattle.framing.proofs.Made as made
use Rattle.bench_file.specs.Kinds.{size_ok, call_of}
use Rattle.bench_file.specs.Malformed.{Malformed}
use Rattle.bench_file.specs.Lines.{Bench, ran, moved, line, bench_lines, malformed_line}
use Rattle.bench_file.specs.Stream.{bench}
use Rattle.bench_file.proofs.Headers.{malformed_broken}
use Rattle.bench_file.proofs.Format.{bench_format}

-- an empty rest ends with nothing
pub empty_ends : (b : Bench) → bench_lines b [] ≡ []
empty_ends b = sym (bench_format b []) ∙ empty-closes bench b

-- what is malformed prints X, a line feed, and nothing more
pub malformed_ends : (b : Bench) (s : List ℕ) → Malformed s → 0 < length s → bench_lines b s ≡ 0x58 ∷ 0x0A ∷ []
unfolding malformed_line
malformed_ends b s m h = sym (bench_format b s) ∙ broken_refused bench b s (malformed_broken s m) h

-- a frame that is well formed prints the line of its call
pub frame_line : (kind : ℕ) (d t : List ℕ) → size_ok kind (length d) ≡ true → (b : Bench)
    → bench_lines b (frame_of kind d ++ t) ≡ line (call_of kind d) (ran (call_of kind d) b) ++ bench_lines (moved (call_of kind d) b) t
frame_line kind d t ok b =
    sym (bench_format b (frame_of kind d ++ t))
    ∙ made.frame_line kind d t bench b ok refl
    ∙ rw (bench_format (moved (call_of kind d) b) t)
