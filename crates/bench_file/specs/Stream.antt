-- The bench as a reader of frames: a bench file comes in pieces of any size, and its lines go out through an area of any size.
-- Assumes nothing.
use Rattle.std.specs.Prelude.{ℕ, ◌+◌, ◌*◌, true, []}
use Rattle.framing.specs.Formats.{Format}
use Rattle.bench_file.specs.Kinds.{area_size, size_ok, call_of}
use Rattle.bench_file.specs.Lines.{Bench, ran, moved, line, malformed_line}

-- "C 0", a space, two digits a byte of the response area, a line feed
abbrev pub longest_line : ℕ
longest_line = 5 + 2 * area_size

-- every frame of these kinds is run, and has its line; what is none prints X, and the end of a whole file nothing
abbrev pub bench : Format
bench =
    record {
      Carried = Bench;
      ok = size_ok;
      takes = λ b kind d. true;
      next = λ b kind d. moved (call_of kind d) b;
      line = λ b kind d. line (call_of kind d) (ran (call_of kind d) b);
      refusal = λ b. malformed_line;
      closing = λ b. [];
      longest = longest_line;
    }
