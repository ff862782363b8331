-- The lines of a bench file, call by call, are those of its frames: what holds of every format holds of the bench. Assumes nothing.
use Prim.Native.Nat.{ℕ, zero, suc}
use mathlib.Core.Bool.{Bool, true, false, not, ◌&&◌, ◌||◌}
use mathlib.Core.List.{List, [], ◌++◌, append_assoc}
use mathlib.Core.Path.{◌≡◌, refl, sym, ap, ◌∙◌}
use denote.Enum.Bare.{sameb}
use lib.Dec.{eqb}
use lib.ListN.{length, drop}
use Rattle.octets.specs.Choice.{pick}
use Rattle.framing.specs.contracts.front.Front.{the_type}
use Rattle.framing.specs.declared.front.Front.{Front}
use Rattle.framing.specs.declared.front.Front.TheVariants.{Frame, Malformed}
use Rattle.framing.specs.Frames.{frame_size, is_frame, is_malformed, front_of, whole, malformed}
use Rattle.framing.specs.Formats.{taken, front_refused, last_line, lines_in, lines_from}
use Rattle.framing.proofs.Headers.{front_whole, front_malformed, frame_test, malformed_test}
use Rattle.purse_spec.specs.History.{Call}
use Rattle.bench_file.specs.Kinds.{File, size_ok, first_call, frameless, leading, file_in, file}
use Rattle.bench_file.specs.Lines.{Bench, ran, moved, line, malformed_line, call_lines, file_lines, bench_lines}
use Rattle.bench_file.specs.Stream.{bench}

-- every whole frame is taken
pub taken_is : (b : Bench) (s : List ℕ) → taken bench b s ≡ whole size_ok s
unfolding taken
taken_is b s = by (whole size_ok s)
  where
    by : (w : Bool) → (w && true) ≡ w
    by true = refl
    by false = refl

-- and what is malformed is refused
pub refused-is : (b : Bench) (s : List ℕ) → front_refused bench b s ≡ malformed size_ok s
unfolding front_refused
refused-is b s = by (malformed size_ok s) (whole size_ok s)
  where
    by : (m w : Bool) → (m || (w && false)) ≡ m
    by true w = refl
    by false true = refl
    by false false = refl

-- as the code tests both
pub taken_by : (b : Bench) (rest : List ℕ) (f : Front) → f ≡ front_of size_ok rest → (t : Bool) → t ≡ sameb the_type f Frame
    → t ≡ taken bench b rest
taken_by b rest f e t g = g ∙ frame_test f ∙ ap is_frame e ∙ front_whole size_ok rest ∙ sym (taken_is b rest)

pub refused_by : (b : Bench) (input rest : List ℕ) (used : ℕ) → rest ≡ drop used input → (f : Front) → f ≡ front_of size_ok rest
    → (t : Bool) → t ≡ sameb the_type f Malformed → t ≡ front_refused bench b (drop used input)
refused_by b input rest used l f e t g =
    g ∙ malformed_test f ∙ ap is_malformed e ∙ front_malformed size_ok rest ∙ ap (malformed size_ok) l ∙ sym (refused-is b (drop used input))

by_first : (t : Bool) (c : Call) (f last : File) (b : Bench) (x y z : List ℕ) → x ++ y ≡ file_lines (leading c f) b → z ≡ file_lines last b
    → pick t (x ++ y) z ≡ file_lines (pick t (leading c f) last) b
by_first true c f last b x y z h k = h
by_first false c f last b x y z h k = k

last_lines : (b : Bench) (s : List ℕ) → last_line bench b s ≡ file_lines (frameless s) b
unfolding last_line file_lines frameless call_lines
last_lines b s = by (eqb (length s) 0)
  where
    by : (t : Bool) → pick t [] malformed_line ≡ pick (not t) malformed_line []
    by true = refl
    by false = refl

leading-lines : (c : Call) (f : File) (b : Bench) → line c (ran c b) ++ file_lines f (moved c b) ≡ file_lines (leading c f) b
unfolding file_lines call_lines leading
leading-lines c f b = sym (append_assoc (line c (ran c b)) (call_lines f.calls (moved c b)) (pick f.malformed malformed_line []))

lines_in_lem : (k : ℕ) (b : Bench) (s : List ℕ) → lines_in bench k b s ≡ file_lines (file_in k s) b
unfolding lines_in file_in
lines_in_lem zero b s = last_lines b s
lines_in_lem (suc k) b s =
    let c = first_call s in
    let rest = drop (frame_size s) s in
    rw (taken_is b s)
    (by_first (whole size_ok s) c (file_in k rest) (frameless s) b (line c (ran c b)) (lines_in bench k (moved c b) rest) (last_line bench b s)
    (ap (λ (u : List ℕ). line c (ran c b) ++ u) (lines_in_lem k (moved c b) rest) ∙ leading-lines c (file_in k rest) b)
    (last_lines b s))

-- the lines of a bench file are those of its format
pub bench_format : (b : Bench) (s : List ℕ) → lines_from bench b s ≡ bench_lines b s
unfolding lines_from bench_lines file
bench_format b s = lines_in_lem (length s) b s
