-- What a program does with the frames of a file, one after the other, and the lines of a whole file. Assumes nothing.
use Rattle.std.specs.Prelude.{ℕ, zero, suc, Bool, not, ◌&&◌, ◌||◌, List, ◌++◌, eqb, length, drop}
use Rattle.octets.specs.Choice.{pick}
use Rattle.framing.specs.Frames.{frame_kind, frame_data, frame_size, whole, malformed}

-- which frames there are, which of them are taken in a state, what each does to the state and writes; what is written where one is
-- refused, and at the end; and how long a line may be
pub record Format : Type 1 where
  pub Carried : Type 0
  pub ok : ℕ → ℕ → Bool
  pub takes : Carried → ℕ → List ℕ → Bool
  pub next : Carried → ℕ → List ℕ → Carried
  pub line : Carried → ℕ → List ℕ → List ℕ
  pub refusal : Carried → List ℕ
  pub closing : Carried → List ℕ
  pub longest : ℕ

module _ (F : Format) where
  -- a frame leads s, and it is taken
  unfoldable pub taken : F.Carried → List ℕ → Bool
  taken st s = whole F.ok s && F.takes st (frame_kind s) (frame_data s)

  -- what leads s is refused, whatever follows s: it is no frame, or one that is not taken
  unfoldable pub front_refused : F.Carried → List ℕ → Bool
  front_refused st s = malformed F.ok s || (whole F.ok s && not (F.takes st (frame_kind s) (frame_data s)))

  -- the state behind the frame that leads s, and its line
  abbrev pub next_of : F.Carried → List ℕ → F.Carried
  next_of st s = F.next st (frame_kind s) (frame_data s)

  abbrev pub line_of : F.Carried → List ℕ → List ℕ
  line_of st s = F.line st (frame_kind s) (frame_data s)

  -- what is written where no frame leads s that is taken: at the end the closing, before it the refusal
  unfoldable pub last_line : F.Carried → List ℕ → List ℕ
  last_line st s = pick (eqb (length s) 0) (F.closing st) (F.refusal st)

  -- the lines of s from a state on, of at most k frames
  unfoldable pub lines_in : ℕ → F.Carried → List ℕ → List ℕ
  lines_in zero st s = last_line st s
  lines_in (suc k) st s = pick (taken st s) (line_of st s ++ lines_in k (next_of st s) (drop (frame_size s) s)) (last_line st s)

  -- the lines of s from a state on: it has fewer frames than bytes
  unfoldable pub lines_from : F.Carried → List ℕ → List ℕ
  lines_from st s = lines_in (length s) st s
