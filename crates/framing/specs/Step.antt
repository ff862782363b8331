-- What one frame, a batch of frames and a turn hand back, and leave of the output area. Assumes nothing.
use Rattle.std.specs.Prelude.{ℕ, ◌+◌, ◌-◌, ◌≤◌, true, List, ◌≡◌, length, drop}
use Rattle.octets.specs.Bytes.{paste}
use Rattle.framing.specs.declared.next.Next.{Next}
use Rattle.framing.specs.declared.output.Output.{Output}
use Rattle.framing.specs.Frames.{frame_size}
use Rattle.framing.specs.Formats.{Format, taken, next_of, line_of}
use Rattle.framing.specs.Stream.{batch, turn}

-- a format with what its code relies on: what is carried and good for so many bytes more stays so, and its lines are no longer than
-- the longest
pub record Fitting (F : Format) : Type 1 where
  pub Good : F.Carried → ℕ → Type 0
  pub good_next : (st : F.Carried) (s : List ℕ) (n : ℕ) → Good st n → taken F st s ≡ true → frame_size s ≤ n
      → Good (next_of F st s) (n - frame_size s)
  pub line_fits : (st : F.Carried) (s : List ℕ) (n : ℕ) → Good st n → length (line_of F st s) ≤ F.longest
  pub refusal_fits : (st : F.Carried) (n : ℕ) → Good st n → length (F.refusal st) ≤ F.longest

-- a line is put at an index of the output area: how many bytes it has, and the area behind it
abbrev pub Puts : List ℕ → List ℕ → ℕ → ℕ → List ℕ → Type 0
Puts line out at n out' = (n ≡ length line) × (out' ≡ paste out at line)

-- a line is put behind what is written of the output
pub record PutsBehind (line : List ℕ) (o o' : Output) : Type 0 where
  pub writes : o'.written ≡ o.written + length line
  pub shows : o'.area.now ≡ paste o.area.now o.written line

module _ (F : Format) where
  -- the frame behind the used bytes: its line is put behind the others
  pub record Stepped (st : F.Carried) (input : List ℕ) (used : ℕ) (out : List ℕ) (written : ℕ)
      (used' written' : ℕ) (st' : F.Carried) (out' : List ℕ) : Type 0 where
    pub uses : used' ≡ used + frame_size (drop used input)
    pub writes : written' ≡ written + length (line_of F st (drop used input))
    pub state : st' ≡ next_of F st (drop used input)
    pub shows : out' ≡ paste out written (line_of F st (drop used input))

  -- a batch: its text leads the output area
  pub record Batches (st : F.Carried) (input out : List ℕ) (used written : ℕ) (st' : F.Carried) (out' : List ℕ) : Type 0 where
    pub uses : used ≡ (batch F (length out) st input).used
    pub writes : written ≡ length (batch F (length out) st input).text
    pub state : st' ≡ (batch F (length out) st input).state
    pub shows : out' ≡ paste out 0 (batch F (length out) st input).text

  -- a turn: the same, and how it goes on
  pub record Turns (st : F.Carried) (input out : List ℕ) (used written : ℕ) (st' : F.Carried) (next : Next) (out' : List ℕ)
      : Type 0 where
    pub uses : used ≡ (turn F (length out) st input).used
    pub writes : written ≡ length (turn F (length out) st input).text
    pub state : st' ≡ (turn F (length out) st input).state
    pub goes : next ≡ (turn F (length out) st input).next
    pub shows : out' ≡ paste out 0 (turn F (length out) st input).text
