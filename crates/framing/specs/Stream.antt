-- A file that comes in pieces of any size, and goes out through an area of any size: what one turn takes and writes, and what is written in
-- all. Assumes nothing.
use Rattle.std.specs.Prelude.{ℕ, zero, suc, ◌+◌, Bool, true, false, not, ◌&&◌, List, [], ◌∷◌, ◌++◌, leb, length, drop}
use Rattle.octets.specs.Choice.{pick}
use Rattle.framing.specs.declared.next.Next.{Next}
use Rattle.framing.specs.declared.next.Next.TheVariants.{Full, More, Over}
use Rattle.framing.specs.Frames.{frame_size}
use Rattle.framing.specs.Formats.{Format, taken, front_refused, next_of, line_of, last_line}

-- bytes arrive, or there is a turn with an output area of so many bytes
pub data Event : Type 0 where
  arrives : List ℕ → Event
  turns : ℕ → Event

-- what arrives in all
unfoldable pub arrived : List Event → List ℕ
arrived [] = []
arrived (arrives p ∷ es) = p ++ arrived es
arrived (turns room ∷ es) = arrived es

-- the pieces in a row
unfoldable pub together : List (List ℕ) → List ℕ
together [] = []
together (p ∷ ps) = p ++ together ps

-- the refusal is written
unfoldable pub is_over : Next → Bool
is_over Full = false
is_over More = false
is_over Over = true

-- there was no room for a line
unfoldable pub is_full : Next → Bool
is_full Full = true
is_full More = false
is_full Over = false

-- how much of the bytes in hand was used, what was written, and the state behind it
pub record Batch (F : Format) : Type 0 where
  pub used : ℕ
  pub text : List ℕ
  pub state : F.Carried

-- one turn: the same, and how it goes on
pub record Turn (F : Format) : Type 0 where
  pub used : ℕ
  pub text : List ℕ
  pub state : F.Carried
  pub next : Next

-- the bytes not used yet, the state, and whether the refusal is written
pub record Reader (F : Format) : Type 0 where
  pub rest : List ℕ
  pub state : F.Carried
  pub over : Bool

module _ (F : Format) where
  -- nothing yet
  unfoldable pub still : F.Carried → Batch F
  still st = record { used = 0; text = []; state = st }

  -- whether a line has room behind what was written
  abbrev pub roomy : ℕ → List ℕ → Bool
  roomy room text = leb (length text + F.longest) room

  -- whether the next frame is taken: its line has room, and it is there
  unfoldable pub goes_on : ℕ → Batch F → List ℕ → Bool
  goes_on room t s = roomy room t.text && taken F t.state (drop t.used s)

  -- one frame more
  unfoldable pub extended : Batch F → List ℕ → Batch F
  extended t s =
      let rest = drop t.used s in
      record { used = t.used + frame_size rest; text = t.text ++ line_of F t.state rest; state = next_of F t.state rest }

  -- at most k frames more
  unfoldable pub batch_in : ℕ → ℕ → Batch F → List ℕ → Batch F
  batch_in zero room t s = t
  batch_in (suc k) room t s = pick (goes_on room t s) (batch_in k room (extended t s) s) t

  -- all frames that lead s and are taken, as far as their lines have room
  unfoldable pub batch : ℕ → F.Carried → List ℕ → Batch F
  batch room st s = batch_in (length s) room (still st) s

  -- a batch, and how it goes on
  unfoldable pub going : Next → Batch F → Turn F
  going next t = record { used = t.used; text = t.text; state = t.state; next = next }

  -- a batch, then the refusal and the end
  unfoldable pub ending : Batch F → Turn F
  ending t = record { used = t.used; text = t.text ++ F.refusal t.state; state = t.state; next = Over }

  -- behind a batch a line has no room; or what follows is refused; or more bytes are awaited
  unfoldable pub turn_of : ℕ → Batch F → List ℕ → Turn F
  turn_of room t s =
      pick (not (roomy room t.text)) (going Full t)
      (pick (front_refused F t.state (drop t.used s)) (ending t)
      (going More t))

  -- a turn on the bytes in hand, with an output area of so many bytes
  unfoldable pub turn : ℕ → F.Carried → List ℕ → Turn F
  turn room st s = turn_of room (batch room st s) s

  -- before the first byte
  unfoldable pub first : F.Carried → Reader F
  first st = record { rest = []; state = st; over = false }

  -- behind a turn
  unfoldable pub after_turn : Turn F → List ℕ → Reader F
  after_turn t s = record { rest = drop t.used s; state = t.state; over = is_over t.next }

  -- behind an event; after a refusal there are no turns
  unfoldable pub behind : Event → Reader F → Reader F
  behind (arrives p) r = record { rest = r.rest ++ p; state = r.state; over = r.over }
  behind (turns room) r = pick r.over r (after_turn (turn room r.state r.rest) r.rest)

  -- what an event writes
  unfoldable pub prints : Event → Reader F → List ℕ
  prints (arrives p) r = []
  prints (turns room) r = pick r.over [] (turn room r.state r.rest).text

  -- behind a list of events, and what they write
  unfoldable pub behind_all : List Event → Reader F → Reader F
  behind_all [] r = r
  behind_all (e ∷ es) r = behind_all es (behind e r)

  unfoldable pub prints_all : List Event → Reader F → List ℕ
  prints_all [] r = []
  prints_all (e ∷ es) r = prints e r ++ prints_all es (behind e r)

  -- what the end of the file writes
  unfoldable pub closes : Reader F → List ℕ
  closes r = pick r.over [] (last_line F r.state r.rest)

  -- whether another turn follows at once
  unfoldable pub again : ℕ → Reader F → Bool
  again room r = not r.over && is_full (turn room r.state r.rest).next

  -- turns until one is not full, at most k
  unfoldable pub drains : ℕ → ℕ → Reader F → List Event
  drains zero room r = []
  drains (suc k) room r = turns room ∷ pick (again room r) (drains k room (behind (turns room) r)) []

  -- a piece arrives, and there are turns until one is not full
  unfoldable pub on_piece : ℕ → List ℕ → Reader F → List Event
  on_piece room p r = let now = behind (arrives p) r in arrives p ∷ drains (length now.rest) room now

  -- what the program does with pieces
  unfoldable pub on_pieces : ℕ → List (List ℕ) → Reader F → List Event
  on_pieces room [] r = []
  on_pieces room (p ∷ ps) r = on_piece room p r ++ on_pieces room ps (behind_all (on_piece room p r) r)
