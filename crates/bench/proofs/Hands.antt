-- What the program has in hand, turn by turn: the turns of a piece are those of `on_pieces`, and what is kept of it is what they leave.
-- Assumes nothing.
use Prim.Native.Nat.{ℕ, suc, ◌+◌, ◌-◌, ◌≤◌, ◌<◌}
use mathlib.Core.Bool.{Bool, true, false, false≢true}
use mathlib.Core.List.{List, []}
use mathlib.Core.Path.{◌≡◌, refl, sym, ap, subst, ◌∙◌}
use native.Mathlib.Nat.{zero-add}
use native.Mathlib.Omega.{arith}
use denote.Enum.Bare.{sameb}
use lib.Dec.{eqb}
use lib.ListN.{length, take, drop, length-take, length-drop}
use lib.Seq.{drop-drop}
use Rattle.std.specs.Prelude.{Result, Ok}
use Rattle.std.proofs.lemmas.Slice.{between_is}
use Rattle.octets.specs.Choice.{pick}
use Rattle.octets.specs.Bytes.{part, paste}
use Rattle.octets.proofs.Pasting.{length-paste, take_pasted}
use Rattle.framing.specs.contracts.next.Next.{the_type}
use Rattle.framing.specs.declared.next.Next.{Next}
use Rattle.framing.specs.declared.next.Next.TheVariants.{Full, More, Over}
use Rattle.framing.specs.Frames.{header_size}
use Rattle.framing.specs.Formats.{last_line}
use Rattle.framing.specs.Step.{Puts}
use Rattle.framing.specs.Stream.{Reader, turns, turn, is_over, is_full, after_turn, behind, again}
use Rattle.framing.proofs.PieceLines.{full_moves}
use Rattle.framing.proofs.Draining.{Draining, drain_start, drain_again, drain_last}
use Rattle.framing.proofs.Turning.{turn-kept}
use Rattle.bench_file.specs.declared.frame.Runner.{Runner}
use Rattle.bench_file.specs.declared.turns.Turned.{Turned}
use Rattle.bench_file.specs.Lines.{Bench, begun, malformed_line}
use Rattle.bench_file.specs.Printed.{bench_at}
use Rattle.bench_file.specs.Stream.{longest_line, bench}
use Rattle.bench_file.specs.Step.{TurnRuns}
use Rattle.bench_file.proofs.LineSizes.{fitting}
use Rattle.bench.specs.declared.stream.Hand.{Hand}
use Rattle.bench.specs.declared.stream.Ended.{Ended}
use Rattle.bench.specs.Going.{turns_again}
use Rattle.bench.specs.InHand.{in_hand, drained, HandTurned}

-- ---- one turn

-- what a turn used was in hand, and what it wrote lies in the output area
pub turn-within : (r : Runner) (input out : List ℕ) (t : Turned) (r' : Runner) (out' : List ℕ) → TurnRuns r input out t r' out'
    → (t.used ≤ length input) × (t.written ≤ length out)
turn-within r input out t r' out' e =
    let k = turn-kept bench fitting (length out) (bench_at r) input tt in
    (rw e.uses k.0, rw e.writes k.1)

-- what is used of the end of s
pub used-within : (s : List ℕ) (used more : ℕ) → used ≤ length s → more ≤ length (take (length s - used) (drop used s)) → used + more ≤ length s
used-within s used more h l = omega (arith, length-take (length s - used) (drop used s), length-drop used s)

-- the output area keeps its length
pub room-kept : (r : Runner) (input : List ℕ) (used : ℕ) (out : List ℕ) (h : Result Hand Ended) (r' : Runner) (out' : List ℕ)
    → HandTurned r input used out h r' out' → length out' ≡ length out
room-kept r input used out h r' out' e = rw e.shows (length-paste out 0 _)

-- the line at the end of the file lies in the output area
pub last_within : (rest out out' : List ℕ) (n : ℕ) → longest_line ≤ length out → ((b : Bench) → Puts (last_line bench b rest) out 0 n out') → n ≤ length out
unfolding last_line malformed_line
last_within rest out out' n l f = rw (f begun).0 (by (eqb (length rest) 0))
  where
    by : (b : Bool) → length (pick b [] malformed_line) ≤ length out
    by true = omega arith
    by false = omega arith

-- ---- how it goes on, as `==` tests it

pub full_test : (next : Next) → sameb the_type next Full ≡ turns_again next true
unfolding turns_again is_full
full_test Full = refl
full_test More = refl
full_test Over = refl

-- ---- the loop

full_not_over : (next : Next) → is_full next ≡ true → is_over next ≡ false
unfolding is_full is_over
full_not_over Full e = refl
full_not_over More e = refl
full_not_over Over e = absurd (false≢true e)

module _ (r : Runner) (input : List ℕ) (used : ℕ) (out : List ℕ) (h : Hand) (r' : Runner) (out' : List ℕ)
    (l : longest_line ≤ length out) (i : used ≤ length input) (e : HandTurned r input used out (Ok h) r' out') where
  abbrev here : Reader bench
  here = in_hand (drop used input) r false

  hand_within : h.used ≤ length input
  hand_within =
      let k = turn-kept bench fitting (length out) (bench_at r) (drop used input) tt in
      rw e.uses (omega (arith, k.0, length-drop used input))

  turn_is_full : is_full h.next ≡ true → is_full (turn bench (length out) (bench_at r) (drop used input)).next ≡ true
  turn_is_full t = rw (← e.goes) t

  moved_on : is_full h.next ≡ true → header_size ≤ (turn bench (length out) (bench_at r) (drop used input)).used
  moved_on t = full_moves bench (length out) (bench_at r) (drop used input) l (turn_is_full t)

  hand_moves : is_full h.next ≡ true → used < h.used
  hand_moves t = let k = moved_on t in rw e.uses (omega arith)

  -- the reader behind it
  reader_behind : in_hand (drop h.used input) r' (is_over h.next) ≡ behind bench (turns (length out)) here
  unfolding behind after_turn
  reader_behind = rw (e.uses, e.goes, e.state, ← drop-drop)

  -- another turn follows
  goes_further : (start : Reader bench) → is_full h.next ≡ true → Draining bench (length out) start here
      → Draining bench (length out) start (in_hand (drop h.used input) r' false)
  unfolding again
  goes_further start t d =
      let f = turn_is_full t in
      let k = moved_on t in
      let n = (turn-kept bench fitting (length out) (bench_at r) (drop used input) tt).0 in
      let g = drain_again bench (length out) start here l (omega arith) f d in
      let o = full_not_over _ t in
      subst (Draining bench (length out) start) (sym (rw o at reader_behind)) g

  -- it was the last
  comes_last : (start : Reader bench) → is_full h.next ≡ false → Draining bench (length out) start here
      → in_hand (drop h.used input) r' (is_over h.next) ≡ drained (length out) start
  unfolding again
  comes_last start t d =
      let f : is_full (turn bench (length out) (bench_at r) (drop used input)).next ≡ false = rw (← e.goes) t in
      reader_behind ∙ sym (drain_last bench (length out) start here f d)

-- between two turns: the turns to come drain what is in hand; behind the last it is drained
pub record Drains (r₀ : Runner) (input : List ℕ) (room : ℕ) (r : Runner) (h : Hand) : Type 0 where
  pub inside : h.used ≤ length input
  pub further : turns_again h.next true ≡ true → Draining bench room (in_hand input r₀ false) (in_hand (drop h.used input) r false)
  pub last : turns_again h.next true ≡ false → in_hand (drop h.used input) r (is_over h.next) ≡ drained room (in_hand input r₀ false)

module _ (r₀ : Runner) (input out : List ℕ) (room : ℕ) (o : length out ≡ room) (l : longest_line ≤ room) where
  -- a turn on what is left
  turned : (r : Runner) (used : ℕ) → used ≤ length input → Draining bench room (in_hand input r₀ false) (in_hand (drop used input) r false)
      → (h : Hand) (r' : Runner) (out' : List ℕ) → HandTurned r input used out (Ok h) r' out' → Drains r₀ input room r' h
  unfolding turns_again
  turned r used i d h r' out' e =
      let start = in_hand input r₀ false in
      let k : longest_line ≤ length out = rw o l in
      let g : Draining bench (length out) start (in_hand (drop used input) r false) = rw o d in
      record {
        inside = hand_within r input used out h r' out' k i e;
        further = λ t. rw o at (goes_further r input used out h r' out' k i e start t g);
        last = λ t. rw o at (comes_last r input used out h r' out' k i e start t g);
      }

  -- the first
  pub hand_start : 0 < length input → (h : Hand) (r' : Runner) (out' : List ℕ) → HandTurned r₀ input 0 out (Ok h) r' out'
      → Drains r₀ input room r' h
  hand_start n = turned r₀ 0 (omega arith) (drain_start bench room (in_hand input r₀ false) n)

  module _ (r : Runner) (h : Hand) (d : Drains r₀ input room r h) (t : turns_again h.next true ≡ true) (h' : Hand) (r' : Runner) (out' : List ℕ)
      (e : HandTurned r input h.used out (Ok h') r' out') where
    -- one more
    pub hand_step : Drains r₀ input room r' h'
    hand_step = turned r h.used d.inside (d.further t) h' r' out' e

    -- each but the last uses some of the bytes in hand
    pub hand_less : pick (turns_again h'.next true) (suc (length input - h'.used)) 0 < pick (turns_again h.next true) (suc (length input - h.used)) 0
    unfolding turns_again
    hand_less =
        let k : longest_line ≤ length out = rw o l in
        falls (is_full h.next) (is_full h'.next) (length input) h.used h'.used t (hand_within r input h.used out h' r' out' k d.inside e)
        (hand_moves r input h.used out h' r' out' k d.inside e)
      where
        falls : (b c : Bool) (n u v : ℕ) → b ≡ true → v ≤ n → (c ≡ true → u < v) → pick c (suc (n - v)) 0 < pick b (suc (n - u)) 0
        falls b true n u v z a f = let m = f refl in rw z (omega arith)
        falls b false n u v z a f = rw z (omega arith)

-- ---- what is kept

-- it is the end of what was in hand
pub kept-rest : (s t : List ℕ) (used have k : ℕ) → (k ≡ length (part s used (have - used))) × (t ≡ paste s 0 (part s used (have - used)))
    → take k t ≡ drop used (take have s)
kept-rest s t used have k e =
    let p = part s used (have - used) in
    let n : 0 + length p ≤ length s = omega (arith, length-take (have - used) (drop used s), length-drop used s) in
    rw (e.0, e.1) (ap (λ (i : ℕ). take i (paste s 0 p)) (sym (zero-add (length p))) ∙ take_pasted s 0 p n ∙ between_is s used have)

-- and lies in its area
pub kept-within : (s t : List ℕ) (from n k : ℕ) → (k ≡ length (part s from n)) × (t ≡ paste s 0 (part s from n)) → k ≤ length s
kept-within s t from n k e = rw e.0 (omega (arith, length-take n (drop from s), length-drop from s))
