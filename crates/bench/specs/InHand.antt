-- What the program has in hand behind a turn, behind all turns on a piece, and behind a piece that is read: where every line was written,
-- it is what framing's reader has there. Assumes nothing.
use Rattle.std.specs.Prelude.{ℕ, ◌+◌, ◌≤◌, Bool, false, Result, IfOk, List, ◌≡◌, length, take, drop}
use Rattle.octets.specs.Bytes.{paste}
use Rattle.framing.specs.declared.next.Next.{Next}
use Rattle.framing.specs.Stream as stream
use Rattle.framing.specs.Stream.{Reader, is_over, behind_all, drains}
use Rattle.bench_file.specs.declared.frame.Runner.{Runner}
use Rattle.bench_file.specs.Printed.{bench_at}
use Rattle.bench_file.specs.Stream.{bench}
use Rattle.bench.specs.declared.input.Input.{Input}
use Rattle.bench.specs.declared.stream.Ended.{Ended}
use Rattle.bench.specs.declared.stream.Hand.{Hand}

-- the bytes in hand, memory and session, and whether X is written
abbrev pub in_hand : List ℕ → Runner → Bool → Reader bench
in_hand rest r over = record { rest = rest; state = bench_at r; over = over }

-- behind all turns on what is in hand
abbrev pub drained : ℕ → Reader bench → Reader bench
drained room r = behind_all bench (drains bench (length r.rest) room r) r

-- one turn on the bytes behind the used ones; where its lines were written, how many are used then, and how it goes on
pub record HandTurned (r : Runner) (input : List ℕ) (used : ℕ) (out : List ℕ) (h : Result Hand Ended) (r' : Runner) (out' : List ℕ) : Type 0 where
  pub uses : IfOk h (λ h. h.used ≡ used + (stream.turn bench (length out) (bench_at r) (drop used input)).used)
  pub goes : IfOk h (λ h. h.next ≡ (stream.turn bench (length out) (bench_at r) (drop used input)).next)
  pub state : bench_at r' ≡ (stream.turn bench (length out) (bench_at r) (drop used input)).state
  pub shows : out' ≡ paste out 0 (stream.turn bench (length out) (bench_at r) (drop used input)).text

-- all turns on the bytes in hand, where every line was written
pub record Drained (r : Runner) (input out : List ℕ) (h : Hand) (r' : Runner) : Type 0 where
  pub inside : h.used ≤ length input
  pub drains : in_hand (drop h.used input) r' (is_over h.next) ≡ drained (length out) (in_hand input r false)

abbrev pub HandDrained : Runner → List ℕ → List ℕ → Result Hand Ended → Runner → Type 0
HandDrained r input out h r' = IfOk h (λ h. Drained r input out h r')

-- the bytes in hand, and what is kept of them
abbrev pub PieceRun : Runner → Input → List ℕ → Result Next Ended → Runner → Input → Type 0
PieceRun r i out n r' i' =
    IfOk n (λ next. in_hand (take i'.have i'.area) r' (is_over next) ≡ drained (length out) (in_hand (take i.have i.area) r false))
