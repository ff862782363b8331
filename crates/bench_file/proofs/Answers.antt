-- Every answer is one of document 01's list; and the line of a call is made of what the call said. Assumes nothing.
use Prim.Native.Nat.{ℕ, ◌+◌, ◌≤◌, min}
use mathlib.Core.Bool.{false}
use mathlib.Core.List.{List, []}
use mathlib.Core.Path.{◌≡◌, refl}
use native.Mathlib.Omega.{arith}
use lib.Dec.{eqb}
use lib.ListN.{length, take}
use Rattle.framing.specs.declared.output.Output.{Output}
use Rattle.framing.specs.Step.{PutsBehind}
use Rattle.std.proofs.lemmas.List.{take_min}
use Rattle.session.specs.declared.Session.{Session}
use Rattle.purse.specs.declared.calls.Answer.{Answer}
use Rattle.purse.specs.declared.calls.Answer.TheVariants.{Done, MemoryLength, NoCard, AreaLength, RandomLength, AwaitsStartUp, InstallationData, Cut}
use Rattle.purse.specs.declared.calls.Called.{Called}
use Rattle.purse.specs.Called.{Gives, number_of}
use Rattle.purse_spec.specs.Installation.{installation}
use Rattle.purse_spec.specs.Startup.{startup}
use Rattle.purse_spec.specs.Commands.{command}
use Rattle.purse_spec.specs.History.{Call, install, start, send, run, area_for}
use Rattle.purse_spec.proofs.Answers.{listed, answers_keep}
use Rattle.bench_file.specs.declared.frame.Runner.{Runner}
use Rattle.bench_file.specs.Lines.{ran, moved, line, answer_line, response_line, session_after}
use Rattle.bench_file.specs.Printed.{command_line, Runs}
use Rattle.bench_file.specs.Stream.{longest_line}

-- ---- answers

-- the answers that the bench can get are 0 to 7
pub most : (x : Call) (m : List ℕ) (s : Session) → (run x (record { memory = m; session = s; cut = false })).answer ≤ 7
most x m s = listed x (record { memory = m; session = s; cut = false })

-- a command keeps the length of its response area
pub area-kept : (m : List ℕ) (s : Session) (bytes random area : List ℕ) (limit : ℕ) → length (command m s bytes random area limit).response ≡ length area
unfolding run area_for
area-kept m s bytes random area limit = (answers_keep (send bytes random area limit) (record { memory = m; session = s; cut = false })).response

-- ---- lines

-- the line of an answer has room
pub answer-put : (letter n : ℕ) (line : List ℕ) (o o' : Output) → line ≡ answer_line letter n → o.written + longest_line ≤ length o.area.now
    → (o.written + length line ≤ length o.area.now → PutsBehind line o o') → PutsBehind (answer_line letter n) o o'
unfolding answer_line
answer-put letter n line o o' e h f = let g = rw e at f in g (omega arith)

-- answer 0 alone is the one that is done
pub not_done : (a : Answer) → (a ≡ Done → ⊥) → eqb (number_of a) 0 ≡ false
not_done Done h = absurd (h refl)
not_done MemoryLength h = refl
not_done NoCard h = refl
not_done AreaLength h = refl
not_done RandomLength h = refl
not_done AwaitsStartUp h = refl
not_done InstallationData h = refl
not_done Cut h = refl

-- the line of a response, of which the area's first bytes are lent
pub response-line : (c : Called Answer) (area : List ℕ) (n : ℕ) → c.answer ≡ Done → n ≡ min c.length (length area)
    → response_line (take n area) ≡ command_line c area
unfolding command_line
response-line c area n z e =
    let t : take n area ≡ take c.length area = rw e (take_min c.length area) in
    rw (z, t)

-- ---- runs

-- memory, the line and the session behind what a call said
module _ (r r' : Runner) (o o' : Output) (c : Called Answer) (s : r'.session ≡ session_after r.session (number_of c.answer) c.session) where
  pub install-runs : (d x : List ℕ) (limit n : ℕ) → n ≡ limit → x ≡ d → Gives (installation r.memory.now x n) c r'.memory.now []
      → PutsBehind (answer_line 0x49 (number_of c.answer)) o o' → Runs (install d limit) r o r' o'
  unfolding line ran run moved
  install-runs d x limit n h g e f =
      rw (← h, ← g) (record { puts = rw e.answer at f; state = rw (e.memory, s, e.answer, e.session) })

  pub start-runs : (limit n : ℕ) → n ≡ limit → Gives (startup r.memory.now n) c r'.memory.now []
      → PutsBehind (answer_line 0x53 (number_of c.answer)) o o' → Runs (start limit) r o r' o'
  unfolding line ran run moved
  start-runs limit n h e f =
      rw (← h) (record { puts = rw e.answer at f; state = rw (e.memory, s, e.answer, e.session) })

  pub command-runs : (bytes x random area area' : List ℕ) (limit n : ℕ) → n ≡ limit → x ≡ bytes
      → Gives (command r.memory.now r.session x random area n) c r'.memory.now area'
      → PutsBehind (command_line c area') o o' → Runs (send bytes random area limit) r o r' o'
  unfolding line ran run moved command_line
  command-runs bytes x random area area' limit n h g e f =
      rw (← h, ← g) (record { puts = rw (e.answer, e.length, e.response) at f; state = rw (e.memory, s, e.answer, e.session) })
