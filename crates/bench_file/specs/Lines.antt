-- The lines of a bench file: document 01, "One line each: I, S or C, the answer, and after C 0 the response in upper-case hex. A wrong
-- mark or kind, a record cut short, .. prints X and ends. The program keeps a 4,096-byte card memory, all zero at first. Its session is
-- the unselected one at first and after answer 7." Assumes nothing.
use Rattle.std.specs.Prelude.{ℕ, ◌+◌, ◌/◌, ◌%◌, false, List, [], ◌∷◌, ◌++◌, ltb, eqb, take}
use Rattle.octets.specs.Choice.{pick}
use Rattle.octets.specs.Bytes.{zeros}
use Rattle.memory.specs.Layout.{memory_size}
use Rattle.session.specs.declared.Session.{Session}
use Rattle.session.specs.Transitions.{unselected}
use Rattle.purse_spec.specs.Calls.{Run}
use Rattle.purse_spec.specs.History.{Call, install, start, send, run}
use Rattle.bench_file.specs.Kinds.{File, file}

-- the digit of a number below 16: 0 to 9, A to F
unfoldable pub digit : ℕ → ℕ
digit n = pick (ltb n 10) (0x30 + n) (0x37 + n)

-- the two digits of a byte
abbrev pub hex_pair : ℕ → List ℕ
hex_pair x = digit (x / 16) ∷ digit (x % 16) ∷ []

-- bytes in upper-case hex
unfoldable pub hex : List ℕ → List ℕ
hex [] = []
hex (x ∷ s) = hex_pair x ++ hex s

-- a letter and the answer, a space between and a line feed behind
unfoldable pub answer_line : ℕ → ℕ → List ℕ
answer_line letter n = letter ∷ 0x20 ∷ (0x30 + n) ∷ 0x0A ∷ []

-- "C 0" and the response
unfoldable pub response_line : List ℕ → List ℕ
response_line x = (0x43 ∷ 0x20 ∷ 0x30 ∷ 0x20 ∷ []) ++ hex x ++ (0x0A ∷ [])

-- the line of a call: I, S or C
unfoldable pub line : Call → Run → List ℕ
line (install d limit) r = answer_line 0x49 r.answer
line (start limit) r = answer_line 0x53 r.answer
line (send bytes random area limit) r =
    pick (eqb r.answer 0) (response_line (take r.length r.response)) (answer_line 0x43 r.answer)

-- X
unfoldable pub malformed_line : List ℕ
malformed_line = 0x58 ∷ 0x0A ∷ []

-- what the bench keeps
pub record Bench : Type 0 where
  pub memory : List ℕ
  pub session : Session

-- memory and session as the code has them
abbrev pub bench_of : List ℕ → Session → Bench
bench_of m s = record { memory = m; session = s }

-- at first
unfoldable pub begun : Bench
begun = bench_of (zeros memory_size) unselected

-- what a call on them gives
unfoldable pub ran : Call → Bench → Run
ran c b = run c (record { memory = b.memory; session = b.session; cut = false })

-- the session behind a call: the one handed back on 0, the unselected one after answer 7, the same after any other answer
unfoldable pub session_after : Session → ℕ → Session → Session
session_after s answer handed = pick (eqb answer 7) unselected (pick (eqb answer 0) handed s)

-- the bench behind a call
unfoldable pub moved : Call → Bench → Bench
moved c b = record { memory = (ran c b).memory; session = session_after b.session (ran c b).answer (ran c b).session }

-- the lines of calls
unfoldable pub call_lines : List Call → Bench → List ℕ
call_lines [] b = []
call_lines (c ∷ cs) b = line c (ran c b) ++ call_lines cs (moved c b)

-- the lines of a file
unfoldable pub file_lines : File → Bench → List ℕ
file_lines f b = call_lines f.calls b ++ pick f.malformed malformed_line []

-- the lines of what is to come of a bench file
unfoldable pub bench_lines : Bench → List ℕ → List ℕ
bench_lines b s = file_lines (file s) b

-- the lines of a whole bench file
unfoldable pub lines : List ℕ → List ℕ
lines s = bench_lines begun s
