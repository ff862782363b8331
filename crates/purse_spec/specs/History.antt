-- Lists of calls: demand 3, "every list of installations, start-ups and commands, refused and cut ones included, that starts with a
-- finished installation on any memory and has no cut installation. Each later call gets the memory the last call left and the session
-- the last finished call handed back. Start-ups alone follow each cut until one finishes." Assumes nothing.
use Rattle.std.specs.Prelude.{◌≡◌, Bool, true, false, List, [], ◌∷◌, ℕ, eqb}
use Rattle.octets.specs.Choice.{pick}
use Rattle.octets.specs.Bytes.{AreBytes}
use Rattle.session.specs.declared.Session.{Session}
use Rattle.session.specs.Transitions.{unselected}
use Rattle.purse_spec.specs.Calls.{Run}
use Rattle.purse_spec.specs.Installation.{installation}
use Rattle.purse_spec.specs.Startup.{startup}
use Rattle.purse_spec.specs.Commands.{command}

-- a call with all that it is given but memory and session: installation data; a command, its random bytes and response area; a limit
pub data Call : Type 0 where
  install : List ℕ → ℕ → Call
  start : ℕ → Call
  send : List ℕ → List ℕ → List ℕ → ℕ → Call

-- memory, the session of the last finished call, and whether a cut awaits a finished start-up
pub record Situation : Type 0 where
  pub memory : List ℕ
  pub session : Session
  pub cut : Bool

-- a call's limit
unfoldable pub limit_of : Call → ℕ
limit_of (install d limit) = limit
limit_of (start limit) = limit
limit_of (send bytes random area limit) = limit

-- the same call with another limit
unfoldable pub limited : ℕ → Call → Call
limited L (install d limit) = install d L
limited L (start limit) = start L
limited L (send bytes random area limit) = send bytes random area L

-- the session that a call is given; installation and start-up take none, nor a response area
unfoldable pub session_for : Call → Situation → Session
session_for (install d limit) st = unselected
session_for (start limit) st = unselected
session_for (send bytes random area limit) st = st.session

-- the response area
unfoldable pub area_for : Call → List ℕ
area_for (install d limit) = []
area_for (start limit) = []
area_for (send bytes random area limit) = area

-- what a call is given are bytes, as its slices have it by their types; the response area may hold anything
unfoldable pub OfBytes : Call → Type 0
OfBytes (install d limit) = AreBytes d
OfBytes (start limit) = Unit {0}
OfBytes (send bytes random area limit) = AreBytes bytes × AreBytes random

-- the same of every call of a list
unfoldable pub AllOfBytes : List Call → Type 0
AllOfBytes [] = Unit {0}
AllOfBytes (c ∷ cs) = OfBytes c × AllOfBytes cs

-- what a call gives
unfoldable pub run : Call → Situation → Run
run (install d limit) st = installation st.memory d limit
run (start limit) st = startup st.memory limit
run (send bytes random area limit) st = command st.memory st.session bytes random area limit

-- a start-up
unfoldable pub is_start : Call → Bool
is_start (install d limit) = false
is_start (start limit) = true
is_start (send bytes random area limit) = false

-- an installation
unfoldable pub is_install : Call → Bool
is_install (install d limit) = true
is_install (start limit) = false
is_install (send bytes random area limit) = false

-- after a call: the session is the one handed back where it finished
unfoldable pub next : Call → Situation → Situation
next c st =
    let r = run c st in
    record {
      memory = r.memory;
      session = pick (eqb r.answer 0) r.session st.session;
      cut = pick (eqb r.answer 7) true (pick (eqb r.answer 0) false st.cut);
    }

-- after a list of calls
unfoldable pub after_calls : List Call → Situation → Situation
after_calls [] st = st
after_calls (c ∷ cs) st = after_calls cs (next c st)

-- start-ups alone
unfoldable pub OnlyStarts : List Call → Type 0
OnlyStarts [] = Unit {0}
OnlyStarts (c ∷ cs) = (is_start c ≡ true) × OnlyStarts cs

-- "Start-ups alone follow each cut until one finishes", "no cut installation"
unfoldable pub Admissible : List Call → Situation → Type 0
Admissible [] st = Unit {0}
Admissible (c ∷ cs) st =
    (st.cut ≡ true → is_start c ≡ true) × (is_install c ≡ true → (run c st).answer ≡ 7 → ⊥) × Admissible cs (next c st)

-- a list of demand 3: it "starts with a finished installation on any memory"
unfoldable pub IsHistory : List Call → Situation → Type 0
IsHistory [] st = ⊥
IsHistory (c ∷ cs) st = (is_install c ≡ true) × ((run c st).answer ≡ 0) × Admissible cs (next c st)
