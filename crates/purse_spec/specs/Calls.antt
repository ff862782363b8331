-- What a call gives: document 01, "What a call can say"; refused, or finished or cut. Assumes nothing.
use Rattle.std.specs.Prelude.{Bool, false, List, ℕ, ltb, length}
use Rattle.octets.specs.Choice.{pick}
use Rattle.octets.specs.Bytes.{paste}
use Rattle.stores.specs.Stores.{Store, leaves}
use Rattle.session.specs.declared.Session.{Session}
use Rattle.session.specs.Transitions.{unselected}

-- the answer, the reported stores, the session handed back, memory, and the response area with the response's length.
-- After answer 7 there is no session: the one here is the unselected one.
pub record Run : Type 0 where
  pub answer : ℕ
  pub count : ℕ
  pub session : Session
  pub memory : List ℕ
  pub length : ℕ
  pub response : List ℕ

-- "memory awaits a start-up": none does, since what a change stores is dead until its last store
unfoldable pub awaits : List ℕ → Bool
awaits m = false

-- "Answers 1 to 6 and 8 change no area and no session", and "report 0"
unfoldable pub refusal : ℕ → Session → List ℕ → List ℕ → Run
refusal n s m area = record { answer = n; count = 0; session = s; memory = m; length = 0; response = area }

-- finished or cut: the stores of a plan under a limit, and the session and reply of a finished run. "7 leaves the response area
-- untouched and gives no session"; "0: done; a command's response leads the response area, the rest untouched"
unfoldable pub performed : List Store → ℕ → List ℕ → Session → List ℕ → List ℕ → Run
performed plan limit m s reply area =
    let m' = leaves plan limit m in
    let n = length plan in
    pick (ltb limit n)
    (record { answer = 7; count = limit; session = unselected; memory = m'; length = 0; response = area })
    (record { answer = 0; count = n; session = s; memory = m'; length = length reply; response = paste area 0 reply })
