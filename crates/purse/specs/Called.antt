-- What a call hands back by value, and with it all that it gives; memory and the response area are lent to it. Assumes nothing.
use Rattle.std.specs.Prelude.{List, ◌≡◌, ℕ, ltb}
use Rattle.octets.specs.Choice.{pick}
use Rattle.session.specs.declared.Session.{Session}
use Rattle.session.specs.Transitions.{unselected}
use Rattle.purse_spec.specs.Calls.{Run}
use Rattle.purse.specs.declared.calls.Answer.{Answer}
use Rattle.purse.specs.declared.calls.Answer.TheVariants as answers
use Rattle.purse.specs.declared.calls.Called.{Called}

-- document 01's number of an answer
abbrev pub number_of : Answer → ℕ
number_of answers.Done = 0
number_of answers.MemoryLength = 1
number_of answers.NoCard = 2
number_of answers.AreaLength = 3
number_of answers.RandomLength = 4
number_of answers.AwaitsStartUp = 5
number_of answers.InstallationData = 6
number_of answers.Cut = 7

-- a call that says r, and leaves memory and the response area so, gives the run x; where it has no response area, that is empty
pub record Gives (x : Run) (r : Called Answer) (m area : List ℕ) : Type 0 where
  pub answer : number_of r.answer ≡ x.answer
  pub count : r.count ≡ x.count
  pub length : r.length ≡ x.length
  pub session : r.session ≡ x.session
  pub memory : m ≡ x.memory
  pub response : area ≡ x.response

-- what is said of a run without stores and without a response
abbrev pub storeless : {A : Type 0} → A → Session → Called A
storeless a s = record { answer = a; count = 0; length = 0; session = s }

-- what is said of a run of n stores under a limit
unfoldable pub under_limit : ℕ → ℕ → ℕ → Session → Called Answer
under_limit n limit size s =
    pick (ltb limit n)
    (record { answer = answers.Cut; count = limit; length = 0; session = unselected })
    (record { answer = answers.Done; count = n; length = size; session = s })
