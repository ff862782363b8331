-- What a command gives: a refusal is its status word alone and changes no card; an answer is its data and 9000. Assumes nothing.
use Rattle.std.specs.Prelude.{List, [], ◌∷◌, ◌++◌, ℕ, ◌-◌, eqb}
use Rattle.octets.specs.Choice.{pick}
use Rattle.octets.specs.Words.{word}
use Rattle.octets.specs.Buffers.{holding}
use Rattle.card.specs.declared.change.Change.{Change}
use Rattle.card.specs.declared.head.State.{State}
use Rattle.card.specs.declared.head.Head.{Head}
use Rattle.card.specs.declared.log.Record.{Record}
use Rattle.card.specs.Log.{void}
use Rattle.card.specs.Updates.{with_state}
use Rattle.card.specs.Changes.{hot_change, logged_change, cold_change}
use Rattle.session.specs.declared.Session.{Session}
use Rattle.commands_spec.specs.declared.outcome.Commits.{Commits}
use Rattle.commands_spec.specs.declared.outcome.Commits.TheVariants.{Unchanged, Hot, HotAndRecord, HotAndCold, HotTwice}
use Rattle.commands_spec.specs.declared.outcome.Outcome.{Outcome}

-- a refusal
unfoldable pub refused : Head → Session → ℕ → Outcome
refused h s w = record { status = w; commits = Unchanged; head = h; logged = void; reply = holding (word w); session = s }

-- 01: "A command whose line names no answer gives its status word alone"
unfoldable pub done : Commits → Head → Session → List ℕ → Outcome
done commits h s answer =
    record { status = 0x9000; commits = commits; head = h; logged = void; reply = holding (answer ++ word 0x9000); session = s }

-- one try fewer, which VERIFY PIN costs before it judges the PIN
unfoldable pub tried : State → State
tried s = record { number = s.number; tries = s.tries - 1 }

-- commits in their order, as changes: the head afterwards and the new record
unfoldable pub changes_of : Commits → Head → Record → List Change
changes_of Unchanged h r = []
changes_of Hot h r = hot_change h ∷ []
changes_of HotAndRecord h r = logged_change h r ∷ []
changes_of HotAndCold h r = cold_change h ∷ []
changes_of (HotTwice first) h r = hot_change (with_state first h) ∷ hot_change h ∷ []

-- those of an outcome
unfoldable pub commits_of : Outcome → List Change
commits_of o = changes_of o.commits o.head o.logged

-- what a command that passed its rules gives, or the refusal
unfoldable pub decided : ℕ → Head → Session → Outcome → Outcome
decided w h s o = pick (eqb w 0x9000) o (refused h s w)
