-- A command on memory: "Order: 1, 3, 4, 8, 2, 5, 6, as far as a call has the argument"; then the command on the card that memory reads
-- as, and the stores of its changes. Assumes nothing.
use Rattle.std.specs.Prelude.{not, List, [], ◌∷◌, ◌++◌, ℕ, ltb, eqb, length}
use Rattle.std.proofs.Math.Option.{Option, none, some}
use Rattle.octets.specs.Choice.{pick}
use Rattle.octets.specs.Buffers.{content}
use Rattle.stores.specs.Stores.{Store, applied}
use Rattle.card.specs.Card.{Card}
use Rattle.memory.specs.Layout.{memory_size}
use Rattle.memory.specs.Reading.{read_card}
use Rattle.card.specs.declared.change.Change.{Change}
use Rattle.memory.specs.Changes.{plan}
use Rattle.session.specs.declared.Session.{Session}
use Rattle.commands_spec.specs.declared.outcome.Outcome.{Outcome}
use Rattle.commands_spec.specs.Outcomes.{commits_of}
use Rattle.commands_spec.specs.Respond.{respond}
use Rattle.purse_spec.specs.Calls.{Run, awaits, refusal, performed}

-- "response area under 32 bytes"
abbrev pub least_area : ℕ
least_area = 32

-- the stores of changes in a row
unfoldable pub plans : List Change → List ℕ → List Store
plans [] m = []
plans (x ∷ xs) m = plan x m ++ plans xs (applied (plan x m) m)

-- the stores of an outcome's commits
unfoldable pub outcome_plan : Outcome → List ℕ → List Store
outcome_plan o m = plans (commits_of o) m

-- the run of an outcome
abbrev pub outcome_run : Outcome → List ℕ → List ℕ → ℕ → Run
outcome_run o m area limit = performed (outcome_plan o m) limit m o.session (content o.reply) area

-- "memory reads as no card": 2; "memory awaits a start-up": 5
unfoldable pub on_card : Option Card → List ℕ → Session → List ℕ → List ℕ → List ℕ → ℕ → Run
on_card none m s command random area limit = refusal 2 s m area
on_card (some c) m s command random area limit =
    pick (awaits m) (refusal 5 s m area) (outcome_run (respond c s command random) m area limit)

-- answers 1, 3, 4, then the card
unfoldable pub command : List ℕ → Session → List ℕ → List ℕ → List ℕ → ℕ → Run
command m s bytes random area limit =
    pick (not (eqb (length m) memory_size)) (refusal 1 s m area)
    (pick (ltb (length area) least_area) (refusal 3 s m area)
    (pick (not (eqb (length random) 8)) (refusal 4 s m area)
    (on_card (read_card m) m s bytes random area limit)))
