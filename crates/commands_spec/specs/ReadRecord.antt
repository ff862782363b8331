-- READ RECORD 00 B2, P1 1 to log size, P2 04: "Answer: that record". Record 1 is the newest. Assumes nothing.
use Rattle.std.specs.Prelude.{List, ℕ, ◌-◌}
use Rattle.octets.specs.Bytes.{byte_at}
use Rattle.card.specs.declared.head.Head.{Head}
use Rattle.card.specs.declared.log.Record.{Record}
use Rattle.card.specs.Log.{record_bytes}
use Rattle.session.specs.declared.Session.{Session}
use Rattle.session.specs.Transitions.{ended}
use Rattle.commands_spec.specs.declared.outcome.Commits.TheVariants.{Unchanged}
use Rattle.commands_spec.specs.declared.outcome.Outcome.{Outcome}
use Rattle.commands_spec.specs.Outcomes.{done}

-- the place in the log of the record that a command would read
unfoldable pub asked : List ℕ → ℕ
asked command = byte_at command 2 - 1

-- the command past step 5
unfoldable pub read_record_of : Head → Session → Record → Outcome
read_record_of h s r = done Unchanged h (ended s) (record_bytes r)
