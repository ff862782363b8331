-- GET DATA 80 CA 02, P2 tag: "length, value; undefined: 06, 07 length 00, others zeros". Assumes nothing.
use Rattle.std.specs.Prelude.{◌∷◌, ℕ, length}
use Rattle.card.specs.declared.head.Head.{Head}
use Rattle.session.specs.declared.Session.{Session}
use Rattle.session.specs.Transitions.{ended}
use Rattle.commands_spec.specs.declared.outcome.Commits.TheVariants.{Unchanged}
use Rattle.commands_spec.specs.declared.outcome.Outcome.{Outcome}
use Rattle.commands_spec.specs.Outcomes.{done}
use Rattle.commands_spec.specs.Data.{datum}

-- the command past step 5
unfoldable pub get_data_of : Head → Session → ℕ → Outcome
get_data_of h s tag =
    let v = datum h s.verified tag in
    done Unchanged h (ended s) (length v ∷ v)
