-- SELECT 00 A4 04 00, AID: "identifier, administrative and operational status. Any length is allowed; another AID, or none: 6A82,
-- deselected." Assumes nothing.
use Rattle.std.specs.Prelude.{Bool, true, false, List, ◌∷◌, ◌++◌, ℕ, take}
use Rattle.octets.specs.Choice.{pick}
use Rattle.octets.specs.Bytes.{same}
use Rattle.card.specs.declared.head.Head.{Head}
use Rattle.session.specs.declared.Session.{Session}
use Rattle.session.specs.Transitions.{reselected}
use Rattle.commands_spec.specs.declared.outcome.Commits.TheVariants.{Unchanged}
use Rattle.commands_spec.specs.declared.outcome.Outcome.{Outcome}
use Rattle.commands_spec.specs.Outcomes.{refused, done}
use Rattle.commands_spec.specs.Status.{administrative, operational}

-- "identifier, administrative and operational status"
unfoldable pub select_answer : Head → Bool → List ℕ
select_answer h verified = h.purse.parameters.identifier ++ administrative h verified ∷ operational h

-- the command past step 5
unfoldable pub select_of : Head → Session → List ℕ → Outcome
select_of h s aid =
    pick (same aid (take h.purse.aid.size h.purse.aid.bytes))
    (done Unchanged h (reselected true s) (select_answer h s.verified))
    (refused h (reselected false s) 0x6A82)
