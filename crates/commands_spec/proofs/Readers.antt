-- SELECT, INITIALIZE UPDATE, EXTERNAL AUTHENTICATE, INITIALIZE TRANSACTION, GET DATA and READ RECORD change nothing on the card,
-- whatever they answer. Assumes nothing.
use mathlib.Core.Bool.{true, false≢true}
use mathlib.Core.List.{List, []}
use mathlib.Core.Path.{◌≡◌, sym, ap, ◌∙◌}
use Prim.Native.Nat.{ℕ}
use Rattle.card.specs.Card.{Card}
use Rattle.session.specs.declared.Session.{Session}
use Rattle.commands_spec.specs.declared.outcome.Outcome.{Outcome}
use Rattle.commands_spec.specs.Outcomes.{refused, done, changes_of, commits_of}
use Rattle.commands_spec.specs.Respond.{named, respond}
use Rattle.commands_spec.proofs.Ways.{Way, refuses, mismatch, judges, answers, books, way, is_reader}

-- whichever way such a command takes
pub none : (c : Card) (s : Session) (command : List ℕ) (o : Outcome) → Way c s command o → is_reader (named command) ≡ true → commits_of o ≡ []
unfolding refused done commits_of changes_of is_reader
none c s command o (refuses w t j e) r = rw e
none c s command o (mismatch t i e) r = rw e
none c s command o (judges right i k e) r = absurd (false≢true (sym (ap is_reader i) ∙ r))
none c s command o (answers commits next t answer n q e) r = rw (e, q.reads r)
none c s command o (books mac i j e) r = absurd (false≢true (sym (ap is_reader i) ∙ r))

-- they make no commit
pub readers_change_nothing : (c : Card) (s : Session) (command random : List ℕ) → is_reader (named command) ≡ true
    → commits_of (respond c s command random) ≡ []
readers_change_nothing c s command random = none c s command (respond c s command random) (way c s command random)
