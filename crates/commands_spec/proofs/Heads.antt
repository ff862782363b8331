-- The head that an outcome has is the card's head afterwards, whatever its commits: they say in which steps memory goes there, and not
-- where. Assumes nothing.
use Prim.Native.Nat.{ℕ}
use mathlib.Core.Bool.{true, false}
use mathlib.Core.List.{List}
use mathlib.Core.Path.{◌≡◌}
use Rattle.card.specs.Card.{Card}
use Rattle.card.specs.Changes.{changed, head_after, after}
use Rattle.card.specs.Updates.{with_state, with_tries, with_balance, with_purse}
use Rattle.session.specs.declared.Session.{Session}
use Rattle.commands_spec.specs.declared.outcome.Outcome.{Outcome}
use Rattle.commands_spec.specs.Outcomes.{refused, done, decided, tried, changes_of, commits_of}
use Rattle.commands_spec.specs.VerifyPin.{judged}
use Rattle.commands_spec.specs.CompleteTransaction.{booked, complete_transaction_of}
use Rattle.commands_spec.specs.Respond.{respond, card_after}
use Rattle.commands_spec.proofs.Ways.{Way, refuses, mismatch, judges, answers, books, way, afterwards}

reached : (c : Card) (s : Session) (command : List ℕ) (o : Outcome) → Way c s command o → (afterwards c o).head ≡ o.head
unfolding refused done judged complete_transaction_of decided commits_of changes_of after changed head_after tried booked with_state with_tries with_balance with_purse
reached c s command o (refuses w t j e) = rw e
reached c s command o (mismatch t i e) = rw e
reached c s command o (judges true i k e) = rw e
reached c s command o (judges false i k e) = rw e
reached c s command o (answers commits next t answer n q e) = rw e q.reached
reached c s command o (books mac i j e) = rw (e, j)

-- of every command
pub head-after : (c : Card) (s : Session) (command random : List ℕ) → (card_after c s command random).head ≡ (respond c s command random).head
unfolding card_after
head-after c s command random = reached c s command (respond c s command random) (way c s command random)
