-- A refusal changes nothing on the card, except that a wrong PIN costs one try. Assumes nothing.
use mathlib.Core.Bool.{true, false}
use mathlib.Core.List.{List, [], ◌∷◌}
use mathlib.Core.Path.{◌≡◌, refl, ap}
use Prim.Native.Nat.{ℕ, ◌+◌}
use native.Mathlib.Omega.{arith}
use Rattle.std.specs.Prelude.{Ok}
use Rattle.card.specs.declared.change.Change.{Change}
use Rattle.card.specs.Card.{Card}
use Rattle.card.specs.Updates.{with_state}
use Rattle.card.specs.Changes.{hot_change, changed, head_after, after}
use Rattle.session.specs.declared.Session.{Session}
use Rattle.apdu.specs.declared.instructions.Plain.TheVariants.{VerifyPin}
use Rattle.apdu.specs.declared.instructions.Instruction.TheVariants.{IsPlain}
use Rattle.commands_spec.specs.declared.outcome.Outcome.{Outcome}
use Rattle.commands_spec.specs.Outcomes.{refused, done, decided, tried, changes_of, commits_of}
use Rattle.commands_spec.specs.Words.{is_one, refusals}
use Rattle.commands_spec.specs.VerifyPin.{judged}
use Rattle.commands_spec.specs.CompleteTransaction.{complete_transaction_of}
use Rattle.commands_spec.specs.Respond.{named, respond, card_after}
use Rattle.commands_spec.proofs.Ways.{Way, refuses, mismatch, judges, answers, books, way, afterwards, not_refused}

-- one change: one try fewer
pub record OneTryFewer (c : Card) (o : Outcome) (d : Card) : Type 0 where
  pub change : commits_of o ≡ hot_change (with_state (tried c.head.state) c.head) ∷ []
  pub is : d ≡ changed (hot_change (with_state (tried c.head.state) c.head)) c
  pub tries : d.head.state.tries + 1 ≡ c.head.state.tries

module _ (c : Card) (s : Session) (command : List ℕ) where
  none : (o : Outcome) → Way c s command o → (o.status ≡ 0x9000 → ⊥) → (named command ≡ Ok (IsPlain VerifyPin) → o.status ≡ 0x6300 → ⊥) → commits_of o ≡ []
  unfolding refused done judged complete_transaction_of decided commits_of changes_of
  none o (refuses w t j e) x y = rw e
  none o (mismatch t i e) x y = rw e
  none o (judges true i k e) x y = absurd (x (rw e))
  none o (judges false i k e) x y = absurd (y i (rw e))
  none o (answers commits next t answer n q e) x y = absurd (x (rw e))
  none o (books mac i j e) x y = absurd (x (rw (e, j)))

  costs : (o : Outcome) → Way c s command o → named command ≡ Ok (IsPlain VerifyPin) → o.status ≡ 0x6300 → OneTryFewer c o (afterwards c o)
  unfolding refused done judged complete_transaction_of decided commits_of changes_of after changed head_after with_state tried is_one refusals
  costs o (refuses w t j e) i f = absurd (not_refused c.head t w 0x6300 o j e f refl)
  costs o (mismatch t i' e) i f = absurd (let z : ◌≡◌ {A = ℕ} 0 1 = cc in omega arith)
  costs o (judges true i' k e) i f = absurd (let z : o.status ≡ 0x9000 = rw e in omega arith)
  costs o (judges false i' k e) i f = rw e (record { change = refl; is = refl; tries = omega arith })
  costs o (answers commits next t answer n q e) i f = absurd (let z : o.status ≡ 0x9000 = rw e in omega arith)
  costs o (books mac i' j e) i f = absurd (let z : o.status ≡ 0x9000 = rw (e, j) in omega arith)

module _ (c : Card) (s : Session) (command random : List ℕ) where
  abbrev O : Outcome
  O = respond c s command random

  -- a refusal makes no change, VERIFY PIN's 6300 apart
  pub refusal_changes_nothing : (O.status ≡ 0x9000 → ⊥) → (named command ≡ Ok (IsPlain VerifyPin) → O.status ≡ 0x6300 → ⊥) → commits_of O ≡ []
  refusal_changes_nothing = none c s command O (way c s command random)

  -- so that the card is as before
  pub refusal_keeps : (O.status ≡ 0x9000 → ⊥) → (named command ≡ Ok (IsPlain VerifyPin) → O.status ≡ 0x6300 → ⊥) → card_after c s command random ≡ c
  unfolding card_after after
  refusal_keeps x y = ap (λ (xs : List Change). after xs c) (refusal_changes_nothing x y)

  -- a wrong PIN costs one try, and nothing else
  pub wrong_pin_costs : named command ≡ Ok (IsPlain VerifyPin) → O.status ≡ 0x6300 → OneTryFewer c O (card_after c s command random)
  unfolding card_after
  wrong_pin_costs = costs c s command O (way c s command random)
