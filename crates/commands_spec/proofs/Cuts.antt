-- Where a command can be cut between two commits: it makes at most one, except VERIFY PIN with 9000, which makes two: one try fewer,
-- then tries full. Assumes nothing.
use mathlib.Core.Bool.{true, false, false≢true}
use mathlib.Core.List.{List, [], ◌∷◌}
use mathlib.Core.Path.{◌≡◌, refl, sym, ap, ◌∙◌}
use Prim.Native.Nat.{ℕ, ◌≤◌}
use native.Mathlib.Omega.{arith}
use lib.ListN.{length}
use Rattle.std.specs.Prelude.{Ok}
use Rattle.card.specs.Card.{Card}
use Rattle.card.specs.Changes.{hot_change}
use Rattle.session.specs.declared.Session.{Session}
use Rattle.apdu.specs.declared.instructions.Plain.TheVariants.{VerifyPin}
use Rattle.apdu.specs.declared.instructions.Instruction.TheVariants.{IsPlain}
use Rattle.commands_spec.specs.declared.outcome.Outcome.{Outcome}
use Rattle.commands_spec.specs.Outcomes.{refused, done, decided, tried, changes_of, commits_of}
use Rattle.commands_spec.specs.Words.{is_one, refusals}
use Rattle.card.specs.Updates.{with_state, with_tries}
use Rattle.commands_spec.specs.VerifyPin.{judged}
use Rattle.commands_spec.specs.CompleteTransaction.{complete_transaction_of}
use Rattle.commands_spec.specs.Respond.{named, respond}
use Rattle.commands_spec.proofs.Ways.{Way, refuses, mismatch, judges, answers, books, way, own_way, not_refused}

module _ (c : Card) (s : Session) (command : List ℕ) where
  single : (o : Outcome) → Way c s command o → (named command ≡ Ok (IsPlain VerifyPin) → o.status ≡ 0x9000 → ⊥) → length (commits_of o) ≤ 1
  unfolding refused done judged complete_transaction_of decided commits_of changes_of
  single o (refuses w t j e) x = rw e (omega arith)
  single o (mismatch t i e) x = rw e (omega arith)
  single o (judges true i k e) x = absurd (x i (rw e))
  single o (judges false i k e) x = rw e (omega arith)
  single o (answers commits next t answer n q e) x = rw e q.few
  single o (books mac i j e) x = rw (e, j) (omega arith)

  double : (o : Outcome) → Way c s command o → named command ≡ Ok (IsPlain VerifyPin) → o.status ≡ 0x9000
      → commits_of o ≡ hot_change (with_state (tried c.head.state) c.head) ∷ hot_change (with_tries c.head.fixed.maxtries c.head) ∷ []
  unfolding refused done judged commits_of changes_of with_state with_tries own_way is_one refusals
  double o (refuses w t j e) i f = absurd (not_refused c.head t w 0x9000 o j e f refl)
  double o (mismatch t i' e) i f = absurd (let z : o.status ≡ 0x6300 = rw e in omega arith)
  double o (judges true i' k e) i f = rw e
  double o (judges false i' k e) i f = absurd (let z : o.status ≡ 0x6300 = rw e in omega arith)
  double o (answers commits next t answer n q e) i f = absurd (false≢true (sym n ∙ ap own_way i))
  double o (books mac i' j e) i f = absurd (let z : ◌≡◌ {A = ℕ} 0 1 = cc in omega arith)

module _ (c : Card) (s : Session) (command random : List ℕ) where
  abbrev O : Outcome
  O = respond c s command random

  -- a cut between two changes is possible in VERIFY PIN with 9000 alone
  pub one_change : (named command ≡ Ok (IsPlain VerifyPin) → O.status ≡ 0x9000 → ⊥) → length (commits_of O) ≤ 1
  one_change = single c s command O (way c s command random)

  -- and there the first costs a try
  pub two_changes : named command ≡ Ok (IsPlain VerifyPin) → O.status ≡ 0x9000
      → commits_of O ≡ hot_change (with_state (tried c.head.state) c.head) ∷ hot_change (with_tries c.head.fixed.maxtries c.head) ∷ []
  two_changes = double c s command O (way c s command random)
