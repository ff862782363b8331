-- Every answer ends in its status word, which is one of document 01's list. Assumes nothing.
use mathlib.Core.Bool.{true, false}
use mathlib.Core.List.{List, [], ◌++◌}
use mathlib.Core.Path.{◌≡◌, refl}
use Prim.Native.Nat.{ℕ, ◌+◌, ◌-◌, ◌≤◌}
use native.Mathlib.Omega.{arith}
use lib.Dec.{eqb}
use lib.ListN.{length, drop, length-append}
use lib.Seq.{drop_at}
use Rattle.octets.specs.Words.{word}
use Rattle.octets.specs.Buffers.{content, holding}
use Rattle.octets.proofs.Rules.{or_right}
use Rattle.octets.proofs.Holding.{content-holding}
use Rattle.card.specs.Card.{Card}
use Rattle.session.specs.declared.Session.{Session}
use Rattle.session.specs.Transitions.{chained}
use Rattle.commands_spec.specs.declared.outcome.Outcome.{Outcome}
use Rattle.commands_spec.specs.Outcomes.{refused, done, decided}
use Rattle.commands_spec.specs.Words.{is_one, status_words}
use Rattle.commands_spec.specs.VerifyPin.{judged}
use Rattle.commands_spec.specs.CompleteTransaction.{complete_transaction_of}
use Rattle.commands_spec.specs.Respond.{respond}
use Rattle.commands_spec.proofs.Ways.{Way, refuses, mismatch, judges, answers, books, way, completed_answer}

-- the status word is listed, and is the last two bytes of the reply
pub record Worded (o : Outcome) : Type 0 where
  pub listed : is_one o.status status_words ≡ true
  pub long : 2 ≤ length (content o.reply)
  pub last : drop (length (content o.reply) - 2) (content o.reply) ≡ word o.status

-- data and a word
worded : (o : Outcome) (answer : List ℕ) → is_one o.status status_words ≡ true → o.reply ≡ holding (answer ++ word o.status) → Worded o
worded o answer l e =
    let w = word o.status in
    let n : length (answer ++ w) ≡ length answer + 2 = length-append answer w in
    let k : length (answer ++ w) - 2 ≡ length answer = omega arith in
    record {
      listed = l;
      long = rw (e, content-holding (answer ++ w)) (omega arith);
      last = rw (e, content-holding (answer ++ w), k) (drop_at answer w (length answer) refl);
    }

way_worded : (c : Card) (s : Session) (command : List ℕ) (o : Outcome) → Way c s command o → Worded o
unfolding refused done judged complete_transaction_of decided is_one status_words
way_worded c s command o (refuses w t j e) = rw e (worded _ [] (or_right (eqb w 0x9000) _ (or_right (eqb w 0x6300) _ j)) refl)
way_worded c s command o (mismatch t i e) = rw e (worded _ [] refl refl)
way_worded c s command o (judges true i k e) = rw e (worded _ [] refl refl)
way_worded c s command o (judges false i k e) = rw e (worded _ [] refl refl)
way_worded c s command o (answers commits next t answer n k e) = rw e (worded _ answer refl refl)
way_worded c s command o (books mac i j e) = rw (e, j) (worded _ (completed_answer c.head (chained mac s)) refl refl)

-- every outcome is so
pub status_listed : (c : Card) (s : Session) (command random : List ℕ) → Worded (respond c s command random)
status_listed c s command random = way_worded c s command (respond c s command random) (way c s command random)
