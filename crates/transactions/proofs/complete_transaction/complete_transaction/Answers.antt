-- `complete_transaction`: its rules passed, and the answer and its R-MAC fit the buffer.
use borrow.Author.Rules.{rules}
use mathlib.Core.Path.{◌≡◌, refl}
use lib.ListN.{length}
use Rattle.objects.proofs.Answers.{done_held}
use Rattle.commands_spec.specs.CompleteTransaction.{complete_transaction_of}
use Rattle.commands_spec.specs.Outcomes.{decided, done}
use Rattle.transactions.proofs.Signed.{with_mac}
use Rattle.transactions.proofs.complete_transaction.complete_transaction.Goals as goal

pub returns : goal.returns
unfolding decided done complete_transaction_of
returns c =
    let mac_size : length c.answer_mac-mac.result ≡ 8 = search rules in
    let x = c.complete_answer-answer.ensures in
    let y = with_mac _ c.answer_mac-mac.result c.append.ensures x.holds x.bound mac_size in
    let z = done_held c.done.ensures _ y.0 y.1 in
    let n = c.in-Ok.ensures.head c.in-Ok.next refl in
    rw (
      ← c.in-Ok.ensures.word,
      ← n,
      ← c.is_debit-debit.ensures,
      ← c.amount-amount.ensures,
      ← c.answer_mac-mac.ensures _ x.holds,
      ← c.answered-left.ensures,
      ← c.opened_by-keyset.ensures,
      z,
      c.log_record.ensures,
    )
