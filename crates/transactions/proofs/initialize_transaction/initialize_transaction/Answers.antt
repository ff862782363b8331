-- `initialize_transaction`: its rules passed, and the answer and its R-MAC fit the buffer.
use borrow.Author.Rules.{rules}
use mathlib.Core.Path.{◌≡◌}
use lib.ListN.{length}
use Rattle.objects.proofs.Answers.{done_held}
use Rattle.commands_spec.specs.InitializeTransaction.{initialize_transaction_of}
use Rattle.commands_spec.specs.Outcomes.{decided}
use Rattle.transactions.proofs.Signed.{with_mac}
use Rattle.transactions.proofs.initialize_transaction.initialize_transaction.Goals as goal

pub returns : goal.returns
unfolding decided initialize_transaction_of
returns c =
    let mac_size : length c.answer_mac-mac.result ≡ 8 = search rules in
    let x = c.initialize_answer-answer.ensures in
    let y = with_mac _ c.answer_mac-mac.result c.append.ensures x.holds x.bound mac_size in
    let z = done_held c.done.ensures _ y.0 y.1 in
    rw (← c.word_at.ensures, ← c.word_at-amount.ensures, ← c.in_default.ensures, ← c.answer_mac-mac.ensures _ x.holds, ← c.noted.ensures, ← c.answered-session.ensures) z
