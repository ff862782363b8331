-- `initialize_answer`: the buffer holds the identifier, and then bank information where P1 is 02.
use mathlib.Core.List.{append-nil}
use mathlib.Core.Path.{◌≡◌, refl}
use borrow.Author.Rules.{rules}
use borrow.Author.Tests.{eq-eqb, ne_eqb}
use lib.ListN.{length}
use Rattle.octets.proofs.Holding.{none, step}
use Rattle.commands_spec.specs.InitializeTransaction.{initialize_answer}
use Rattle.transactions.proofs.initialize_transaction.initialize_answer.Goals as goal

pub returns-then-p1-eq2-clause-holds : goal.returns-then-p1-eq2-clause-holds
unfolding initialize_answer
returns-then-p1-eq2-clause-holds c =
    let identifier_size : length c.args.context.now.head.purse.parameters.identifier ≡ 4 = search rules in
    let bank_size : length c.bank_sent.result ≡ 16 = search rules in
    let h1 = step _ 4 c.of-answer.ensures (none _ refl) identifier_size tt in
    let h2 = step _ 16 c.append.ensures h1 bank_size tt in
    rw (eq-eqb _ _ c.if-p1-eq2.true, ← c.dek.ensures, ← c.bank_sent.ensures) h2.is

pub returns-else-p1-eq2-clause-holds : goal.returns-else-p1-eq2-clause-holds
unfolding initialize_answer
returns-else-p1-eq2-clause-holds c =
    let identifier_size : length c.args.context.now.head.purse.parameters.identifier ≡ 4 = search rules in
    let h1 = step _ 4 c.of-answer.ensures (none _ refl) identifier_size tt in
    rw (ne_eqb _ _ c.if-p1-eq2.false, append-nil) h1.is
