-- `complete_answer`: the buffer holds its three pieces.
use mathlib.Core.Path.{◌≡◌, refl}
use borrow.Author.Rules.{rules}
use native.Mathlib.Omega.{arith}
use lib.ListN.{length}
use Rattle.std.proofs.lemmas.Grind.{common_steps}
use Rattle.octets.specs.Words.{word}
use Rattle.octets.proofs.Holding.{none, step}
use Rattle.commands_spec.specs.CompleteTransaction.{complete_answer}
use Rattle.transactions.proofs.complete_transaction.complete_answer.Goals as goal

pub returns-clause-holds : goal.returns-clause-holds
unfolding complete_answer
returns-clause-holds c =
    let identifier_size : length c.args.head.now.purse.parameters.identifier ≡ 4 = search rules in
    let status_size : length c.operational.result ≡ 10 = search rules in
    let number : c.to_be_bytes.result ≡ word c.args.head.now.state.number = grind (arith, common_steps) in
    let number_size : length c.to_be_bytes.result ≡ 2 = rw number refl in
    let h1 = step _ 4 c.of-answer.ensures (none _ refl) identifier_size tt in
    let h2 = step _ 2 c.append.ensures h1 number_size tt in
    let h3 = step _ 10 c.append-2.ensures h2 status_size tt in
    rw (← c.operational.ensures, ← number) h3.is
