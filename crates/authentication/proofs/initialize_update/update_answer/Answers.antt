-- `update_answer`: the buffer holds its four pieces.
use mathlib.Core.Path.{◌≡◌, refl}
use borrow.Author.Rules.{rules}
use lib.ListN.{length}
use Rattle.octets.proofs.Holding.{none, step}
use Rattle.commands_spec.specs.InitializeUpdate.{update_answer}
use Rattle.authentication.proofs.initialize_update.update_answer.Goals as goal

pub returns-clause-holds : goal.returns-clause-holds
unfolding update_answer
returns-clause-holds c =
    let card_size : length c.args.card ≡ 8 = search rules in
    let cryptogram_size : length c.card_cryptogram.result ≡ 8 = search rules in
    let h1 = step _ 10 c.of-answer.ensures (none _ refl) refl tt in
    let h2 = step _ 2 c.append.ensures h1 refl tt in
    let h3 = step _ 8 c.append-2.ensures h2 card_size tt in
    let h4 = step _ 8 c.append-3.ensures h3 cryptogram_size tt in
    rw (← c.card_cryptogram.ensures) h4.is
