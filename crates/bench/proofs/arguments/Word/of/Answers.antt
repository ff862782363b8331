-- `of`: the two switches, byte by byte. Assumes nothing.
use borrow.Author.Rules.{rules}
use Rattle.bench.proofs.Words.{plain_read, help_read}
use Rattle.bench.proofs.arguments.Word.of.Goals as goal

pub returns-in-45-2 : goal.returns-in-45-2
returns-in-45-2 c = search (rules, help_read)

pub returns-in-45 : goal.returns-in-45
returns-in-45 c = search (rules, plain_read)
