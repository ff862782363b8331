-- `round_keys` is the composition of its parts, in either order. Assumes nothing.
use Rattle.quick.proofs.Blocks.{forth, back}
use borrow.Author.Rules.{rules}
use Rattle.quick.proofs.schedule.round_keys.Goals as goal

pub returns-then-decipher : goal.returns-then-decipher
returns-then-decipher c =
    back c.args.key c.key_words-words.result c.load.result c.choice1.result
    c.load.ensures c.choice1.ensures c.key_words-words.ensures
    c.args.decipher c.reversed.result (search rules) c.reversed.ensures

pub returns-else-decipher : goal.returns-else-decipher
returns-else-decipher c =
    forth c.args.key c.key_words-words.result c.load.result c.choice1.result
    c.load.ensures c.choice1.ensures c.key_words-words.ensures
    c.args.decipher (search rules)
