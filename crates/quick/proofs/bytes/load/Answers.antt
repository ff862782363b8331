-- `load`: the bits of the word are those of its bytes. Assumes nothing.
use borrow.Author.Rules.{rules}
use Rattle.quick.proofs.Loading.{loaded}
use Rattle.quick.proofs.bytes.load.Goals as goal

pub returns : goal.returns
returns c = loaded c.args.bytes c.from_be_bytes.result (search rules) (search rules) c.from_be_bytes.ensures
