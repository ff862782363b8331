-- `keep`: what is moved to the front is what lies behind the used bytes. Assumes nothing.
use Rattle.bench.proofs.Hands.{kept-rest}
use Rattle.bench.proofs.input.Input.keep.Goals as goal

pub returns : goal.returns
returns c = kept-rest _ _ c.args.used c.args.self.now.have _ c.keep-self.ensures
