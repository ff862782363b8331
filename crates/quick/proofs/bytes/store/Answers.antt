-- `store`: a byte is eight bits of the word. Assumes nothing.
use mathlib.Core.Path.{◌∙◌}
use Rattle.quick.proofs.Loading.{stored}
use Rattle.quick.proofs.bytes.store.Goals as goal

pub returns : goal.returns
returns c = c.to_be_bytes.ensures ∙ stored c.args.x
