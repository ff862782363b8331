-- `again`: the test, as the definition says it. Assumes nothing.
use mathlib.Core.Path.{◌∙◌}
use Rattle.bench.proofs.Hands.{full_test}
use Rattle.bench.proofs.stream.again.Goals as goal

pub returns : goal.returns
returns c = c.eq.ensures ∙ full_test c.args.next
