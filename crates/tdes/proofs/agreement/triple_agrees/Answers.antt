-- `triple_agrees`: both engines ensure the same equation. Assumes nothing.
use mathlib.Core.Path.{sym, ◌∙◌}
use Rattle.tdes.proofs.agreement.triple_agrees.Goals as goal

pub returns : goal.returns
returns c = (c.triple_block.ensures ∙ sym c.triple_block-2.ensures, c.triple_block.ensures)
