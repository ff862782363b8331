-- `des_agrees`: both engines ensure the same equation. Assumes nothing.
use mathlib.Core.Path.{sym, ◌∙◌}
use Rattle.tdes.proofs.agreement.des_agrees.Goals as goal

pub returns : goal.returns
returns c = (c.des_block.ensures ∙ sym c.des_block-2.ensures, c.des_block.ensures)
