-- `signatures_agree`: both engines ensure the same equation. Assumes nothing.
use mathlib.Core.Path.{sym, ◌∙◌}
use Rattle.tdes.proofs.agreement.signatures_agree.Goals as goal

pub returns : goal.returns
returns c = (c.signature.ensures ∙ sym c.signature-2.ensures, c.signature.ensures)
