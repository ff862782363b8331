-- `modes_agree`: both engines ensure the same equation. Assumes nothing.
use mathlib.Core.Path.{sym, ap, ◌∙◌}
use Rattle.tdes.specs.Turns.{mode_text}
use Rattle.tdes.proofs.agreement.modes_agree.Goals as goal

pub returns : goal.returns
returns c =
    let plain = c.in_mode.ensures in
    let quick = c.in_mode-2.ensures in
    let a = c.args in
    (λ same. plain ∙ ap (mode_text a.way a.decipher a.key a.start) same ∙ sym quick, (plain, quick))
