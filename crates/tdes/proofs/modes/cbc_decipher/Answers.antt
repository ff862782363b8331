-- `cbc_decipher`: the walk in its mode. Assumes nothing.
use mathlib.Core.Path.{sym, ◌∙◌}
use Rattle.des_spec.specs.Des.{decipher}
use Rattle.des_spec.specs.Walk.{cbc_mode}
use Rattle.des_spec.proofs.Walk.{cbc_text-walk}
use Rattle.tdes.specs.Turns.{mode}
use Rattle.tdes.proofs.modes.cbc_decipher.Goals as goal

pub returns : goal.returns
unfolding mode cbc_mode
returns c =
    let a = c.args in
    c.walk.ensures ∙ sym (cbc_text-walk decipher a.key a.start a.text.now)
