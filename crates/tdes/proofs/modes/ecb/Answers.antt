-- `ecb`: the walk in its mode. Assumes nothing.
use mathlib.Core.Path.{sym, ◌∙◌}
use Rattle.des_spec.specs.Walk.{ecb_mode}
use Rattle.des_spec.proofs.Walk.{ecb_text-walk}
use Rattle.tdes.specs.Turns.{mode}
use Rattle.tdes.proofs.modes.ecb.Goals as goal

pub returns : goal.returns
unfolding mode ecb_mode
returns c =
    let a = c.args in
    c.walk.ensures ∙ sym (ecb_text-walk a.decipher a.key a.text.now)
