-- `well_formed`: the tests in a row over the nibbles.
use mathlib.Core.Path.{◌≡◌}
use lib.ListN.{length}
use Rattle.std.proofs.Common.{rules, arith}
use Rattle.std.proofs.lemmas.Grind.{common_steps}
use Rattle.card.proofs.Turns.{formed_by}
use Rattle.card.proofs.pin.well_formed.Goals as goal

pub returns-then-between : goal.returns-then-between
returns-then-between c =
    let e : length c.nibbles-l.result ≡ 16 = search rules in
    rw (formed_by _ _ c.nibbles-l.ensures e) (grind (arith, common_steps))

pub returns-else-between : goal.returns-else-between
returns-else-between c =
    let e : length c.nibbles-l.result ≡ 16 = search rules in
    rw (formed_by _ _ c.nibbles-l.ensures e) (grind (arith, common_steps))
