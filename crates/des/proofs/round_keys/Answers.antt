-- `round_keys` puts the keys in the order of use. Assumes nothing.
use Rattle.std.proofs.Common.{ap, ◌∙◌}
use mathlib.Core.List.{reverse}
use Rattle.des_spec.specs.Bits.{bits_of}
use Rattle.des_spec.specs.Des.{order, schedule, round_keys}
use Rattle.des.proofs.round_keys.Goals as goal

pub returns-then-decipher : goal.returns-then-decipher
unfolding round_keys order bits_of
returns-then-decipher c =
    rw c.if-decipher.true (c.reverse.ensures.after ∙ ap reverse (c.schedule-keys.ensures ∙ ap schedule c.binaries.ensures))

pub returns-else-decipher : goal.returns-else-decipher
unfolding round_keys order bits_of
returns-else-decipher c = rw c.if-decipher.false (c.schedule-keys.ensures ∙ ap schedule c.binaries.ensures)
