-- `entry` reads the tables as printed. Assumes nothing.
use mathlib.Core.Path.{refl}
use Rattle.des_spec.specs.Tables.{S, S1, S2, S3, S4, S5, S6, S7, S8}
use Rattle.des.proofs.selection.entry.Goals as goal

pub returns : goal.returns
unfolding S S1 S2 S3 S4 S5 S6 S7 S8
returns c = refl
