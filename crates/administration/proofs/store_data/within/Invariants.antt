-- `within`: what holds of the whole data, holds of what is left.
use Rattle.std.proofs.Common.{◌≡◌, length}
use Rattle.commands_spec.specs.StoreData.{within}
use Rattle.administration.proofs.store_data.within.Given as goal

abbrev pub invariant-loop-rest : goal.invariant-loop-rest
invariant-loop-rest l = within (length l.s) l.s ≡ within (length l.rest) l.rest

abbrev pub decreases-loop-rest : goal.decreases-loop-rest
decreases-loop-rest l = length l.rest
