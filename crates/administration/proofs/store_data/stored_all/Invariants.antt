-- `stored_all`: what the whole data comes to, what is left comes to.
use Rattle.std.proofs.Common.{◌≡◌, length}
use Rattle.commands_spec.specs.StoreData.{stored_all, unread}
use Rattle.administration.proofs.store_data.stored_all.Given as goal

abbrev pub invariant-loop-rest : goal.invariant-loop-rest
invariant-loop-rest l = stored_all (length l.s) l.dek l.s (unread l.fn.head) ≡ stored_all (length l.rest) l.dek l.rest l.st

abbrev pub decreases-loop-rest : goal.decreases-loop-rest
decreases-loop-rest l = length l.rest
