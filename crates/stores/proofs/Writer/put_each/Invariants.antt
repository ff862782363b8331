-- `put_each`: the first bytes are made. Assumes nothing.
use lib.ListN.{take}
use Rattle.stores.specs.Stores.{writes}
use Rattle.stores.specs.Writing.{Makes}
use Rattle.stores.proofs.Writer.put_each.Given as goal

abbrev pub invariant-loop-i : goal.invariant-loop-i
invariant-loop-i l = Makes (writes l.at (take l.i l.bytes)) l.initial.self l.self
