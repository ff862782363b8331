-- `start_up`: its answer by the size and the reading.
use Rattle.std.proofs.Common.{rules}
use Rattle.purse.proofs.Starting.{start_by}
use Rattle.purse.proofs.startup.start_up.Goals as goal

pub returns : goal.returns
returns c = start_by _ _ _ _ _ c.storeless.ensures c.unselected.ensures (search rules)
