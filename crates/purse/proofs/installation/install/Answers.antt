-- `install`: the stores of what the data say.
use Rattle.std.proofs.Common.{rules}
use Rattle.purse.proofs.Installing.{install_run}
use Rattle.purse.proofs.installation.install.Goals as goal

pub returns : goal.returns
returns c = install_run _ _ _ _ _ _ _ c.if-memory-ne-MEMORY_SIZE.false (search rules) c.install-n.ensures.0 c.install-n.ensures.1
    (rw (← c.unselected-session.ensures) c.finish.ensures)
