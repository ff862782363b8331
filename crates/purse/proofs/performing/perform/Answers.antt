-- `perform`: the commits, then the response.
use Rattle.std.proofs.Common.{rules}
use Rattle.purse.proofs.Outcomes.{outcome_gives}
use Rattle.purse.proofs.performing.perform.Goals as goal

pub returns : goal.returns
returns c = outcome_gives _ _ _ _ _ _ _ _ _ c.commit_all-n.ensures c.finish.ensures (search rules) c.answer.ensures
