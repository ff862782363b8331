-- `commit_all`: by the kind of commits, each one change or two.
use mathlib.Core.Path.{refl}
use Rattle.std.proofs.Common.{rules}
use Rattle.commands_spec.specs.Outcomes.{commits_of, changes_of}
use Rattle.purse.proofs.Outcomes.{made_none, made_one, made_two}
use Rattle.purse.proofs.performing.commit_all.Goals as goal

pub returns-in-Unchanged : goal.returns-in-Unchanged
unfolding commits_of changes_of
returns-in-Unchanged c = made_none _ _ _ _ _ (search rules) (search rules) (search rules)

pub returns-in-Hot : goal.returns-in-Hot
unfolding commits_of changes_of
returns-in-Hot c = made_one _ _ _ _ _ _ c.commit.ensures.0 c.commit.ensures.1 (search rules)

pub returns-in-HotAndRecord : goal.returns-in-HotAndRecord
unfolding commits_of changes_of
returns-in-HotAndRecord c = made_one _ _ _ _ _ _ c.commit-in-HotAndRecord.ensures.0 c.commit-in-HotAndRecord.ensures.1 (search rules)

pub returns-in-HotAndCold : goal.returns-in-HotAndCold
unfolding commits_of changes_of
returns-in-HotAndCold c = made_one _ _ _ _ _ _ c.commit-in-HotAndCold.ensures.0 c.commit-in-HotAndCold.ensures.1 (search rules)

pub returns-in-HotTwice : goal.returns-in-HotTwice
unfolding commits_of changes_of
returns-in-HotTwice c =
    made_two _ _ _ _ _ _ _ _ _ _ _ _ c.commit-n.ensures.0 c.commit-n.ensures.1 c.commit-in-HotTwice.ensures.0 c.commit-in-HotTwice.ensures.1
    c.hot-in-HotTwice-2.ensures c.saturating_sub.ensures refl (search rules)
