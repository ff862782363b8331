-- `start`: what the start-up said and left, as its line and its memory. Assumes nothing.
use mathlib.Core.Path.{◌∙◌}
use Rattle.bench_file.proofs.Answers.{answer-put, start-runs}
use Rattle.bench_file.proofs.frame.Runner.start.Goals as goal

pub returns-clause-runs : goal.returns-clause-runs
returns-clause-runs c =
    start-runs _ _ _ _ _ c.session_after-self.ensures _ _ (c.from-limit.ensures ∙ c.word_at.ensures) c.start_up-called.ensures
    (answer-put _ _ _ _ _ c.answer_line.ensures c.requires c.append.ensures.puts)
