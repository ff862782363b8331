-- `install`: what the installation said and left, as its line and its memory. Assumes nothing.
use Rattle.std.proofs.lemmas.List.{take_rest}
use mathlib.Core.Path.{◌∙◌}
use Rattle.bench_file.proofs.Answers.{answer-put, install-runs}
use Rattle.bench_file.proofs.frame.Runner.install.Goals as goal

pub returns-clause-runs : goal.returns-clause-runs
returns-clause-runs c =
    install-runs _ _ _ _ _ c.session_after-self.ensures _ _ _ _ (c.from-limit.ensures ∙ c.word_at.ensures) (take_rest c.args.d.now 2) c.install-called.ensures
    (answer-put _ _ _ _ _ c.answer_line.ensures c.requires.1 c.append.ensures.puts)
