-- `command`: what the command said and left, as its line and its memory. Assumes nothing.
use mathlib.Core.Path.{◌∙◌}
use borrow.Author.Rules.{rules}
use Rattle.std.proofs.lemmas.List.{take_rest}
use Rattle.bench_file.proofs.Answers.{command-runs}
use Rattle.bench_file.proofs.frame.Runner.command.Goals as goal

pub put_command-requires : goal.put_command-requires
put_command-requires c = (search rules, c.requires.1)

pub returns-clause-runs : goal.returns-clause-runs
returns-clause-runs c =
    command-runs _ _ _ _ _ c.session_after-self.ensures _ _ _ _ _ _ _ (c.from-limit.ensures ∙ c.word_at.ensures) (take_rest c.args.d.now 10) c.command-called.ensures
    c.put_command.ensures.puts
