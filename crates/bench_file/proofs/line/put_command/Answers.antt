-- `put_command`: a row for each kind of answer. Assumes nothing.
use Rattle.bench_file.specs.Printed.{command_line}
use Rattle.bench_file.proofs.Answers.{answer-put, not_done, response-line}
use Rattle.bench_file.proofs.line.put_command.Goals as goal

pub returns-in-Done-clause-puts : goal.returns-in-Done-clause-puts
returns-in-Done-clause-puts c =
    rw (← response-line c.args.called c.args.area.now _ c.in-Done.is c.min.ensures) c.put_response.ensures.puts

pub returns-in_default-clause-puts : goal.returns-in_default-clause-puts
unfolding command_line
returns-in_default-clause-puts c =
    rw (not_done _ c.in_default.not-Done) (answer-put _ _ _ _ _ c.answer_line.ensures c.requires.1 c.append.ensures.puts)
