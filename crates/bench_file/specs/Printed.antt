-- What running one frame leaves of the runner and of the output. Assumes nothing.
use Rattle.std.specs.Prelude.{ℕ, List, ◌≡◌, eqb, take}
use Rattle.octets.specs.Choice.{pick}
use Rattle.framing.specs.declared.output.Output.{Output}
use Rattle.framing.specs.Step.{PutsBehind}
use Rattle.purse.specs.Called.{number_of}
use Rattle.purse.specs.declared.calls.Answer.{Answer}
use Rattle.purse.specs.declared.calls.Called.{Called}
use Rattle.purse_spec.specs.History.{Call}
use Rattle.bench_file.specs.declared.frame.Runner.{Runner}
use Rattle.bench_file.specs.Lines.{Bench, bench_of, ran, moved, line, answer_line, response_line}

-- the line of what a command said, with its response area
unfoldable pub command_line : Called Answer → List ℕ → List ℕ
command_line r area =
    pick (eqb (number_of r.answer) 0) (response_line (take r.length area)) (answer_line 0x43 (number_of r.answer))

-- what the bench keeps, as the runner has it
abbrev pub bench_at : Runner → Bench
bench_at r = bench_of r.memory.now r.session

-- the same engine, on the same memory
pub record Same (r r' : Runner) : Type 0 where
  pub engine : r'.engine ≡ r.engine
  pub memory : r'.memory.ghost_name ≡ r.memory.ghost_name

-- a call is run on memory and session: its line is put, and both are moved
pub record Runs (c : Call) (r : Runner) (o : Output) (r' : Runner) (o' : Output) : Type 0 where
  pub puts : PutsBehind (line c (ran c (bench_at r))) o o'
  pub state : bench_at r' ≡ moved c (bench_at r)
