-- What one frame, a batch of frames and a turn hand back, and leave of the runner and of the output area. Assumes nothing.
use Rattle.std.specs.Prelude.{ℕ, List}
use Rattle.framing.specs.declared.output.Output.{Output}
use Rattle.framing.specs.Step.{Stepped, Batches, Turns}
use Rattle.bench_file.specs.declared.frame.Runner.{Runner}
use Rattle.bench_file.specs.declared.turns.Turned.{Turned}
use Rattle.bench_file.specs.Printed.{bench_at}
use Rattle.bench_file.specs.Stream.{bench}

-- the frame behind the used bytes: its line is put behind the others
abbrev pub StepRuns : Runner → List ℕ → ℕ → Output → ℕ → Runner → Output → Type 0
StepRuns r input used o used' r' o' =
    Stepped bench (bench_at r) input used o.area.now o.written used' o'.written (bench_at r') o'.area.now

-- a batch: its text leads the output area
abbrev pub BatchRuns : Runner → List ℕ → Output → ℕ → Runner → Output → Type 0
BatchRuns r input o used r' o' = Batches bench (bench_at r) input o.area.now used o'.written (bench_at r') o'.area.now

-- a turn: the same, and how it goes on
abbrev pub TurnRuns : Runner → List ℕ → List ℕ → Turned → Runner → List ℕ → Type 0
TurnRuns r input out t r' out' = Turns bench (bench_at r) input out t.used t.written (bench_at r') t.next out'
