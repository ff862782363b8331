-- `batch`: the loop keeps framing's `Going`. Assumes nothing.
use Prim.Native.Nat.{◌-◌}
use mathlib.Core.Path.{◌≡◌}
use lib.ListN.{length}
use Rattle.framing.proofs.Batching.{Going}
use Rattle.bench_file.specs.Printed.{bench_at, Same}
use Rattle.bench_file.specs.Stream.{bench}
use Rattle.bench_file.proofs.LineSizes.{fitting}
use Rattle.bench_file.proofs.frame.Runner.batch.Given as goal

abbrev pub invariant-loop-self : goal.invariant-loop-self
invariant-loop-self l = Same l.initial.self l.self × (l.output.area.ghost_name ≡ l.initial.output.area.ghost_name) × Going bench fitting (bench_at l.initial.self) l.input l.initial.output.area.now l.output.area.now l.used l.output.written (bench_at l.self)

abbrev pub decreases-loop-self : goal.decreases-loop-self
decreases-loop-self l = length l.input - l.used
