-- `put_response`: so many bytes' digits are put. Assumes nothing.
use mathlib.Core.Path.{◌≡◌}
use lib.ListN.{take}
use Rattle.framing.specs.Step.{PutsBehind}
use Rattle.bench_file.specs.Lines.{hex}
use Rattle.bench_file.proofs.line.put_response.Given as goal

abbrev pub invariant-loop-byte : goal.invariant-loop-byte
invariant-loop-byte l = (l.output.area.ghost_name ≡ l.initial.output.area.ghost_name) × PutsBehind (hex (take l.byte-index l.x)) l.initial.output l.output
