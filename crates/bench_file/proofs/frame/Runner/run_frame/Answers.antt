-- `run_frame`: the data that are lent make the frame's call, by its kind. Assumes nothing.
use Rattle.framing.proofs.Lent.{end_above, end_within}
use Rattle.bench_file.specs.Kinds.{size_ok}
use Rattle.bench_file.proofs.Lent.{limit_there, some_kind, random_there, call_01, call_02, call_03}
use Rattle.bench_file.proofs.frame.Runner.run_frame.Goals as goal

pub slice_bounds-d-count : goal.slice_bounds-d-count
slice_bounds-d-count c = end_above size_ok _ _ c.requires.0 c.frame_size.ensures

pub slice_bounds-d-start : goal.slice_bounds-d-start
slice_bounds-d-start c = end_above size_ok _ _ c.requires.0 c.frame_size.ensures

pub slice_bounds-d-end : goal.slice_bounds-d-end
slice_bounds-d-end c = end_within size_ok _ _ c.requires.0 c.frame_size.ensures

pub install-requires : goal.install-requires
install-requires c = (limit_there _ _ c.requires.0 c.frame_size.ensures, c.requires.1)

pub command-requires : goal.command-requires
command-requires c =
    (random_there _ _ c.requires.0 c.frame_size.ensures _ c.byte_at.ensures (rw c.in-Some-Command.field-0-is at c.in-Some-Command.ensures.some), c.requires.1)

pub unreachable-requires : goal.unreachable-requires
unreachable-requires c = some_kind _ _ c.requires.0 c.frame_size.ensures _ c.byte_at.ensures c.in-None.ensures.none

pub returns-in-Some-Installation-clause-runs : goal.returns-in-Some-Installation-clause-runs
returns-in-Some-Installation-clause-runs c =
    rw (call_01 _ _ c.requires.0 c.frame_size.ensures _ c.byte_at.ensures (rw c.in-Some-Installation.field-0-is at c.in-Some-Installation.ensures.some)) c.install.ensures.runs

pub returns-in-Some-Startup-clause-runs : goal.returns-in-Some-Startup-clause-runs
returns-in-Some-Startup-clause-runs c =
    rw (call_02 _ _ c.requires.0 c.frame_size.ensures _ c.byte_at.ensures (rw c.in-Some-Startup.field-0-is at c.in-Some-Startup.ensures.some)) c.start.ensures.runs

pub returns-in-Some-Command-clause-runs : goal.returns-in-Some-Command-clause-runs
returns-in-Some-Command-clause-runs c =
    rw (call_03 _ _ c.requires.0 c.frame_size.ensures _ c.byte_at.ensures (rw c.in-Some-Command.field-0-is at c.in-Some-Command.ensures.some)) c.command.ensures.runs
