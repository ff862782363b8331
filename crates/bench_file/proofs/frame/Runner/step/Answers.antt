-- `step`: the frame is run, and its line put behind the others. Assumes nothing.
use native.Mathlib.Omega.{arith}
use Rattle.std.proofs.lemmas.List.{take_rest}
use Rattle.framing.proofs.Batching.{used-within, size-within, stepped}
use Rattle.bench_file.specs.Kinds.{size_ok}
use Rattle.bench_file.specs.Stream.{bench}
use Rattle.bench_file.proofs.frame.Runner.step.Goals as goal

pub slice_bounds-rest-count : goal.slice_bounds-rest-count
slice_bounds-rest-count c = used-within size_ok _ _ c.requires.0

pub slice_bounds-rest-start : goal.slice_bounds-rest-start
slice_bounds-rest-start c = used-within size_ok _ _ c.requires.0

pub run_frame-requires : goal.run_frame-requires
run_frame-requires c = (rw (take_rest c.args.input.now c.args.used) c.requires.0, c.requires.1)

pub overflow_add-result : goal.overflow_add-result
overflow_add-result c =
    omega (arith, size-within size_ok c.args.input.now c.args.used c.requires.0, rw take_rest at c.frame_size.ensures)

pub returns-clause-steps : goal.returns-clause-steps
returns-clause-steps c =
    let r = c.run_frame.ensures.runs in
    stepped bench _ c.args.input.now _ c.args.used (take_rest c.args.input.now c.args.used) _ _ _ _ c.frame_size.ensures r.puts r.state
