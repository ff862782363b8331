-- `batch`: the loop keeps framing's `Going`. Assumes nothing.
use mathlib.Core.Path.{refl, sym, ◌∙◌}
use Rattle.framing.proofs.Batching.{going_start, going-within, going-room, going_less, going_step, going_done}
use Rattle.std.proofs.lemmas.List.{take_rest}
use Rattle.bench_file.specs.Printed.{bench_at}
use Rattle.bench_file.specs.Stream.{bench}
use Rattle.bench_file.proofs.Format.{taken_is}
use Rattle.bench_file.proofs.LineSizes.{fitting}
use Rattle.bench_file.proofs.frame.Runner.batch.Goals as goal

pub loop-self-init : goal.loop-self-init
loop-self-init c = (record { engine = refl; memory = refl }, refl, rw c.requires (going_start bench fitting _ _ _ tt))

pub slice_bounds-goes_on-count : goal.slice_bounds-goes_on-count
slice_bounds-goes_on-count c = going-within bench fitting _ _ _ _ _ _ _ c.loop-self.invariant.2

pub slice_bounds-goes_on-start : goal.slice_bounds-goes_on-start
slice_bounds-goes_on-start c = going-within bench fitting _ _ _ _ _ _ _ c.loop-self.invariant.2

pub step-used-requires : goal.step-used-requires
step-used-requires c =
    let t = rw take_rest at (c.goes_on.ensures (bench_at c.loop-self.self)) in
    let r = going-room bench fitting _ _ _ _ _ _ _ c.loop-self.invariant.2 _ t c.loop-self-test.true in
    (sym (taken_is _ _) ∙ r.0, r.1)

pub loop-self-smaller : goal.loop-self-smaller
loop-self-smaller c =
    let t = rw take_rest at (c.goes_on.ensures (bench_at c.loop-self.self)) in
    going_less bench fitting _ _ _ _ _ _ _ c.loop-self.invariant.2 _ t c.loop-self-test.true _ _ _ _ c.step-used.ensures.steps

pub loop-self-preserved : goal.loop-self-preserved
loop-self-preserved c =
    let t = rw take_rest at (c.goes_on.ensures (bench_at c.loop-self.self)) in
    let i = c.loop-self.invariant in
    let e = c.step-used.ensures in (
      record { engine = e.same.engine ∙ i.0.engine; memory = e.same.memory ∙ i.0.memory },
      e.same_area ∙ i.1,
      going_step bench fitting _ _ _ _ _ _ _ i.2 _ t c.loop-self-test.true _ _ _ _ e.steps,
    )

pub returns-clause-batches : goal.returns-clause-batches
returns-clause-batches c =
    let t = rw take_rest at (c.goes_on.ensures (bench_at c.loop-self.self)) in
    going_done bench fitting _ _ _ _ _ _ _ c.loop-self.invariant.2 _ t c.loop-self-test.false
