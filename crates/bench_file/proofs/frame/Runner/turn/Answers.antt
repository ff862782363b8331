-- `turn`: behind a batch a line has no room, or what follows is malformed, or more bytes are awaited. Assumes nothing.
use mathlib.Core.Path.{refl, sym}
use borrow.Author.Rules.{rules}
use Rattle.std.proofs.lemmas.List.{take_rest}
use Rattle.framing.proofs.Turning.{done-used, turn_full, turn_more, turn-over, turn_left}
use Rattle.bench_file.specs.Lines.{malformed_line}
use Rattle.bench_file.specs.Stream.{bench}
use Rattle.bench_file.specs.Printed.{bench_at}
use Rattle.bench_file.proofs.Format.{refused_by}
use Rattle.bench_file.proofs.LineSizes.{fitting}
use Rattle.bench_file.proofs.frame.Runner.turn.Goals as goal

pub slice_bounds-front_of-count : goal.slice_bounds-front_of-count
slice_bounds-front_of-count c =
    let b = rw (c.new-lines.ensures.area) at c.batch-used.ensures.batches in
    done-used bench fitting _ _ _ tt _ _ _ _ b

pub slice_bounds-front_of-start : goal.slice_bounds-front_of-start
slice_bounds-front_of-start c =
    let b = rw (c.new-lines.ensures.area) at c.batch-used.ensures.batches in
    done-used bench fitting _ _ _ tt _ _ _ _ b

pub returns-then-not-has_room-clause-turns : goal.returns-then-not-has_room-clause-turns
returns-then-not-has_room-clause-turns c =
    let b = rw (c.new-lines.ensures.area) at c.batch-used.ensures.batches in
    turn_left bench fitting _ _ _ _ _ _ _ c.batch-used.new.output.area.now _ (turn_full bench fitting _ _ _ tt _ _ _ _ b (sym c.if-not-has_room.ensures)) (search rules)

pub returns-then-eq-clause-turns : goal.returns-then-eq-clause-turns
unfolding malformed_line
returns-then-eq-clause-turns c =
    let b = rw (c.new-lines.ensures.area) at c.batch-used.ensures.batches in
    let h = refused_by (bench_at c.batch-used.new.self) c.args.input.now _ c.batch-used.result (take_rest c.args.input.now c.batch-used.result) _ c.front_of.ensures _ c.eq.ensures in
    turn_left bench fitting _ _ _ _ _ _ _ c.append.new.self.area.now _
    (turn-over bench fitting _ _ _ tt _ _ _ _ b (sym c.if-not-has_room.ensures) _ h c.batch-used.new.output c.append.new.self refl refl c.append.ensures.puts c.if-eq.true) (search rules)

pub returns-clause-turns : goal.returns-clause-turns
returns-clause-turns c =
    let b = rw (c.new-lines.ensures.area) at c.batch-used.ensures.batches in
    let h = refused_by (bench_at c.batch-used.new.self) c.args.input.now _ c.batch-used.result (take_rest c.args.input.now c.batch-used.result) _ c.front_of.ensures _ c.eq.ensures in
    turn_left bench fitting _ _ _ _ _ _ _ c.batch-used.new.output.area.now _
    (turn_more bench fitting _ _ _ tt _ _ _ _ b (sym c.if-not-has_room.ensures) _ h c.if-eq.false) (search rules)
