-- `run_in_hand`: the loop keeps that the turns to come drain what is in hand. Assumes nothing.
use mathlib.Core.Path.{◌≡◌, sym, ◌∙◌}
use native.Mathlib.Omega.{arith}
use borrow.Author.Rules.{rules}
use lib.ListN.{length}
use Rattle.bench.proofs.Hands.{room-kept, hand_start, hand_step, hand_less}
use Rattle.bench.proofs.stream.Stream.run_in_hand.Goals as goal

pub loop-self-init : goal.loop-self-init
loop-self-init g c =
    let n : length c.args.self.now.output ≡ 65536 = search rules in
    let e = rw c.in_ok-hand.was at c.turn.ensures in
    (room-kept c.args.self.now.runner _ _ _ _ c.turn.new.self.runner _ e ∙ n, hand_start c.args.self.now.runner _ _ 65536 n (omega arith) c.requires _ c.turn.new.self.runner _ e)

pub loop-self-smaller : goal.loop-self-smaller
loop-self-smaller g c =
    let i = c.loop-self.invariant in
    let t = sym c.again.ensures ∙ c.loop-self-test.true in
    let e = rw c.in_ok-hand-2.was at c.turn-in-loop-self.ensures in
    hand_less c.args.self.now.runner _ _ 65536 i.0 (omega arith) c.loop-self.self.runner _ i.1 t _ c.turn-in-loop-self.new.self.runner _ e

pub loop-self-preserved : goal.loop-self-preserved
loop-self-preserved g c =
    let i = c.loop-self.invariant in
    let t = sym c.again.ensures ∙ c.loop-self-test.true in
    let e = rw c.in_ok-hand-2.was at c.turn-in-loop-self.ensures in
    (room-kept c.loop-self.self.runner _ _ _ _ c.turn-in-loop-self.new.self.runner _ e ∙ i.0, hand_step c.args.self.now.runner _ _ 65536 i.0 (omega arith) c.loop-self.self.runner _ i.1 t _ c.turn-in-loop-self.new.self.runner _ e)
