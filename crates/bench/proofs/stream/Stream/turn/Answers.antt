-- `turn`: the library's turn on the bytes that are lent. Assumes nothing.
use mathlib.Core.Path.{◌≡◌}
use native.Mathlib.Omega.{arith}
use borrow.Author.Rules.{rules}
use lib.ListN.{length}
use Rattle.bench.proofs.Hands.{turn-within, used-within}
use Rattle.bench.proofs.stream.Stream.turn.Goals as goal

pub shared_ref_as_front-write : goal.shared_ref_as_front-write
shared_ref_as_front-write g c =
    let n : length c.args.self.now.output ≡ 65536 = search rules in
    let k = turn-within c.args.self.now.runner _ _ _ c.turn-turned.new.self _ c.turn-turned.ensures.turns in
    omega arith

pub overflow_add-result : goal.overflow_add-result
overflow_add-result g c =
    let k = turn-within c.args.self.now.runner _ _ _ c.turn-turned.new.self _ c.turn-turned.ensures.turns in
    omega (arith, used-within c.args.input.now c.args.used c.turn-turned.result.used c.requires k.0)
