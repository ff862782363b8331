-- `finish`: the last line lies in the output area. Assumes nothing.
use mathlib.Core.Path.{◌≡◌}
use native.Mathlib.Omega.{arith}
use borrow.Author.Rules.{rules}
use lib.ListN.{length}
use Rattle.bench.proofs.Hands.{last_within}
use Rattle.bench.proofs.stream.Stream.finish.Goals as goal

pub shared_ref_as_front-write : goal.shared_ref_as_front-write
shared_ref_as_front-write g c =
    let n : length c.args.self.now.output ≡ 65536 = search rules in
    let k = last_within _ c.args.self.now.output _ _ (omega arith) c.last_line-n.ensures in
    omega arith
