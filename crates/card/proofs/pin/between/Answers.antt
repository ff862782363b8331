-- `between`: a test of all numbers.
use mathlib.Core.Bool.{◌&&◌}
use lib.Dec.{leb}
use borrow.Author.Tests.{tests}
use Rattle.std.proofs.Common.{rules}
use Rattle.std.proofs.lemmas.Iterator.{YieldsList-from_slice}
use Rattle.std.proofs.lemmas.Iterator.Search.{all_from_yields_List}
use Rattle.card.proofs.Turns.{between_all}
use Rattle.card.proofs.pin.between.Goals as goal

pub returns : goal.returns
returns c =
    rw between_all
    (all_from_yields_List (λ d. leb c.args.low d && leb d c.args.high) _ _ c.all.result c.all.ensures.ran (YieldsList-from_slice c.args.l.now cc) (λ x b q k. search (rules, tests)))
