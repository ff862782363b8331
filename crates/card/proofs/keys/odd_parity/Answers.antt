-- `odd_parity`: a test of all bytes.
use Prim.Native.Nat.{◌%◌}
use lib.Count.{ones}
use lib.Dec.{eqb}
use borrow.Author.Tests.{tests}
use Rattle.std.proofs.Common.{rules}
use Rattle.std.proofs.lemmas.Iterator.{YieldsList-from_slice}
use Rattle.std.proofs.lemmas.Iterator.Search.{all_from_yields_List}
use Rattle.card.proofs.Parity.{parity_all}
use Rattle.card.proofs.keys.odd_parity.Goals as goal

pub returns : goal.returns
returns c =
    rw parity_all
    (all_from_yields_List (λ b. eqb (ones b % 2) 1) _ _ c.all.result c.all.ensures.ran (YieldsList-from_slice c.args.s.now cc) (λ x b q k. search (rules, tests)))
