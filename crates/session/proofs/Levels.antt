-- The access levels of the code are in the order of their numbers. Assumes nothing.
use mathlib.Core.Path.{◌≡◌}
use borrow.Author.Rules.{rules}
use lib.Dec.{ltb}
use Rattle.std.specs.Ordering.{partial_lt}
use Rattle.session.specs.declared.access.Access.{Access}
use Rattle.session.specs.contracts.access.AccessPartialOrd.TheImpl.{partial_cmp-value}
use Rattle.session.specs.Access.{rank}

-- `a < b` in the code is `ltb` of the numbers
pub below : (a b : Access) → partial_lt (partial_cmp-value).it a b ≡ ltb (rank a) (rank b)
below a b = search rules
