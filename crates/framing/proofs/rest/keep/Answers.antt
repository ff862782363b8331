-- `keep`: nothing where the bytes end before they begin, else a copy of as many as there are. Assumes nothing.
use mathlib.Core.Path.{refl}
use Rattle.framing.proofs.Keeping.{kept-none, kept-all}
use Rattle.framing.proofs.rest.keep.Goals as goal

pub returns-then-end-from : goal.returns-then-end-from
returns-then-end-from c = kept-none _ _ _ _ c.min-end.ensures c.if-end-from.true

pub returns : goal.returns
returns c = kept-all _ _ _ _ c.min-end.ensures _ _ refl c.if-end-from.false c.copy_within.ensures.after
