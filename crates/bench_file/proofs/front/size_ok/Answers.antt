-- `size_ok`: a number that no kind has. Assumes nothing.
use mathlib.Core.Path.{sym}
use borrow.Author.Tests.{le-leb, ne_eqb}
use Rattle.bench_file.specs.declared.kind.Kind.TheVariants.{Installation, Startup, Command}
use Rattle.bench_file.specs.Kinds.{most_data, size_ok}
use Rattle.bench_file.proofs.front.size_ok.Goals as goal

pub returns-in-None : goal.returns-in-None
unfolding size_ok
returns-in-None c =
    let f = c.in-None.ensures.none in
    simp (le-leb _ most_data c.if-n-le512.true, ne_eqb _ _ (λ e. f Installation (sym e)), ne_eqb _ _ (λ e. f Startup (sym e)), ne_eqb _ _ (λ e. f Command (sym e)))
