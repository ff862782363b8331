-- `join` puts one half after the other. Assumes nothing.
use Rattle.std.proofs.Common.{rules, arith, refl, ◌++◌, ◌∙◌}
use mathlib.Core.Path.{ap₂}
use Rattle.des.proofs.Halves.{second_put}
use Rattle.des.proofs.rounds.join.Goals as goal

pub returns : goal.returns
returns c =
    let a = c.copy_from_slice.ensures.after in
    let b = c.copy_from_slice-2.ensures.after in
    second_put 32 c.copy_from_slice.new.self c.copy_from_slice-2.new.self _ (omega arith) (search rules) refl
    ∙ ap₂ (λ s t. s ++ t) a b
