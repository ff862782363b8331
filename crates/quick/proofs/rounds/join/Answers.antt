-- `join`: words with no bit in common have no carry. Assumes nothing.
use Prim.Native.Nat.{ℕ, ◌^◌, ◌<◌}
use mathlib.Core.Path.{sym, subst}
use lib.Bits.{xor_disjoint, xor_lt}
use Rattle.quick.proofs.rounds.join.Goals as goal

pub overflow_add-result : goal.overflow_add-result
overflow_add-result c =
    let a = c.args.a in
    let b = c.args.b in
    record { fits = subst (λ (n : ℕ). n < 2 ^ 32) (xor_disjoint a b c.requires) (xor_lt 32 a b c.ranges.a.fits c.ranges.b.fits) }

pub returns : goal.returns
returns c = sym (xor_disjoint c.args.a c.args.b c.requires)
