-- `boxes`: the table follows from the selection functions and P, by one computed test over all its entries. Assumes nothing.
use mathlib.Core.Path.{refl, ◌≡◌}
use mathlib.Core.Bool.{Bool}
use mathlib.Core.List.{List}
use Prim.Native.Nat.{ℕ, ◌/◌, ◌%◌}
use lib.Dec.{T}
use lib.ListN.{length}
use Rattle.des_spec.specs.Bits.{binary, number}
use Rattle.des_spec.specs.Des.{permute, select}
use Rattle.des_spec.specs.Tables.{S, P, S1, S2, S3, S4, S5, S6, S7, S8}
use Rattle.quick.specs.Words.{placed, masked, mask, Boxed}
use Rattle.des_spec.proofs.Tests.{at, every, same, same_eq}
use Rattle.quick.proofs.table.boxes.Goals as goal

abbrev right : ℕ → ℕ → Bool
right k x = same (binary 32 x) (placed (k / 64) (k % 64))

abbrev its : ℕ → ℕ → Bool
its k x = same (masked (mask (k / 64)) (binary 32 x)) (binary 32 x)

boxed : (t : List ℕ) → length t ≡ 512 → T (every right 0 t) → T (every its 0 t) → Boxed t
boxed t e h o =
    record {
      size = e;
      each = λ k l. record { bits = same_eq _ _ (at right t h k l); only = same_eq _ _ (at its t o k l) };
    }

pub returns : goal.returns
unfolding masked mask placed binary permute select number S P S1 S2 S3 S4 S5 S6 S7 S8
returns c = boxed _ refl tt tt
