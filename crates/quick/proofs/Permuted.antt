-- The permutations of a word as exchanges of bits. Assumes nothing.
use mathlib.Core.Path.{◌≡◌, refl, sym, ap, ◌∙◌}
use mathlib.Core.List.{List, zip_with}
use Prim.Native.Nat.{ℕ}
use lib.ListN.{length}
use lib.Dec.{T, ltb, lit<}
use Rattle.des_spec.specs.Bits.{binary, xor}
use Rattle.des_spec.specs.Des.{permute}
use Rattle.des_spec.specs.Tables.{IP, IP⁻¹, PC1}
use Rattle.des_spec.proofs.Lengths.{length-binary}
use Rattle.quick.specs.Words.{masked, rightward, leftward, swapped, halves_at}
use Rattle.quick.proofs.Words.{permute_xors}
use Rattle.quick.proofs.Swaps.{Linear, after, swapped_linear, told}

exchange : (s m : ℕ) → T (ltb s 64) → Linear (swapped s (binary 64 m))
exchange s m h = swapped_linear s (binary 64 m) (lit< h) (length-binary 64 m)

abbrev pub initial : List ℕ → List ℕ
initial l =
    swapped 33 (binary 64 1431655765) (swapped 24 (binary 64 4278255360) (swapped 30 (binary 64 3435973836)
    (swapped 48 (binary 64 65535) (swapped 36 (binary 64 252645135) l))))

initial_linear : Linear initial
initial_linear =
    after (exchange 33 1431655765 tt) (after (exchange 24 4278255360 tt) (after (exchange 30 3435973836 tt)
    (after (exchange 48 65535 tt) (exchange 36 252645135 tt))))

pub initial_law : (x : ℕ) → initial (binary 64 x) ≡ permute IP (binary 64 x)
unfolding masked rightward leftward swapped binary xor zip_with permute IP
initial_law x = told initial IP initial_linear.sum refl tt x

abbrev pub inverse : List ℕ → List ℕ
inverse l =
    swapped 36 (binary 64 252645135) (swapped 48 (binary 64 65535) (swapped 30 (binary 64 3435973836)
    (swapped 24 (binary 64 4278255360) (swapped 33 (binary 64 1431655765) l))))

inverse_linear : Linear inverse
inverse_linear =
    after (exchange 36 252645135 tt) (after (exchange 48 65535 tt) (after (exchange 30 3435973836 tt)
    (after (exchange 24 4278255360 tt) (exchange 33 1431655765 tt))))

pub inverse_law : (x : ℕ) → inverse (binary 64 x) ≡ permute IP⁻¹ (binary 64 x)
unfolding masked rightward leftward swapped binary xor zip_with permute IP⁻¹
inverse_law x = told inverse IP⁻¹ inverse_linear.sum refl tt x

abbrev spread : List ℕ → List ℕ
spread l = swapped 28 (binary 64 240) (swapped 24 (binary 64 1095233372415) (swapped 8 (binary 64 71776123339407360) (initial l)))

abbrev taken : List ℕ → List ℕ
taken l = permute halves_at (spread l)

spread_linear : Linear spread
spread_linear = after (exchange 28 240 tt) (after (exchange 24 1095233372415 tt) (after (exchange 8 71776123339407360 tt) initial_linear))

taken_sum : (a b : List ℕ) → length a ≡ 64 → length b ≡ 64 → taken (xor a b) ≡ xor (taken a) (taken b)
taken_sum a b e h =
    ap (permute halves_at) (spread_linear.sum a b e h)
    ∙ permute_xors halves_at (spread a) (spread b) (spread_linear.size a e ∙ sym (spread_linear.size b h))

choice1_told : (x : ℕ) → taken (binary 64 x) ≡ permute PC1 (binary 64 x)
unfolding masked rightward leftward swapped binary xor zip_with permute PC1 halves_at
choice1_told x = told taken PC1 taken_sum refl tt x

-- what the code does: the initial permutation, and three exchanges more
pub choice1_law : (x a b c z : ℕ) → binary 64 a ≡ permute IP (binary 64 x) → binary 64 b ≡ swapped 8 (binary 64 71776123339407360) (binary 64 a)
    → binary 64 c ≡ swapped 24 (binary 64 1095233372415) (binary 64 b) → binary 64 z ≡ swapped 28 (binary 64 240) (binary 64 c)
    → permute halves_at (binary 64 z) ≡ permute PC1 (binary 64 x)
choice1_law x a b c z e f g h =
    ap (permute halves_at)
    (h ∙ ap (swapped 28 (binary 64 240)) (g ∙ ap (swapped 24 (binary 64 1095233372415)) (f ∙ ap (swapped 8 (binary 64 71776123339407360)) (e ∙ sym (initial_law x)))))
    ∙ choice1_told x
