-- What stands at each place of a list, in the form in which the engine computes it. Assumes nothing.
use Prim.Native.Nat.{ℕ, zero, suc, ◌+◌, ◌*◌, ◌<◌}
use mathlib.Core.Path.{◌≡◌, refl, ap, ◌∙◌}
use mathlib.Core.List.{List, [], ◌∷◌}
use native.Mathlib.Nat.{not-suc-le-zero, le_of_suc-le-suc}
use native.Mathlib.Omega.{arith}
use lib.ListN.{length, get_or, take, drop}
use lib.Seq.{drop-drop}
use Rattle.des_spec.specs.Bits.{binaries}
use Rattle.des_spec.specs.Tables.{S}
use Rattle.des_spec.specs.Des.{select, selects}
use Rattle.des_spec.proofs.Lengths.{length-binaries, length-selects}

-- ---- eight numbers
pub length-eight : (w : ℕ) (l : List ℕ) → length l ≡ 8 → length (binaries w l) ≡ w * 8
length-eight w l e = length-binaries w l ∙ ap (λ (n : ℕ). w * n) e

-- ---- the entries of the selection functions
pub length-S : length S ≡ 8
unfolding S
length-S = refl

pub length_entries : (l : List ℕ) → length (selects S l) ≡ 8
length_entries l = length-selects S l ∙ length-S

pub get_or-selects : (boxes : List (List (List ℕ))) (l : List ℕ) (i : ℕ) → i < length boxes → get_or (selects boxes l) i 0 ≡ select (get_or boxes i []) (take 6 (drop (6 * i) l))
unfolding selects
get_or-selects [] l i h = absurd (not-suc-le-zero h)
get_or-selects (b ∷ boxes) l zero h = refl
get_or-selects (b ∷ boxes) l (suc i) h =
    let e : 6 + 6 * i ≡ 6 * suc i = omega arith in
    get_or-selects boxes (drop 6 l) i (le_of_suc-le-suc h)
    ∙ ap (λ (t : List ℕ). select (get_or boxes i []) (take 6 t)) (drop-drop (6 * i) 6 l ∙ ap (λ (m : ℕ). drop m l) e)
