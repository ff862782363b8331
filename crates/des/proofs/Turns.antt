-- One turn of the key schedule, and one of the rounds. Assumes nothing.
use Prim.Native.Nat.{ℕ, suc, ◌+◌, ◌<◌}
use mathlib.Core.Path.{◌≡◌, sym, ap, ◌∙◌}
use mathlib.Core.List.{List, [], ◌∷◌}
use native.Mathlib.Numerals.{add-one}
use native.Mathlib.Omega.{arith}
use lib.ListN.{length, get_or, drop}
use lib.Seq.{drop-cons}
use Rattle.des_spec.specs.Bits.{xor}
use Rattle.des_spec.specs.Tables.{PC2}
use Rattle.des_spec.specs.Des.{permute, cipher, shift_halves, keys_from, rounds}

-- the key of round i, and the keys that are left after it
pub keys-next : (ns cd : List ℕ) (all : List (List ℕ)) (i n : ℕ) → keys_from (drop i ns) cd ≡ drop i all → i < length ns → length all ≡ length ns → n ≡ get_or ns i 0
    → (permute PC2 (shift_halves n cd) ≡ get_or all i []) × (keys_from (drop (i + 1) ns) (shift_halves n cd) ≡ drop (i + 1) all)
unfolding keys_from
keys-next ns cd all i n e h l f =
    let g : keys_from (get_or ns i 0 ∷ drop (suc i) ns) cd ≡ get_or all i [] ∷ drop (suc i) all =
    ap (λ (t : List ℕ). keys_from t cd) (sym (drop-cons ns i 0 h)) ∙ e ∙ drop-cons all i [] (omega arith) in
    let a : permute PC2 (shift_halves (get_or ns i 0) cd) ≡ get_or all i [] = cc in
    let b : keys_from (drop (suc i) ns) (shift_halves (get_or ns i 0) cd) ≡ drop (suc i) all = cc in
    (rw f a, rw (add-one, f) b)

-- the rounds that are left after i
pub rounds-next : (ks : List (List ℕ)) (i : ℕ) (l r : List ℕ) → i < length ks → rounds (drop i ks) l r ≡ rounds (drop (i + 1) ks) r (xor l (cipher r (get_or ks i [])))
unfolding rounds
rounds-next ks i l r h = rw (add-one, drop-cons ks i [])
