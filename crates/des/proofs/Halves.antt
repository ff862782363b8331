-- Two halves of a list: the second one written over, and both shifted, as the key schedule shifts C and D. Assumes nothing.
use Rattle.std.proofs.Common.{ℕ, ◌+◌, ◌≡◌, List, [], ◌++◌, ◌∷◌, ◌<◌, arith, get_or, add-one, append_assoc, drop-cons, refl, sym, ap, ◌∙◌, length, take, drop, length-append, length-drop}
use mathlib.Core.Path.{ap₂}
use mathlib.Core.List.{append-nil}
use lib.ListN.{length-take, take-append-drop, drop_of_length-le}
use lib.Seq.{take-suc, take_at, take_all, drop_at}
use borrow.Rule.Slice.PartMut.{put_mid, mid_of, post_of}
use Rattle.std.proofs.lemmas.Slice.{put_mid-paste}
use Rattle.des_spec.proofs.Lengths.{length-rotate}
use Rattle.des_spec.specs.Des.{rotate, shift_halves}

pub second_put : (n : ℕ) (a b z : List ℕ) → length a ≡ n → length b ≡ n → length z ≡ n → put_mid n n (a ++ z) b ≡ a ++ b
second_put n a b z e f g =
    let rest : drop (n + n) (a ++ z) ≡ [] = drop_of_length-le (a ++ z) {i = n + n} (omega (arith, length-append a z)) in
    put_mid-paste n n (a ++ z) b b n refl refl (sym f)
    ∙ ap₂ (λ (s t : List ℕ). s ++ t) (ap₂ (λ (s t : List ℕ). s ++ t) (take_at a z n e) (take_all n b (omega arith))) rest
    ∙ append-nil (a ++ b)

-- one place more
rotate_more : (l : List ℕ) (i : ℕ) → i < length l → rotate 1 (rotate i l) ≡ rotate (i + 1) l
unfolding rotate
rotate_more l i h =
    let x : ℕ = get_or l i 0 in
    let d : drop i l ≡ x ∷ drop (i + 1) l = rw (add-one) (drop-cons l i 0 h) in
    let t : take (i + 1) l ≡ take i l ++ (x ∷ []) = rw (add-one) (take-suc l i 0 h) in
    rw (d, t) (append_assoc (drop (i + 1) l) (take i l) (x ∷ []))

pub shift_none : (l : List ℕ) → shift_halves 0 l ≡ l
unfolding shift_halves rotate
shift_none l = ap₂ (λ (s t : List ℕ). s ++ t) (append-nil (take 28 l)) (append-nil (drop 28 l)) ∙ take-append-drop 28 l

pub shift_more : (n : ℕ) (l s x y : List ℕ) → length l ≡ 56 → n < 28 → s ≡ shift_halves n l
    → x ≡ drop 1 (take 28 s) ++ take 1 (take 28 s)
    → (let second = mid_of 28 28 (x ++ post_of 0 28 s) in y ≡ drop 1 second ++ take 1 second)
    → put_mid 28 28 (x ++ post_of 0 28 s) y ≡ shift_halves (n + 1) l
unfolding shift_halves rotate
shift_more n l s x y e h es ex ey =
    let c : List ℕ = rotate n (take 28 l) in
    let d : List ℕ = rotate n (drop 28 l) in
    let lt : length (take 28 l) ≡ 28 = simp length-take (omega arith) in
    let ld : length (drop 28 l) ≡ 28 = simp length-drop (omega arith) in
    let fc : length c ≡ 28 = length-rotate n (take 28 l) (omega arith) ∙ lt in
    let fd : length d ≡ 28 = length-rotate n (drop 28 l) (omega arith) ∙ ld in
    let p : take 28 s ≡ c = ap (take 28) es ∙ take_at c d 28 fc in
    let q : drop 28 s ≡ d = ap (drop 28) es ∙ drop_at c d 28 fc in
    let gx : x ≡ rotate 1 c = ex ∙ ap (rotate 1) p in
    let lx : length x ≡ 28 = ap length gx ∙ length-rotate 1 c (omega arith) ∙ fc in
    let r : x ++ post_of 0 28 s ≡ x ++ d = ap (λ (t : List ℕ). x ++ t) q in
    let m : mid_of 28 28 (x ++ d) ≡ d = ap (take 28) (drop_at x d 28 lx) ∙ take_all 28 d (omega arith) in
    let gy : y ≡ rotate 1 d = ey ∙ ap (rotate 1) (ap (mid_of 28 28) r ∙ m) in
    let ly : length y ≡ 28 = ap length gy ∙ length-rotate 1 d (omega arith) ∙ fd in
    ap (λ (t : List ℕ). put_mid 28 28 t y) r
    ∙ second_put 28 x y d lx ly fd
    ∙ ap₂ (λ (s t : List ℕ). s ++ t) (gx ∙ rotate_more (take 28 l) n (omega arith)) (gy ∙ rotate_more (drop 28 l) n (omega arith))
