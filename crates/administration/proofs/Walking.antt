-- A walk over TLVs, one after the other: what `within` and `stored_all` say of what is left. Assumes nothing.
use Prim.Native.Nat.{ℕ, zero, suc, ◌-◌, ◌≤◌, ◌<◌, min}
use mathlib.Core.Bool.{true, ◌&&◌}
use mathlib.Core.List.{List, [], ◌∷◌}
use mathlib.Core.Path.{◌≡◌, refl, ap, ◌∙◌}
use native.Mathlib.Omega.{arith}
use borrow.Author.Tests.{le-leb}
use lib.Dec.{leb}
use lib.ListN.{length, get_or, take, drop, length-drop, drop_of_length-le}
use lib.Seq.{take_all, take-length}
use Rattle.commands_spec.specs.declared.store.Stored.{Stored}
use Rattle.commands_spec.specs.StoreData.{within, stored, stored_all, acceptable}

-- ---- what the code takes of the data: all behind a tag and a length byte, and of that all from an index on

abbrev pub tail : List ℕ → List ℕ
tail r = take (length r - 2) (drop 2 r)

abbrev pub after : ℕ → List ℕ → List ℕ
after n t = take (length t - n) (drop n t)

tail_is : (tag size : ℕ) (l : List ℕ) → tail (tag ∷ size ∷ l) ≡ l
tail_is tag size l = let e : length (tag ∷ size ∷ l) - 2 ≡ length l = omega arith in rw e (take-length l)

after_is : (n : ℕ) (t : List ℕ) → after n t ≡ drop n t
after_is n t = take_all (length t - n) (drop n t) (rw length-drop (omega arith))

-- ---- whether every TLV ends within the data

-- by any count that is enough
within-enough : (n m : ℕ) (l : List ℕ) → length l ≤ n → length l ≤ m → within n l ≡ within m l
unfolding within
within-enough zero zero l h k = refl
within-enough zero (suc m) [] h k = refl
within-enough zero (suc m) (x ∷ l) h k = absurd (omega arith)
within-enough (suc n) zero [] h k = refl
within-enough (suc n) zero (x ∷ l) h k = absurd (omega arith)
within-enough (suc n) (suc m) [] h k = refl
within-enough (suc n) (suc m) (tag ∷ []) h k = refl
within-enough (suc n) (suc m) (tag ∷ size ∷ l) h k =
    ap (λ t. leb size (length l) && t) (within-enough n m (drop size l) (rw length-drop (omega arith)) (rw length-drop (omega arith)))

within_turn : (tag size : ℕ) (l : List ℕ) → within (length (tag ∷ size ∷ l)) (tag ∷ size ∷ l) ≡ (leb size (length l) && within (length (drop size l)) (drop size l))
unfolding within
within_turn tag size l =
    let h : length (drop size l) ≤ suc (length l) = rw length-drop (omega arith) in
    ap (λ t. leb size (length l) && t) (within-enough (suc (length l)) (length (drop size l)) (drop size l) h (omega arith))

pub within_next : (r : List ℕ) (n : ℕ) → 2 ≤ length r → n ≡ get_or r 1 0 → n ≤ length (tail r) → within (length r) r ≡ within (length (after n (tail r))) (after n (tail r))
within_next [] n h e k = absurd (omega arith)
within_next (x ∷ []) n h e k = absurd (omega arith)
within_next (tag ∷ size ∷ l) n h e k =
    let t = tail_is tag size l in
    let p : n ≡ size = e in
    let j : n ≤ length l = omega (arith, ap length t) in
    rw (t, after_is n l) (within_turn tag size l ∙ rw (← p, le-leb n (length l) j))

-- ---- what they store

-- a size past the end counts as what there is
take_capped : (l : List ℕ) (n : ℕ) → take (min (length l) n) l ≡ take n l
take_capped l n = grind (arith, take_all)

drop_capped : (l : List ℕ) (n : ℕ) → drop (min (length l) n) l ≡ drop n l
drop_capped l n = grind (arith, drop_of_length-le)

-- by any count that is enough
stored-enough : (n m : ℕ) (dek l : List ℕ) (st : Stored) → length l ≤ n → length l ≤ m → stored_all n dek l st ≡ stored_all m dek l st
unfolding stored_all
stored-enough zero zero dek l st h k = refl
stored-enough zero (suc m) dek [] st h k = refl
stored-enough zero (suc m) dek (x ∷ l) st h k = absurd (omega arith)
stored-enough (suc n) zero dek [] st h k = refl
stored-enough (suc n) zero dek (x ∷ l) st h k = absurd (omega arith)
stored-enough (suc n) (suc m) dek [] st h k = refl
stored-enough (suc n) (suc m) dek (tag ∷ []) st h k = refl
stored-enough (suc n) (suc m) dek (tag ∷ size ∷ l) st h k =
    stored-enough n m dek (drop size l) (stored dek st tag (take size l)) (rw length-drop (omega arith)) (rw length-drop (omega arith))

stored_turn : (dek : List ℕ) (tag size : ℕ) (l : List ℕ) (st : Stored) (e : ℕ)
    → e ≡ min (length l) size
    → stored_all (length (tag ∷ size ∷ l)) dek (tag ∷ size ∷ l) st ≡ stored_all (length (drop e l)) dek (drop e l) (stored dek st tag (take e l))
unfolding stored_all
stored_turn dek tag size l st e p =
    let h : length (drop size l) ≤ suc (length l) = rw length-drop (omega arith) in
    rw (p, take_capped l size, drop_capped l size)
    (stored-enough (suc (length l)) (length (drop size l)) dek (drop size l) (stored dek st tag (take size l)) h (omega arith))

pub stored_next : (dek r : List ℕ) (st next : Stored) (n e : ℕ)
    → 2 ≤ length r → n ≡ get_or r 1 0 → e ≡ min (length (tail r)) n → next ≡ stored dek st (get_or r 0 0) (take e (tail r))
    → stored_all (length r) dek r st ≡ stored_all (length (after e (tail r))) dek (after e (tail r)) next
stored_next dek [] st next n e h f p q = absurd (omega arith)
stored_next dek (x ∷ []) st next n e h f p q = absurd (omega arith)
stored_next dek (tag ∷ size ∷ l) st next n e h f p q =
    let t = tail_is tag size l in
    let z : e ≡ min (length l) size = p ∙ ap (λ (v : List ℕ). min (length v) n) t ∙ ap (min (length l)) f in
    let y : next ≡ stored dek st tag (take e l) = q ∙ ap (λ (v : List ℕ). stored dek st tag (take e v)) t in
    rw (t, after_is e l, y) (stored_turn dek tag size l st e z)

-- fewer than two bytes store nothing
pub stored_end : (dek r : List ℕ) (st : Stored) → length r < 2 → stored_all (length r) dek r st ≡ st
unfolding stored_all
stored_end dek [] st h = refl
stored_end dek (x ∷ []) st h = refl
stored_end dek (x ∷ y ∷ l) st h = absurd (omega arith)

-- ---- a tag that is acceptable is below 8

pub accepted_below : (seen : List ℕ) (tag : ℕ) (v : List ℕ) → acceptable seen tag v ≡ true → tag < 8
unfolding acceptable
accepted_below seen tag v e = grind arith
