-- STORE DATA's data as a list of TLVs: as many turns as there are bytes are enough to read them, and what is read is each TLV in its turn.
-- Assumes nothing.
use mathlib.Core.Bool.{Bool, true, false, ◌&&◌, false≢true}
use mathlib.Core.List.{List, [], ◌∷◌, ◌++◌}
use mathlib.Core.Path.{◌≡◌, refl, sym, ap}
use Prim.Native.Nat.{ℕ, zero, suc, ◌≤◌, ◌<◌}
use native.Mathlib.Omega.{arith}
use borrow.Author.Tests.{le-leb, leb-true, eqb-true}
use lib.Dec.{leb, eqb}
use lib.ListN.{length, get_or, take, drop, set, length-append, length-drop, take-append-drop}
use lib.Seq.{length-take-le, take_at, drop_at}
use Rattle.octets.proofs.Conditions.{and_both}
use Rattle.octets.proofs.Rules.{pick_holds}
use Rattle.commands_spec.specs.declared.store.Stored.{Stored}
use Rattle.commands_spec.specs.Data.{value_ok, datum_set}
use Rattle.commands_spec.specs.StoreData.{within, rejected, acceptable, stored, stored_all}
use Rattle.commands_spec.specs.Values.{Tlv, flat}
use Rattle.commands_spec.specs.Order.{IsTlvs}

-- ---- the turns

within_none : (m : ℕ) → within m [] ≡ true
unfolding within
within_none zero = refl
within_none (suc m) = refl

-- whether every TLV ends within the data doesn't depend on the number of turns, from the number of bytes on
pub within_enough : (n m : ℕ) (l : List ℕ) → length l ≤ n → length l ≤ m → within n l ≡ within m l
unfolding within
within_enough zero m [] h k = sym (within_none m)
within_enough zero m (tag ∷ l) h k = absurd (omega arith)
within_enough (suc n) m [] h k = sym (within_none m)
within_enough (suc n) zero (tag ∷ l) h k = absurd (omega arith)
within_enough (suc n) (suc m) (tag ∷ []) h k = refl
within_enough (suc n) (suc m) (tag ∷ size ∷ l) h k =
    let d = length-drop size l in
    ap (λ (b : Bool). leb size (length l) && b) (within_enough n m (drop size l) (omega arith) (omega arith))

stored-none : (m : ℕ) (dek : List ℕ) (st : Stored) → stored_all m dek [] st ≡ st
unfolding stored_all
stored-none zero dek st = refl
stored-none (suc m) dek st = refl

-- nor does what they say
pub stored_enough : (n m : ℕ) (dek l : List ℕ) (st : Stored) → length l ≤ n → length l ≤ m → stored_all n dek l st ≡ stored_all m dek l st
unfolding stored_all
stored_enough zero m dek [] st h k = sym (stored-none m dek st)
stored_enough zero m dek (tag ∷ l) st h k = absurd (omega arith)
stored_enough (suc n) m dek [] st h k = sym (stored-none m dek st)
stored_enough (suc n) zero dek (tag ∷ l) st h k = absurd (omega arith)
stored_enough (suc n) (suc m) dek (tag ∷ []) st h k = refl
stored_enough (suc n) (suc m) dek (tag ∷ size ∷ l) st h k =
    let d = length-drop size l in
    stored_enough n m dek (drop size l) (stored dek st tag (take size l)) (omega arith) (omega arith)

-- ---- lists of TLVs

-- each in its turn
unfoldable pub stored_list : List ℕ → List Tlv → Stored → Stored
stored_list dek [] st = st
stored_list dek (x ∷ xs) st = stored_list dek xs (stored dek st x.tag x.sent)

-- every TLV of a list ends within its bytes
pub flat-within : (n : ℕ) (xs : List Tlv) → length (flat xs) ≤ n → within n (flat xs) ≡ true
unfolding flat within
flat-within n [] h = within_none n
flat-within zero (x ∷ xs) h = absurd (omega arith)
flat-within (suc n) (x ∷ xs) h =
    let k = length-append x.sent (flat xs) in
    rw (le-leb (length x.sent) (length (x.sent ++ flat xs)) (omega arith), drop_at x.sent (flat xs) (length x.sent) refl, flat-within n xs (omega arith))

-- and its bytes say what its TLVs say
pub flat-stored : (n : ℕ) (dek : List ℕ) (xs : List Tlv) (st : Stored) → length (flat xs) ≤ n → stored_all n dek (flat xs) st ≡ stored_list dek xs st
unfolding flat stored_all stored_list
flat-stored n dek [] st h = stored-none n dek st
flat-stored zero dek (x ∷ xs) st h = absurd (omega arith)
flat-stored (suc n) dek (x ∷ xs) st h =
    let k = length-append x.sent (flat xs) in
    rw (take_at x.sent (flat xs) (length x.sent) refl, drop_at x.sent (flat xs) (length x.sent) refl)
    (flat-stored n dek xs (stored dek st x.tag x.sent) (omega arith))

-- and data of which every TLV ends within are those of a list
pub within-tlvs : (n : ℕ) (l : List ℕ) → length l ≤ n → within n l ≡ true → IsTlvs l
unfolding within flat
within-tlvs zero [] h e = record { tlvs = []; bytes = refl }
within-tlvs zero (tag ∷ l) h e = absurd (omega arith)
within-tlvs (suc n) [] h e = record { tlvs = []; bytes = refl }
within-tlvs (suc n) (tag ∷ []) h e = absurd (false≢true e)
within-tlvs (suc n) (tag ∷ size ∷ l) h e =
    let b = and_both (leb size (length l)) (within n (drop size l)) e in
    let d = length-drop size l in
    let r = within-tlvs n (drop size l) (omega arith) b.1 in
    let k : length (take size l) ≡ size = length-take-le size l (leb-true size (length l) b.0) in
    record { tlvs = record { tag = tag; sent = take size l } ∷ r.tlvs; bytes = rw (k, r.bytes, take-append-drop size l) }

-- ---- one TLV more

module _ (dek : List ℕ) where
  -- what was refused once stays refused
  pub stays_rejected : (st : Stored) (x : Tlv) → st.good ≡ false → (stored dek st x.tag x.sent).good ≡ false
  unfolding stored rejected
  stays_rejected st x e = pick_holds (λ (y : Stored). y.good ≡ false) (acceptable st.seen x.tag x.sent) _ _ (λ t. e) (λ t. refl)

  -- a TLV that isn't acceptable spoils
  pub refused_spoils : (st : Stored) (x : Tlv) → acceptable st.seen x.tag x.sent ≡ false → (stored dek st x.tag x.sent).good ≡ false
  unfolding stored rejected
  refused_spoils st x e = rw e

  module _ (st : Stored) (eight : length st.seen ≡ 8) where
    -- whether a TLV is acceptable as things stand
    abbrev pub fits : Tlv → Bool
    fits a = acceptable st.seen a.tag a.sent

    -- and what is read with an acceptable one
    abbrev pub taken : Tlv → Stored
    taken a = record { good = st.good; seen = set st.seen a.tag 1; head = datum_set dek a.tag a.sent st.head }

    pub taken_is : (a : Tlv) → fits a ≡ true → stored dek st a.tag a.sent ≡ taken a
    unfolding stored
    taken_is a e = rw e

    -- what its tests say: the tag is one of 01 to 07, hasn't come yet, and the value is one of its length and range
    fits_parts : (a : Tlv) → fits a ≡ true → (a.tag < 8) × (get_or st.seen a.tag 0 ≡ 0) × (value_ok a.tag a.sent ≡ true)
    unfolding acceptable
    fits_parts a e =
        let p = and_both ((leb 0x01 a.tag && leb a.tag 0x07) && eqb (get_or st.seen a.tag 0) 0) (value_ok a.tag a.sent) e in
        let q = and_both (leb 0x01 a.tag && leb a.tag 0x07) (eqb (get_or st.seen a.tag 0) 0) p.0 in
        (omega (arith, leb-true a.tag 0x07 (and_both (leb 0x01 a.tag) (leb a.tag 0x07) q.0).1), eqb-true (get_or st.seen a.tag 0) 0 q.1, p.1)

    pub fits_below : (a : Tlv) → fits a ≡ true → a.tag < 8
    fits_below a e = (fits_parts a e).0

    pub fits_tells : (a : Tlv) → fits a ≡ true → (get_or st.seen a.tag 0 ≡ 0) × (value_ok a.tag a.sent ≡ true)
    fits_tells a e = let p = fits_parts a e in (p.1, p.2)
