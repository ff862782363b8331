-- Lists of TLVs: values of document 01's table with no tag twice leave nothing refused, each tag has come and reads as its value; and what leaves
-- nothing refused is such a list. Assumes nothing.
use mathlib.Core.Bool.{Bool, true, false, false≢true}
use mathlib.Core.List.{List, [], ◌∷◌, ◌++◌}
use mathlib.Core.Path.{◌≡◌, refl, sym, ap, ◌∙◌, subst}
use Prim.Native.Nat.{ℕ, zero, suc, ◌≤◌}
use native.Mathlib.Omega.{arith}
use borrow.Author.Tests.{leb-true, eqb-true, eqb-false}
use lib.Dec.{eqb}
use lib.ListN.{length, get_or, set, length-set}
use lib.Seq.{take_at, drop_at, get_or-set_same, get_or-set_other}
use Rattle.octets.specs.Bytes.{AreBytes, zeros}
use Rattle.octets.proofs.Ranges.{take-bytes, drop-bytes}
use Rattle.commands_spec.specs.declared.store.Stored.{Stored}
use Rattle.commands_spec.specs.Data.{datum_set, datum}
use Rattle.commands_spec.specs.StoreData.{acceptable, stored}
use Rattle.commands_spec.specs.Values.{Value, Tlv, flat, Apart, Carries, here, there, Listed, none, more}
use Rattle.commands_spec.proofs.Values.{value_taken, value-within, value_read, value_apart, value-only}
use Rattle.commands_spec.proofs.Tlvs.{stored_list, stays_rejected, refused_spoils, taken, taken_is, fits_below, fits_tells}

-- ---- the TLVs in their turn

-- what a list of TLVs leaves: nothing is refused, each tag has come, and reads as its value
pub record Taken (dek : List ℕ) (xs : List Tlv) (st next : Stored) : Type 0 where
  pub good : next.good ≡ st.good
  pub came : (tag : ℕ) (v : List ℕ) → Carries dek tag v xs → get_or next.seen tag 0 ≡ 1
  pub before : (tag : ℕ) → get_or st.seen tag 0 ≡ 1 → get_or next.seen tag 0 ≡ 1
  pub reads : (tag : ℕ) (v : List ℕ) (flag : Bool) → Carries dek tag v xs → datum next.head flag tag ≡ v
  pub apart : (tag : ℕ) (flag : Bool) → tag ≤ 0x07 → Apart tag xs → datum next.head flag tag ≡ datum st.head flag tag

-- no TLV of a list has come yet
unfoldable pub Unseen : List ℕ → List Tlv → Type 0
Unseen seen [] = Unit {0}
Unseen seen (x ∷ xs) = (get_or seen x.tag 0 ≡ 0) × Unseen seen xs

still_unseen : (seen : List ℕ) (tag : ℕ) (xs : List Tlv) → Apart tag xs → Unseen seen xs → Unseen (set seen tag 1) xs
unfolding Apart Unseen
still_unseen seen tag [] a u = tt
still_unseen seen tag (x ∷ xs) a u = (get_or-set_other seen tag x.tag 1 0 a.0 ∙ u.0, still_unseen seen tag xs a.1 u.1)

pub zero_at : (n i : ℕ) → get_or (zeros n) i 0 ≡ 0
zero_at zero i = refl
zero_at (suc n) zero = refl
zero_at (suc n) (suc i) = zero_at n i

pub none_unseen : (xs : List Tlv) → Unseen (zeros 8) xs
unfolding Unseen
none_unseen [] = tt
none_unseen (x ∷ xs) = (zero_at 8 x.tag, none_unseen xs)

-- the values of a list are bytes
unfoldable pub EachBytes : List Tlv → Type 0
EachBytes [] = Unit {0}
EachBytes (x ∷ xs) = AreBytes x.sent × EachBytes xs

module _ (dek : List ℕ) where
  nothing_carried : (tag : ℕ) (v : List ℕ) (l : List Tlv) → Carries dek tag v l → l ≡ [] → ⊥
  nothing_carried tag v l (here e w) q = let z : ◌≡◌ {A = ℕ} 0 1 = cc in omega arith
  nothing_carried tag v l (there r) q = let z : ◌≡◌ {A = ℕ} 0 1 = cc in omega arith

  -- ---- one TLV in front of a list

  module _ (x : Tlv) (xs : List Tlv) (st last : Stored) (below : x.tag ≤ 7) (eight : length st.seen ≡ 8) (alone : Apart x.tag xs) where
    abbrev next : Stored
    next = record { good = st.good; seen = set st.seen x.tag 1; head = datum_set dek x.tag x.sent st.head }

    marked : get_or next.seen x.tag 0 ≡ 1
    marked = get_or-set_same st.seen x.tag 1 0 (omega arith)

    came_next : (tag : ℕ) (v : List ℕ) → Taken dek xs next last → Carries dek tag v (x ∷ xs) → get_or last.seen tag 0 ≡ 1
    came_next tag v r (here e w) = r.before tag (rw (← e) marked)
    came_next tag v r (there d) = r.came tag v d

    before_next : (tag : ℕ) → Taken dek xs next last → get_or st.seen tag 0 ≡ 1 → get_or last.seen tag 0 ≡ 1
    before_next tag r q = r.before tag (go (eqb tag x.tag) refl)
      where
        go : (b : Bool) → eqb tag x.tag ≡ b → get_or next.seen tag 0 ≡ 1
        go true p = rw (eqb-true tag x.tag p) marked
        go false p = get_or-set_other st.seen x.tag tag 1 0 (eqb-false tag x.tag p) ∙ q

    reads_next : (tag : ℕ) (v : List ℕ) (flag : Bool) → Taken dek xs next last → Carries dek tag v (x ∷ xs) → datum last.head flag tag ≡ v
    reads_next tag v flag r (here e w) =
        r.apart tag flag (rw (← e) below) (subst (λ (z : ℕ). Apart z xs) e alone)
        ∙ ap (λ (z : ℕ). datum (datum_set dek z x.sent st.head) flag tag) e
        ∙ value_read dek st.head flag w
    reads_next tag v flag r (there d) = r.reads tag v flag d

  -- a list of values, no tag twice
  pub list_taken : (xs : List Tlv) (st : Stored) → Listed dek xs → Unseen st.seen xs → length st.seen ≡ 8 → Taken dek xs st (stored_list dek xs st)
  unfolding stored_list Unseen Apart
  list_taken [] st l u e =
      record {
        good = refl;
        came = λ tag v r. absurd (nothing_carried tag v [] r refl);
        before = λ tag q. q;
        reads = λ tag v flag r. absurd (nothing_carried tag v [] r refl);
        apart = λ tag flag k a. refl;
      }
  list_taken (x ∷ xs) st (more v w a l) u e =
      let b = value-within dek w in
      let k : x.tag ≤ 7 = leb-true x.tag 0x07 b.1 in
      let t : stored dek st x.tag x.sent ≡ next x xs st st k e a = unfold stored acceptable in rw (b.0, b.1, u.0, value_taken dek w) in
      let r : Taken dek xs (next x xs st st k e a) (stored_list dek xs (next x xs st st k e a)) =
      list_taken xs (next x xs st st k e a) l (still_unseen st.seen x.tag xs a u.1) (length-set st.seen x.tag 1 ∙ e) in
      rw t
      (record {
        good = r.good;
        came = λ tag y d. came_next x xs st _ k e a tag y r d;
        before = λ tag q. before_next x xs st _ k e a tag r q;
        reads = λ tag y flag d. reads_next x xs st _ k e a tag y flag r d;
        apart = λ tag flag j d. r.apart tag flag j d.1 ∙ value_apart dek x.tag tag x.sent st.head flag j d.0;
      })

  -- ---- and back: what leaves nothing refused is such a list

  -- the values of a list are bytes
  pub each-bytes : (xs : List Tlv) → AreBytes (flat xs) → EachBytes xs
  unfolding flat EachBytes
  each-bytes [] f = tt
  each-bytes (x ∷ xs) f =
      let g : AreBytes (x.sent ++ flat xs) = drop-bytes 2 (x.tag ∷ length x.sent ∷ x.sent ++ flat xs) f in (
        subst AreBytes (take_at x.sent (flat xs) (length x.sent) refl) (take-bytes (length x.sent) (x.sent ++ flat xs) g),
        each-bytes xs (subst AreBytes (drop_at x.sent (flat xs) (length x.sent) refl) (drop-bytes (length x.sent) (x.sent ++ flat xs) g)),
      )

  -- what was refused once stays refused
  rejected_list : (xs : List Tlv) (st : Stored) → st.good ≡ false → (stored_list dek xs st).good ≡ false
  unfolding stored_list
  rejected_list [] st e = e
  rejected_list (x ∷ xs) st e = rejected_list xs _ (stays_rejected dek st x e)

  -- a tag that has come, and one that hasn't
  unseen_apart : (seen : List ℕ) (tag : ℕ) (xs : List Tlv) → get_or seen tag 0 ≡ 1 → Unseen seen xs → Apart tag xs
  unfolding Apart Unseen
  unseen_apart seen tag [] e u = tt
  unseen_apart seen tag (x ∷ xs) e u = (λ q. let z : get_or seen x.tag 0 ≡ 1 = rw q e in omega (arith, u.0), unseen_apart seen tag xs e u.1)

  unset_unseen : (seen : List ℕ) (tag : ℕ) (xs : List Tlv) → Apart tag xs → Unseen (set seen tag 1) xs → Unseen seen xs
  unfolding Apart Unseen
  unset_unseen seen tag [] a u = tt
  unset_unseen seen tag (x ∷ xs) a u = (sym (get_or-set_other seen tag x.tag 1 0 a.0) ∙ u.0, unset_unseen seen tag xs a.1 u.1)

  -- each tag has come at most once, and each value is one of the table
  pub good_listed : (xs : List Tlv) (st : Stored) → EachBytes xs → length st.seen ≡ 8 → (stored_list dek xs st).good ≡ true → Listed dek xs × Unseen st.seen xs
  unfolding stored_list Unseen EachBytes
  good_listed [] st f e g = (none, tt)
  good_listed (x ∷ xs) st f e g =
      go (acceptable st.seen x.tag x.sent) refl
      (λ p. good_listed xs (taken dek st e x) f.1 (length-set st.seen x.tag 1 ∙ e) (subst (λ (y : Stored). (stored_list dek xs y).good ≡ true) (taken_is dek st e x p) g))
    where
      go : (b : Bool) → acceptable st.seen x.tag x.sent ≡ b
          → (acceptable st.seen x.tag x.sent ≡ true → Listed dek xs × Unseen (set st.seen x.tag 1) xs)
          → Listed dek (x ∷ xs) × ((get_or st.seen x.tag 0 ≡ 0) × Unseen st.seen xs)
      go false p later = absurd (false≢true (sym (rejected_list xs _ (refused_spoils dek st x p)) ∙ g))
      go true p later =
          let k = fits_below dek st e x p in
          let q = fits_tells dek st e x p in
          let w = value-only dek x.tag x.sent f.0 q.1 in
          let m : get_or (set st.seen x.tag 1) x.tag 0 ≡ 1 = get_or-set_same st.seen x.tag 1 0 (omega arith) in
          let r = later p in
          let a = unseen_apart (set st.seen x.tag 1) x.tag xs m r.1 in
          (more w.plain w.value a r.0, (q.0, unset_unseen st.seen x.tag xs a r.1))

  -- and a tag that has come is one that a TLV carries
  pub came_carried : (tag : ℕ) (xs : List Tlv) (st : Stored) → Listed dek xs → Unseen st.seen xs → length st.seen ≡ 8
      → (get_or st.seen tag 0 ≡ 1 → ⊥) → get_or (stored_list dek xs st).seen tag 0 ≡ 1 → (v : List ℕ) × Carries dek tag v xs
  unfolding stored_list Unseen Apart
  came_carried tag [] st l u e n c = absurd (n c)
  came_carried tag (x ∷ xs) st (more v w a l) u e n c = go (eqb x.tag tag) refl
      (λ d. came_carried tag xs (taken dek st e x) l (still_unseen st.seen x.tag xs a u.1) (length-set st.seen x.tag 1 ∙ e) d (subst (λ (y : Stored). get_or (stored_list dek xs y).seen tag 0 ≡ 1) is c))
    where
      is : stored dek st x.tag x.sent ≡ taken dek st e x
      is = let b = value-within dek w in unfold stored acceptable in rw (b.0, b.1, u.0, value_taken dek w)

      go : (b : Bool) → eqb x.tag tag ≡ b → ((get_or (set st.seen x.tag 1) tag 0 ≡ 1 → ⊥) → (v : List ℕ) × Carries dek tag v xs)
          → (v : List ℕ) × Carries dek tag v (x ∷ xs)
      go true p later = let q = eqb-true x.tag tag p in (v, here q (subst (λ (z : ℕ). Value dek z v x.sent) q w))
      go false p later =
          let d : get_or (set st.seen x.tag 1) tag 0 ≡ get_or st.seen tag 0 = get_or-set_other st.seen x.tag tag 1 0 (λ z. eqb-false x.tag tag p (sym z)) in
          let r = later (λ z. n (sym d ∙ z)) in
          (r.0, there r.1)
