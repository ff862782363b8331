-- Parts and fields of a byte string: how long they are, which bytes they have, parts of parts and of joined strings. Assumes nothing.
use Prim.Native.Nat.{ℕ, zero, suc, ◌+◌, ◌-◌, ◌≤◌, ◌<◌}
use mathlib.Core.Path.{◌≡◌, sym, ap, ◌∙◌}
use mathlib.Core.List.{List, [], ◌∷◌, ◌++◌}
use native.Mathlib.Omega.{arith}
use native.Mathlib.Decide.{dec_le}
use native.Mathlib.Nat.{lt_of_not-le, sub-zero, zero-sub, suc-sub-suc}
use lib.ListN.{length, get_or, take, drop, length-append, length-drop, length-replicate, get_or-replicate, replicate-append-replicate, get_or-eq_default, get_or-append}
use lib.Seq.{take_at, take_all, take-nil, take-take, take-append-le, drop_at, drop-drop, drop-append-le, length-take-le, get_or-take, get_or-drop, get_or-append-add, ext_get_or}
use Rattle.octets.specs.Bytes.{zeros, byte_at, part, field}

drop-take : (i n : ℕ) (s : List ℕ) → drop i (take n s) ≡ take (n - i) (drop i s)
drop-take zero n s = rw sub-zero
drop-take (suc i) zero s = rw zero-sub
drop-take (suc i) (suc n) [] = rw (take-nil {A = ℕ} (suc n - suc i))
drop-take (suc i) (suc n) (x ∷ s) = rw suc-sub-suc (drop-take i n s)

-- past the end bytes count as 0
pub byte_past : (s : List ℕ) (at : ℕ) → length s ≤ at → byte_at s at ≡ 0
byte_past s at h = get_or-eq_default s 0 h

-- ---- parts

pub length_part : (s : List ℕ) (at n : ℕ) → at + n ≤ length s → length (part s at n) ≡ n
length_part s at n h = length-take-le n (drop at s) (rw length-drop (omega arith))

pub part_at : (s : List ℕ) (at n i : ℕ) → i < n → byte_at (part s at n) i ≡ byte_at s (at + i)
part_at s at n i h = get_or-take n (drop at s) i 0 h ∙ get_or-drop at s i 0

pub part-part : (s : List ℕ) (at n i k : ℕ) → i + k ≤ n → part (part s at n) i k ≡ part s (at + i) k
part-part s at n i k h = rw (drop-take i n (drop at s), take-take k (n - i) (drop i (drop at s)) (omega arith), drop-drop i at s)

pub part-all : (s : List ℕ) (n : ℕ) → length s ≤ n → part s 0 n ≡ s
part-all s n h = take_all n s h

-- a part of joined strings: in the first, in the second, or one between two others
pub part_left : (s t : List ℕ) (at n : ℕ) → at + n ≤ length s → part (s ++ t) at n ≡ part s at n
part_left s t at n h =
    rw (drop-append-le at s t (omega arith), take-append-le n (drop at s) t (rw length-drop (omega arith)))

pub part-between : (p s t : List ℕ) (at n : ℕ) → length p ≡ at → length s ≡ n → part (p ++ (s ++ t)) at n ≡ s
part-between p s t at n e h = rw (drop_at p (s ++ t) at e) (take_at s t n h)

-- ---- fields

pub length-field : (s : List ℕ) (at n : ℕ) → length (field s at n) ≡ n
unfolding field
length-field s at n =
    length-take-le n (drop at s ++ zeros n) (rw (length-append (drop at s) (zeros n), length-replicate {A = ℕ} n 0) (omega arith))

padded : (s : List ℕ) (n i : ℕ) → i < length s + n → get_or (s ++ zeros n) i 0 ≡ get_or s i 0
padded s n i h = elim (dec_le (length s) i) [ yes g ↦ past g | no g ↦ get_or-append s (zeros n) 0 i (lt_of_not-le g) ]
  where
    past : length s ≤ i → get_or (s ++ zeros n) i 0 ≡ get_or s i 0
    past g =
        let e : i ≡ length s + (i - length s) = omega arith in
        ap (λ (j : ℕ). get_or (s ++ zeros n) j 0) e
        ∙ get_or-append-add s (zeros n) (i - length s) 0
        ∙ get_or-replicate n (i - length s) 0 0 (omega arith)
        ∙ sym (get_or-eq_default s 0 g)

pub field_at : (s : List ℕ) (at n i : ℕ) → i < n → byte_at (field s at n) i ≡ byte_at s (at + i)
unfolding field
field_at s at n i h = get_or-take n (drop at s ++ zeros n) i 0 h ∙ padded (drop at s) n i (omega arith) ∙ get_or-drop at s i 0

-- within the string a field is a part, past its end it is zero
pub field-part : (s : List ℕ) (at n : ℕ) → at + n ≤ length s → field s at n ≡ part s at n
unfolding field
field-part s at n h = take-append-le n (drop at s) (zeros n) (rw length-drop (omega arith))

-- the string that has a field's bytes is the field
pub field_is : (s t : List ℕ) (at n : ℕ) → length t ≡ n → ((i : ℕ) → i < n → byte_at t i ≡ byte_at s (at + i)) → t ≡ field s at n
field_is s t at n e f =
    ext_get_or 0 t (field s at n) (e ∙ sym (length-field s at n)) (λ i h. f i (omega arith) ∙ sym (field_at s at n i (omega arith)))

-- past the end of the string a field is zero
pub field_past : (s : List ℕ) (at n : ℕ) → length s ≤ at → zeros n ≡ field s at n
field_past s at n h =
    field_is s (zeros n) at n (length-replicate n 0) (λ i k. get_or-replicate n i 0 0 k ∙ sym (byte_past s (at + i) (omega arith)))

-- over its end it is what the string has, and zeros
pub field_end : (s : List ℕ) (at n : ℕ) → at ≤ length s → length s - at ≤ n → drop at s ++ zeros (n - (length s - at)) ≡ field s at n
field_end s at n h k =
    let m = n - (length s - at) in
    let l : length (drop at s) + m ≡ n = rw length-drop (omega arith) in
    field_is s (drop at s ++ zeros m) at n (length-append (drop at s) (zeros m) ∙ rw (length-replicate {A = ℕ} m 0) l)
    (λ i j. padded (drop at s) m i (omega arith) ∙ get_or-drop at s i 0)

pub drop-zeros : (k j : ℕ) → j ≤ k → drop j (zeros k) ≡ zeros (k - j)
drop-zeros k j h =
    let e : j + (k - j) ≡ k = omega arith in
    ap (λ (n : ℕ). drop j (zeros n)) (sym e)
    ∙ ap (drop {A = ℕ} j) (sym (replicate-append-replicate j (k - j) 0))
    ∙ drop_at (zeros j) (zeros (k - j)) j (length-replicate j 0)
