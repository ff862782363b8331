-- What leads a byte string: a whole frame stays the same, and what is no frame stays none, whatever bytes follow. Assumes nothing.
use Prim.Native.Nat.{ℕ, ◌≤◌, ◌<◌}
use mathlib.Core.Bool.{Bool, true, false, not, ◌&&◌, ◌||◌, false≢true}
use mathlib.Core.List.{List, ◌++◌}
use mathlib.Core.Path.{◌≡◌, refl, ◌∙◌}
use native.Mathlib.Omega.{arith}
use borrow.Author.Tests.{leb-true, le-leb, lt-leb, not-true}
use lib.Dec.{leb}
use lib.ListN.{length, drop, length-append, length-drop, get_or-append}
use lib.Seq.{drop-append-le}
use Rattle.octets.specs.Bytes.{byte_at}
use Rattle.octets.proofs.Parts.{part_left}
use Rattle.framing.specs.Frames.{header_size, frame_kind, data_size, frame_data, frame_size, marked, header_ok, whole, malformed}
use Rattle.framing.specs.Formats.{Format, taken, front_refused}

-- of two tests that hold together, each
pub both : (a b : Bool) → (a && b) ≡ true → (a ≡ true) × (b ≡ true)
both true b e = (refl, e)
both false b e = absurd (false≢true e)

-- ---- the header

module _ (s t : List ℕ) (h : header_size ≤ length s) where
  same_byte : (i : ℕ) → i < header_size → byte_at (s ++ t) i ≡ byte_at s i
  same_byte i l = get_or-append s t 0 i (omega arith)

  same_kind : frame_kind (s ++ t) ≡ frame_kind s
  same_kind = same_byte 2 (omega arith)

  same_length : data_size (s ++ t) ≡ data_size s
  same_length = rw (same_byte 3 (omega arith), same_byte 4 (omega arith))

  same_size : frame_size (s ++ t) ≡ frame_size s
  unfolding frame_size
  same_size = rw same_length

  same_mark : marked (s ++ t) ≡ marked s
  unfolding marked
  same_mark = simp (same_byte 0 (omega arith), same_byte 1 (omega arith))

  same_data : frame_size s ≤ length s → frame_data (s ++ t) ≡ frame_data s
  unfolding frame_size
  same_data l = rw (same_byte 3 (omega arith), same_byte 4 (omega arith), part_left s t header_size (data_size s) l)

module _ (ok : ℕ → ℕ → Bool) where
  -- what a whole frame comes to
  pub record Whole (s : List ℕ) : Type 0 where
    pub header : header_size ≤ length s
    pub right : header_ok ok s ≡ true
    pub long : frame_size s ≤ length s

  pub whole_is : (s : List ℕ) → whole ok s ≡ true → Whole s
  unfolding whole
  whole_is s e =
      let p = both (leb header_size (length s) && header_ok ok s) (leb (frame_size s) (length s)) e in
      let q = both (leb header_size (length s)) (header_ok ok s) p.0 in
      record { header = leb-true _ _ q.0; right = q.1; long = leb-true _ _ p.1 }

  pub is_whole : (s : List ℕ) → Whole s → whole ok s ≡ true
  unfolding whole
  is_whole s w = rw (le-leb header_size (length s) w.header, w.right) (le-leb (frame_size s) (length s) w.long)

  -- too few bytes for a header
  pub short_not_whole : (s : List ℕ) → length s < header_size → whole ok s ≡ false
  unfolding whole
  short_not_whole s h = rw (lt-leb header_size (length s) h)

  pub malformed_not_whole : (s : List ℕ) → malformed ok s ≡ true → whole ok s ≡ false
  unfolding whole malformed
  malformed_not_whole s e =
      let p = both (leb header_size (length s)) (not (header_ok ok s)) e in
      let f : header_ok ok s ≡ false = not-true (header_ok ok s) p.1 in
      rw (p.0, f)

  same_header : (s t : List ℕ) → header_size ≤ length s → header_ok ok (s ++ t) ≡ header_ok ok s
  unfolding header_ok
  same_header s t h = rw (same_mark s t h, same_kind s t h, same_length s t h)

  -- a whole frame stays the same
  module _ (s t : List ℕ) (e : whole ok s ≡ true) where
    pub whole_append : whole ok (s ++ t) ≡ true
    whole_append =
        let w = whole_is s e in
        is_whole (s ++ t)
        (record {
          header = rw length-append (omega (arith, w.header));
          right = same_header s t w.header ∙ w.right;
          long = rw (same_size s t w.header, length-append) (omega (arith, w.long));
        })

    pub kind_append : frame_kind (s ++ t) ≡ frame_kind s
    kind_append = same_kind s t (whole_is s e).header

    pub data_append : frame_data (s ++ t) ≡ frame_data s
    data_append = same_data s t (whole_is s e).header (whole_is s e).long

    pub rest-append : drop (frame_size (s ++ t)) (s ++ t) ≡ drop (frame_size s) s ++ t
    rest-append = rw (same_size s t (whole_is s e).header) (drop-append-le (frame_size s) s t (whole_is s e).long)

  -- and so does what is none
  pub malformed-append : (s t : List ℕ) → malformed ok s ≡ true → malformed ok (s ++ t) ≡ true
  unfolding malformed
  malformed-append s t e =
      let p = both (leb header_size (length s)) (not (header_ok ok s)) e in
      let h : header_size ≤ length s = leb-true _ _ p.0 in
      let l : header_size ≤ length (s ++ t) = rw length-append (omega arith) in
      rw (le-leb header_size (length (s ++ t)) l, same_header s t h) p.1

  pub malformed-long : (s : List ℕ) → malformed ok s ≡ true → header_size ≤ length s
  unfolding malformed
  malformed-long s e = leb-true _ _ (both (leb header_size (length s)) (not (header_ok ok s)) e).0

  -- what is left behind a whole frame is shorter
  pub rest_shorter : (s : List ℕ) → whole ok s ≡ true → length (drop (frame_size s) s) < length s
  unfolding frame_size
  rest_shorter s e =
      let w = whole_is s e in
      rw length-drop (omega (arith, w.header))

-- ---- what is taken, and what is refused

module _ (F : Format) (st : F.Carried) where
  pub taken-whole : (s : List ℕ) → taken F st s ≡ true → whole F.ok s ≡ true
  unfolding taken
  taken-whole s e = (both (whole F.ok s) (F.takes st (frame_kind s) (frame_data s)) e).0

  pub short_not_taken : (s : List ℕ) → length s < header_size → taken F st s ≡ false
  unfolding taken
  short_not_taken s h = rw (short_not_whole F.ok s h)

  pub taken-append : (s t : List ℕ) → taken F st s ≡ true → taken F st (s ++ t) ≡ true
  unfolding taken
  taken-append s t e =
      let w = taken-whole s e in
      rw (kind_append F.ok s t w, data_append F.ok s t w, whole_append F.ok s t w)
      (both (whole F.ok s) (F.takes st (frame_kind s) (frame_data s)) e).1

  -- a refusal: no frame, or one that is not taken
  pub data Refused (s : List ℕ) : Type 0 where
    none : malformed F.ok s ≡ true → Refused s
    other : whole F.ok s ≡ true → F.takes st (frame_kind s) (frame_data s) ≡ false → Refused s

  pub refused-is : (s : List ℕ) → front_refused F st s ≡ true → Refused s
  unfolding front_refused
  refused-is s = by (malformed F.ok s) (whole F.ok s) (F.takes st (frame_kind s) (frame_data s)) refl refl refl
    where
      by : (a b c : Bool) → malformed F.ok s ≡ a → whole F.ok s ≡ b → F.takes st (frame_kind s) (frame_data s) ≡ c → (a || (b && not c)) ≡ true → Refused s
      by true b c p q r e = none p
      by false true false p q r e = other q r
      by false true true p q r e = absurd (false≢true e)
      by false false c p q r e = absurd (false≢true e)

  is-refused : (s : List ℕ) → Refused s → front_refused F st s ≡ true
  unfolding front_refused
  is-refused s (none p) = rw p
  is-refused s (other p q) = rw (p, q) (by (malformed F.ok s))
    where
      by : (a : Bool) → (a || true) ≡ true
      by true = refl
      by false = refl

  pub refused-append : (s t : List ℕ) → front_refused F st s ≡ true → front_refused F st (s ++ t) ≡ true
  refused-append s t e = is-refused (s ++ t) (by (refused-is s e))
    where
      by : Refused s → Refused (s ++ t)
      by (none p) = none (malformed-append F.ok s t p)
      by (other p q) = other (whole_append F.ok s t p) (rw (kind_append F.ok s t p, data_append F.ok s t p) q)

  pub refused_not_taken : (s : List ℕ) → front_refused F st s ≡ true → taken F st s ≡ false
  unfolding taken
  refused_not_taken s e = by (refused-is s e)
    where
      by : Refused s → (whole F.ok s && F.takes st (frame_kind s) (frame_data s)) ≡ false
      by (none p) = rw (malformed_not_whole F.ok s p)
      by (other p q) = rw (p, q)

  pub refused-long : (s : List ℕ) → front_refused F st s ≡ true → header_size ≤ length s
  refused-long s e = by (refused-is s e)
    where
      by : Refused s → header_size ≤ length s
      by (none p) = malformed-long F.ok s p
      by (other p q) = (whole_is F.ok s p).header
