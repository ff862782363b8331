-- What is broken is no whole frame, and what is none is broken; and what leads the bytes in hand says both. Assumes nothing.
use Prim.Native.Nat.{ℕ}
use mathlib.Core.Bool.{Bool, true, false, not, ◌&&◌, false≢true}
use mathlib.Core.List.{List}
use mathlib.Core.Path.{◌≡◌, refl, sym, ◌∙◌}
use denote.Enum.Bare.{sameb}
use native.Mathlib.Decide.{dec_le}
use native.Mathlib.Nat.{lt_of_not-le}
use native.Mathlib.Omega.{arith}
use borrow.Author.Tests.{leb-false, eqb-true, eqb-false, le-leb, lt-leb, le-ltb, lt-ltb}
use lib.Dec.{leb, ltb, eqb}
use lib.ListN.{length}
use Rattle.octets.specs.Choice.{pick}
use Rattle.octets.specs.Bytes.{byte_at}
use Rattle.framing.specs.contracts.front.Front.{the_type}
use Rattle.framing.specs.declared.front.Front.{Front}
use Rattle.framing.specs.declared.front.Front.TheVariants.{Frame, Malformed, Awaited}
use Rattle.framing.specs.Frames.{header_size, frame_kind, data_size, frame_size, marked, leads, is_frame, is_malformed, front_of, header_ok, whole, malformed}
use Rattle.framing.specs.Broken.{Broken, wrong_mark, wrong_data, header_cut, data_cut}
use Rattle.framing.proofs.Fronts.{both, Whole, whole_is}

module _ (ok : ℕ → ℕ → Bool) (s : List ℕ) where
  not_broken : Whole ok s → Broken ok s → ⊥
  unfolding header_ok marked frame_size
  not_broken w (wrong_mark f) =
      let p = both (eqb (byte_at s 0) 0xB5 && eqb (byte_at s 1) 0xC3) (ok (frame_kind s) (data_size s)) w.right in
      let q = both (eqb (byte_at s 0) 0xB5) (eqb (byte_at s 1) 0xC3) p.0 in
      f (eqb-true _ _ q.0) (eqb-true _ _ q.1)
  not_broken w (wrong_data f) = false≢true (sym f ∙ (both (marked s) (ok (frame_kind s) (data_size s)) w.right).1)
  not_broken w (header_cut l) = let g = w.header in omega arith
  not_broken w (data_cut l) = let g = w.long in omega arith

  -- what is broken is no whole frame
  pub broken_not_whole : Broken ok s → whole ok s ≡ false
  broken_not_whole b = by (whole ok s) refl
    where
      by : (t : Bool) → whole ok s ≡ t → t ≡ false
      by false e = refl
      by true e = absurd (not_broken (whole_is ok s e) b)

  broken_header : header_ok ok s ≡ false → Broken ok s
  unfolding header_ok marked
  broken_header e = by (eqb (byte_at s 0) 0xB5) (eqb (byte_at s 1) 0xC3) (ok (frame_kind s) (data_size s)) refl refl refl e
    where
      by : (a b c : Bool) → eqb (byte_at s 0) 0xB5 ≡ a → eqb (byte_at s 1) 0xC3 ≡ b → ok (frame_kind s) (data_size s) ≡ c → ((a && b) && c) ≡ false → Broken ok s
      by false b c p q r f = wrong_mark (λ x y. eqb-false _ _ p x)
      by true false c p q r f = wrong_mark (λ x y. eqb-false _ _ q y)
      by true true false p q r f = wrong_data r
      by true true true p q r f = absurd (false≢true (sym f))

  -- and what is none is broken
  pub not_whole_broken : whole ok s ≡ false → Broken ok s
  unfolding whole frame_size
  not_whole_broken e = by (leb header_size (length s)) (header_ok ok s) (leb (frame_size s) (length s)) refl refl refl e
    where
      by : (a b c : Bool) → leb header_size (length s) ≡ a → header_ok ok s ≡ b → leb (frame_size s) (length s) ≡ c → (a && b && c) ≡ false → Broken ok s
      by false b c p q r f = header_cut (leb-false _ _ p)
      by true false c p q r f = broken_header q
      by true true false p q r f = data_cut (leb-false _ _ r)
      by true true true p q r f = absurd (false≢true (sym f))

-- ---- what leads

less_is : (n m : ℕ) → ltb n m ≡ not (leb m n)
less_is n m = elim (dec_le m n) [ yes h ↦ rw (le-ltb n m h, le-leb m n h) | no h ↦ (let l = lt_of_not-le h in rw (lt-ltb n m l, lt-leb m n l)) ]

module _ (ok : ℕ → ℕ → Bool) (s : List ℕ) where
  -- a whole frame
  pub front_whole : is_frame (front_of ok s) ≡ whole ok s
  unfolding leads is_frame whole header_ok
  front_whole =
      rw (less_is (length s) header_size, less_is (length s) (frame_size s))
      (by (leb header_size (length s)) (marked s) (ok (frame_kind s) (data_size s)) (leb (frame_size s) (length s)))
    where
      by : (a b c d : Bool) → is_frame (pick (not a) Awaited (pick (not b) Malformed (pick (not c) Malformed (pick (not d) Awaited Frame)))) ≡ (a && (b && c) && d)
      by false b c d = refl
      by true false c d = refl
      by true true false d = refl
      by true true true false = refl
      by true true true true = refl

  -- what no byte behind it can mend
  pub front_malformed : is_malformed (front_of ok s) ≡ malformed ok s
  unfolding leads is_malformed malformed header_ok
  front_malformed =
      rw (less_is (length s) header_size, less_is (length s) (frame_size s))
      (by (leb header_size (length s)) (marked s) (ok (frame_kind s) (data_size s)) (leb (frame_size s) (length s)))
    where
      by : (a b c d : Bool) → is_malformed (pick (not a) Awaited (pick (not b) Malformed (pick (not c) Malformed (pick (not d) Awaited Frame)))) ≡ (a && not (b && c))
      by false b c d = refl
      by true false c d = refl
      by true true false d = refl
      by true true true false = refl
      by true true true true = refl

-- ---- what leads, as `==` tests it

pub frame_test : (f : Front) → sameb the_type f Frame ≡ is_frame f
unfolding is_frame
frame_test Frame = refl
frame_test Malformed = refl
frame_test Awaited = refl

pub malformed_test : (f : Front) → sameb the_type f Malformed ≡ is_malformed f
unfolding is_malformed
malformed_test Frame = refl
malformed_test Malformed = refl
malformed_test Awaited = refl
