-- What a whole frame's header says, and what is malformed where there is none. Assumes nothing.
use Prim.Native.Nat.{ℕ, ◌≤◌}
use mathlib.Core.Bool.{Bool, true, false, ◌&&◌, false≢true}
use mathlib.Core.List.{List}
use mathlib.Core.Path.{◌≡◌, refl}
use native.Mathlib.Omega.{arith}
use borrow.Author.Tests.{leb-true, leb-false, eqb-true, eqb-false}
use lib.Dec.{leb, eqb}
use Rattle.octets.specs.Choice.{pick}
use Rattle.octets.specs.Bytes.{byte_at}
use Rattle.framing.specs.Frames.{frame_kind, data_size, marked, header_ok, whole}
use Rattle.framing.specs.Broken.{Broken, data_length}
use Rattle.framing.proofs.Fronts.{both, whole_is}
use Rattle.framing.proofs.Headers.{broken_not_whole, not_whole_broken}
use Rattle.bench_file.specs.Kinds.{most_data, size_ok}
use Rattle.bench_file.specs.Malformed.{Malformed}

-- the kinds, and how much data each has
pub data Suited (kind n : ℕ) : Type 0 where
  installs : kind ≡ 0x01 → 2 ≤ n → Suited kind n
  starts : kind ≡ 0x02 → n ≡ 2 → Suited kind n
  sends : kind ≡ 0x03 → 10 ≤ n → Suited kind n

suited_kind : (kind n : ℕ) (a b c : Bool) → eqb kind 0x01 ≡ a → eqb kind 0x02 ≡ b → eqb kind 0x03 ≡ c
    → pick a (leb 2 n) (pick b (eqb n 2) (pick c (leb 10 n) false)) ≡ true → Suited kind n
suited_kind kind n true b c p q r e = installs (eqb-true _ _ p) (leb-true _ _ e)
suited_kind kind n false true c p q r e = starts (eqb-true _ _ q) (eqb-true _ _ e)
suited_kind kind n false false true p q r e = sends (eqb-true _ _ r) (leb-true _ _ e)
suited_kind kind n false false false p q r e = absurd (false≢true e)

size_is : (kind n : ℕ) → size_ok kind n ≡ true → (n ≤ most_data) × Suited kind n
unfolding size_ok
size_is kind n e =
    let p = both (leb n most_data) _ e in
    (leb-true _ _ p.0, suited_kind kind n (eqb kind 0x01) (eqb kind 0x02) (eqb kind 0x03) refl refl refl p.1)

-- what a whole frame's header says
pub whole_suited : (s : List ℕ) → whole size_ok s ≡ true → Suited (frame_kind s) (data_size s)
unfolding header_ok
whole_suited s w =
    (size_is (frame_kind s) (data_size s) (both (marked s) (size_ok (frame_kind s) (data_size s)) (whole_is size_ok s w).right).1).1

-- ---- what is malformed is no whole frame

-- a size that suits no kind, or that is too large
unsuited : (kind n : ℕ) → (n ≤ most_data → Suited kind n → ⊥) → size_ok kind n ≡ false
unsuited kind n f = by (size_ok kind n) refl
  where
    by : (b : Bool) → size_ok kind n ≡ b → b ≡ false
    by false e = refl
    by true e = let z = size_is kind n e in absurd (f z.0 z.1)

pub malformed_broken : (s : List ℕ) → Malformed s → Broken size_ok s
malformed_broken s (Malformed.wrong_mark f) = Broken.wrong_mark f
malformed_broken s (Malformed.wrong_kind f g k) = Broken.wrong_data (unsuited _ _ (λ m z. by z))
  where
    by : Suited (byte_at s 2) (data_length s) → ⊥
    by (installs e l) = f e
    by (starts e l) = g e
    by (sends e l) = k e
malformed_broken s (Malformed.header_cut l) = Broken.header_cut l
malformed_broken s (Malformed.data_cut l) = Broken.data_cut l
malformed_broken s (Malformed.no_limit l) = Broken.wrong_data (unsuited _ _ (λ m z. by z))
  where
    by : Suited (byte_at s 2) (data_length s) → ⊥
    by (installs e g) = omega arith
    by (starts e g) = omega arith
    by (sends e g) = omega arith
malformed_broken s (Malformed.no_random k l) = Broken.wrong_data (unsuited _ _ (λ m z. by z))
  where
    by : Suited (byte_at s 2) (data_length s) → ⊥
    by (installs e g) = omega arith
    by (starts e g) = omega arith
    by (sends e g) = omega arith
malformed_broken s (Malformed.behind_limit k l) = Broken.wrong_data (unsuited _ _ (λ m z. by z))
  where
    by : Suited (byte_at s 2) (data_length s) → ⊥
    by (installs e g) = omega arith
    by (starts e g) = omega arith
    by (sends e g) = omega arith
malformed_broken s (Malformed.too_long l) = Broken.wrong_data (unsuited _ _ (λ m z. omega arith))

pub malformed_not_whole : (s : List ℕ) → Malformed s → whole size_ok s ≡ false
malformed_not_whole s m = broken_not_whole size_ok s (malformed_broken s m)

-- ---- and what is none is malformed

malformed_kind : (s : List ℕ) (a b c : Bool) → eqb (byte_at s 2) 0x01 ≡ a → eqb (byte_at s 2) 0x02 ≡ b → eqb (byte_at s 2) 0x03 ≡ c
    → pick a (leb 2 (data_length s)) (pick b (eqb (data_length s) 2) (pick c (leb 10 (data_length s)) false)) ≡ false → Malformed s
malformed_kind s true b c p q r e = Malformed.no_limit (leb-false _ _ e)
malformed_kind s false true c p q r e = by (leb 2 (data_length s)) refl
  where
    by : (l : Bool) → leb 2 (data_length s) ≡ l → Malformed s
    by true l =
        let n : data_length s ≡ 2 → ⊥ = eqb-false _ _ e in
        let g : 2 ≤ data_length s = leb-true _ _ l in
        Malformed.behind_limit (eqb-true _ _ q) (omega arith)
    by false l = Malformed.no_limit (leb-false _ _ l)
malformed_kind s false false true p q r e = Malformed.no_random (eqb-true _ _ r) (leb-false _ _ e)
malformed_kind s false false false p q r e = Malformed.wrong_kind (eqb-false _ _ p) (eqb-false _ _ q) (eqb-false _ _ r)

malformed-size : (s : List ℕ) → size_ok (byte_at s 2) (data_length s) ≡ false → Malformed s
unfolding size_ok
malformed-size s e = by (leb (data_length s) most_data) refl e
  where
    by : (m : Bool) → leb (data_length s) most_data ≡ m
        → (m && pick (eqb (byte_at s 2) 0x01) (leb 2 (data_length s)) (pick (eqb (byte_at s 2) 0x02) (eqb (data_length s) 2) (pick (eqb (byte_at s 2) 0x03) (leb 10 (data_length s)) false))) ≡ false
        → Malformed s
    by true m f = malformed_kind s _ _ _ refl refl refl f
    by false m f = Malformed.too_long (leb-false _ _ m)

pub not_whole-malformed : (s : List ℕ) → whole size_ok s ≡ false → Malformed s
not_whole-malformed s e = by (not_whole_broken size_ok s e)
  where
    by : Broken size_ok s → Malformed s
    by (Broken.wrong_mark f) = Malformed.wrong_mark f
    by (Broken.wrong_data f) = malformed-size s f
    by (Broken.header_cut l) = Malformed.header_cut l
    by (Broken.data_cut l) = Malformed.data_cut l
