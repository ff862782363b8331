-- The packed session: 128 bytes, which read back as the session and as no other; what reads as a session is its packing, and zeros
-- are none. Assumes nothing.
use Prim.Native.Nat.{ℕ, zero, suc, ◌+◌}
use mathlib.Core.Bool.{Bool, true, false}
use mathlib.Core.List.{List, ◌++◌, append_assoc}
use mathlib.Core.Option.{Option, none, some}
use mathlib.Core.Path.{◌≡◌, refl, sym, ap, ◌∙◌}
use native.Mathlib.Omega.{arith}
use lib.Dec.{eqb}
use lib.ListN.{length, drop}
use lib.Seq.{drop-drop, drop_at, take_at}
use Rattle.std.specs.Prelude.{Some, None}
use Rattle.octets.specs.Choice.{pick}
use Rattle.octets.specs.Bytes.{AreBytes, Octets, zeros, field, byte_at, same}
use Rattle.octets.specs.Words.{word_at}
use Rattle.octets.proofs.Numbers.{word_read, word-at_below}
use Rattle.octets.proofs.Equality.{same_refl, same_equal, byte_differs}
use Rattle.octets.proofs.Octets.{cons_octets, append_octets, zeros_octets, word_octets, field_octets, flag_below}
use Rattle.session.specs.declared.Session.{Session}
use Rattle.session.specs.Codes.{level_of, pending_of, amount_of}
use Rattle.session.specs.Packing.{heading, packed, decoded_channel, decoded_offer, decoded, unpacked, unpacking, shown}
use Rattle.session.proofs.RoundTrip.{flag_read, level_read, pending_read, level_small, pending_small, amount_small}
use Rattle.session.proofs.Sizes.{Sized}

-- from a place on, l has x and then the rest
record Stands (l : List ℕ) (at : ℕ) (x rest : List ℕ) : Type 0 where
  pub is : drop at l ≡ x ++ rest

next : {l x y rest : List ℕ} {at : ℕ} (n : ℕ) → Stands l at x (y ++ rest) → length x ≡ n → Stands l (at + n) y rest
next {l} {x} {y} {rest} {at} n h e = record { is = sym (drop-drop n at l) ∙ ap (drop n) h.is ∙ drop_at x (y ++ rest) n e }

read : {l x rest : List ℕ} {at : ℕ} (n : ℕ) → Stands l at x rest → length x ≡ n → field l at n ≡ x
unfolding field
read {l} {x} {rest} {at} n h e = rw (h.is, append_assoc) (take_at x (rest ++ zeros n) n e)

-- ---- the eight bytes before the keys

module _ (s : Session) where
  selected-packed : eqb (byte_at (packed s) 1) 1 ≡ s.selected
  unfolding packed
  selected-packed = flag_read s.selected

  verified_packed : eqb (byte_at (packed s) 2) 1 ≡ s.verified
  unfolding packed
  verified_packed = flag_read s.verified

  level_packed : level_of (byte_at (packed s) 3) ≡ s.channel.level
  unfolding packed
  level_packed = level_read s.channel.level

  pending_packed : pending_of (byte_at (packed s) 4) (word_at (packed s) 5) ≡ s.pending
  unfolding packed
  pending_packed = rw (word_read (amount_of s.pending)) (pending_read s.pending)

-- ---- the whole

-- what comes after the heading
abbrev after : Session → List ℕ
after s =
    s.channel.enc ++ (s.channel.mac ++ (s.channel.cmac ++ (s.channel.rmac
    ++ (s.offer.enc ++ (s.offer.mac ++ (s.offer.expected ++ zeros 32))))))

-- keys, chains and the offered cryptogram in the bytes l, and zeros after them
pub record Keyed (s : Session) (l : List ℕ) : Type 0 where
  pub enc : field l 8 16 ≡ s.channel.enc
  pub mac : field l 24 16 ≡ s.channel.mac
  pub cmac : field l 40 8 ≡ s.channel.cmac
  pub rmac : field l 48 8 ≡ s.channel.rmac
  pub offer-enc : field l 56 16 ≡ s.offer.enc
  pub offer-mac : field l 72 16 ≡ s.offer.mac
  pub expected : field l 88 8 ≡ s.offer.expected
  pub rest : drop 96 l ≡ zeros 32

module _ {s : Session} (h : Sized s) where
  heading_octets : Octets 8 (heading s)
  heading_octets =
      cons_octets (omega arith)
      (cons_octets (flag_below s.selected)
      (cons_octets (flag_below s.verified)
      (cons_octets (level_small s.channel.level)
      (cons_octets (pending_small s.pending)
      (append_octets (word_octets (amount_of s.pending) h.amount) (zeros_octets 1))))))

  split : packed s ≡ heading s ++ after s
  unfolding packed
  split = simp append_assoc

  -- 128 bytes
  pub packed_octets : Octets 128 (packed s)
  unfolding packed
  packed_octets =
      let c = h.channel in
      let o = h.offer in
      append_octets (append_octets (append_octets (append_octets (append_octets (append_octets (append_octets (append_octets heading_octets c.enc) c.mac) c.cmac) c.rmac) o.enc) o.mac) o.expected)
      (zeros_octets 32)

  -- keys and chains stand at their places
  pub keyed : Keyed s (packed s)
  keyed =
      let c = h.channel in
      let o = h.offer in
      let p0 : Stands (packed s) 0 (heading s) (after s) = record { is = split } in
      let p1 = next 8 p0 refl in
      let p2 = next 16 p1 c.enc.size in
      let p3 = next 16 p2 c.mac.size in
      let p4 = next 8 p3 c.cmac.size in
      let p5 = next 8 p4 c.rmac.size in
      let p6 = next 16 p5 o.enc.size in
      let p7 = next 16 p6 o.mac.size in
      record {
        enc = read 16 p1 c.enc.size;
        mac = read 16 p2 c.mac.size;
        cmac = read 8 p3 c.cmac.size;
        rmac = read 8 p4 c.rmac.size;
        offer-enc = read 16 p5 o.enc.size;
        offer-mac = read 16 p6 o.mac.size;
        expected = read 8 p7 o.expected.size;
        rest = sym (drop-drop 8 88 (packed s)) ∙ ap (drop 8) p7.is ∙ drop_at s.offer.expected (zeros 32) 8 o.expected.size;
      }

  decoded-packed : decoded (packed s) ≡ s
  unfolding decoded decoded_channel decoded_offer
  decoded-packed =
      let k = keyed in
      rw (k.enc, k.mac, k.cmac, k.rmac, k.offer-enc, k.offer-mac, k.expected, selected-packed s, verified_packed s, level_packed s, pending_packed s)

  -- "every session handed out reads back as itself"
  pub reads_back : unpacked (packed s) ≡ some s
  unfolding unpacked
  reads_back = rw (decoded-packed, same_refl (packed s))

-- two sessions of one packing are one
pub packed_one : {s t : Session} → Sized s → Sized t → packed s ≡ packed t → s ≡ t
packed_one {s} {t} h k e = sym (decoded-packed h) ∙ ap decoded e ∙ decoded-packed k

-- ---- what reads as a session

decoded-sized : (l : List ℕ) → AreBytes l → Sized (decoded l)
unfolding decoded decoded_channel decoded_offer
decoded-sized l f =
    record {
      channel = record { enc = field_octets l 8 16 f; mac = field_octets l 24 16 f; cmac = field_octets l 40 8 f; rmac = field_octets l 48 8 f };
      amount = amount_small (byte_at l 4) (word_at l 5) (word-at_below l 5 f);
      offer = record { enc = field_octets l 56 16 f; mac = field_octets l 72 16 f; expected = field_octets l 88 8 f };
    }

by_test : (b : Bool) (x s : Session) → pick b (some x) none ≡ some s → (b ≡ true) × (x ≡ s)
by_test true x s e = (refl, cc)
by_test false x s e = absurd (cc)

module _ (l : List ℕ) (s : Session) (e : unpacked l ≡ some s) where
  tested : (same (packed (decoded l)) l ≡ true) × (decoded l ≡ s)
  unfolding unpacked
  tested = by_test (same (packed (decoded l)) l) (decoded l) s e

  -- it is that session's packing
  pub reads_packed : packed s ≡ l
  reads_packed = ap packed (sym tested.1) ∙ same_equal (packed (decoded l)) l tested.0

  -- and its arrays have their sizes, where l has bytes
  pub reads_sized : AreBytes l → Sized s
  reads_sized f = rw (← tested.1) (decoded-sized l f)

  pub reads_octets : AreBytes l → Octets 128 l
  reads_octets f = rw (← reads_packed) (packed_octets (reads_sized f))

-- no other bytes read as that session
pub reads_one : (l k : List ℕ) (s : Session) → unpacked l ≡ some s → unpacked k ≡ some s → l ≡ k
reads_one l k s p q = sym (reads_packed l s p) ∙ reads_packed k s q

-- ---- what doesn't

zero_first : (n : ℕ) → byte_at (zeros n) 0 ≡ 0
zero_first zero = refl
zero_first (suc n) = refl

-- a packing starts with the mark
marked : (n : ℕ) (s : Session) → byte_at (packed s) 0 ≡ byte_at (zeros n) 0 → ⊥
unfolding packed
marked n s e = let z = zero_first n in omega arith

-- zeros are no session
pub zeros-none : (n : ℕ) → unpacked (zeros n) ≡ none
unfolding unpacked
zeros-none n = rw (byte_differs (packed (decoded (zeros n))) (zeros n) 0 (marked n (decoded (zeros n))))

-- ---- the same of `unpacking`

shown_some : (o : Option Session) (s : Session) → shown o ≡ Some s → o ≡ some s
shown_some none s e = cc
shown_some (some t) s e = cc

shown_none : (o : Option Session) → shown o ≡ None → o ≡ none
shown_none none e = refl
shown_none (some s) e = cc

pub unpacking_back : {s : Session} → Sized s → unpacking (packed s) ≡ Some s
unfolding unpacking
unpacking_back h = rw (reads_back h)

pub unpacking-zeros : (n : ℕ) → unpacking (zeros n) ≡ None
unfolding unpacking
unpacking-zeros n = rw (zeros-none n)

pub unpacking-some : (l : List ℕ) (s : Session) → unpacking l ≡ Some s → unpacked l ≡ some s
unfolding unpacking
unpacking-some l s e = shown_some (unpacked l) s e

pub unpacking-none : (l : List ℕ) → unpacking l ≡ None → unpacked l ≡ none
unfolding unpacking
unpacking-none l e = shown_none (unpacked l) e

pub unpacking-sized : (l : List ℕ) (s : Session) → AreBytes l → unpacking l ≡ Some s → Sized s
unpacking-sized l s f e = reads_sized l s (unpacking-some l s e) f
