-- The parity of bytes and keys: document 02, request 5, "Each .. key byte must have an odd number of ones". The test holds exactly where the
-- binary digits of each byte add up to an odd number, and whatever keys are taken have it in every byte. Assumes nothing.
use mathlib.Core.Bool.{Bool, true, false, ◌&&◌}
use mathlib.Core.List.{List, [], ◌∷◌, ◌++◌}
use mathlib.Core.Path.{◌≡◌, refl, sym, ap, ◌∙◌, subst}
use Prim.Native.Nat.{ℕ, zero, suc, ◌+◌, ◌-◌, ◌*◌, ◌/◌, ◌%◌, ◌≤◌, ◌<◌}
use native.Mathlib.Decide.{dec_le}
use native.Mathlib.Omega.{arith}
use borrow.Author.Tests.{eqb-true, eq-eqb}
use native.Mathlib.Nat.{div-div-eq-div-mul, div-eq_of_lt, lt_of_not-le}
use lib.Count.{ones, ones_step}
use lib.Dec.{eqb}
use lib.ListN.{length}
use Rattle.std.specs.List.{list_all}
use Rattle.std.specs.Prelude.{Option, Some, None}
use Rattle.std.proofs.lemmas.Option.{none-some, same_Some}
use Rattle.octets.specs.Bytes.{AreBytes, Octets, byte_at}
use Rattle.octets.specs.Tests.{all_true}
use Rattle.octets.proofs.Conditions.{each, and_both}
use Rattle.octets.proofs.Equality.{fails}
use Rattle.octets.proofs.Rules.{pick_holds}
use Rattle.card.specs.declared.head.Keys.{Keys}
use Rattle.card.specs.Keys.{key_bytes, keys_in, odd_parity, odd_keys, take_keys, OddDigits, AllOdd, OddKeys, Takes}
use Rattle.card.specs.Proper.{SizedKeys}
use Rattle.card.proofs.Bytes.{keys_read, keys-sized, ThreeKeys, three_keys}

-- ---- the test, byte by byte

pub parity_each : (l : List ℕ) → odd_parity l ≡ true → (i : ℕ) → i < length l → ones (byte_at l i) % 2 ≡ 1
unfolding odd_parity
parity_each [] e i h = absurd (omega arith)
parity_each (b ∷ l) e zero h = eqb-true (ones b % 2) 1 (and_both (eqb (ones b % 2) 1) (odd_parity l) e).0
parity_each (b ∷ l) e (suc i) h = parity_each l (and_both (eqb (ones b % 2) 1) (odd_parity l) e).1 i (omega arith)

pub parity_holds : (l : List ℕ) → ((i : ℕ) → i < length l → ones (byte_at l i) % 2 ≡ 1) → odd_parity l ≡ true
unfolding odd_parity
parity_holds [] f = refl
parity_holds (b ∷ l) f = rw (eq-eqb (ones b % 2) 1 (f zero (omega arith)), parity_holds l (λ i h. f (suc i) (omega arith)))

-- one byte that is even is enough
pub parity_fails : (l : List ℕ) (i : ℕ) → i < length l → (ones (byte_at l i) % 2 ≡ 1 → ⊥) → odd_parity l ≡ false
parity_fails l i h n = fails (odd_parity l) (λ e. n (parity_each l e i h))

-- of strings one after the other
pub parity_append : (a b : List ℕ) → odd_parity (a ++ b) ≡ (odd_parity a && odd_parity b)
unfolding odd_parity
parity_append [] b = refl
parity_append (x ∷ a) b = rw (parity_append a b) (and_assoc (eqb (ones x % 2) 1) (odd_parity a) (odd_parity b))
  where
    and_assoc : (p q r : Bool) → (p && (q && r)) ≡ (p && q && r)
    and_assoc true q r = refl
    and_assoc false q r = refl

-- the same test as one of all bytes
pub parity_all : (l : List ℕ) → odd_parity l ≡ list_all (λ b. eqb (ones b % 2) 1) l
unfolding odd_parity
parity_all [] = refl
parity_all (b ∷ l) = ap (λ t. eqb (ones b % 2) 1 && t) (parity_all l)

-- ---- the number of ones is the sum of the binary digits

-- the digits from the k-th on: their lowest, and the others
next : (b k : ℕ) → ones (b / k) ≡ b / k % 2 + ones (b / (k * 2))
next b k = ones_step (b / k) ∙ ap (λ (n : ℕ). b / k % 2 + ones n) (div-div-eq-div-mul b k 2)

no_ones : ones 0 ≡ 0
unfolding ones
no_ones = refl

pub ones_digits : (b : ℕ) → b < 256
    → ones b ≡ b % 2 + b / 2 % 2 + b / 4 % 2 + b / 8 % 2 + b / 16 % 2 + b / 32 % 2 + b / 64 % 2 + b / 128 % 2
ones_digits b h =
    let z : ones (b / 256) ≡ 0 = ap ones (div-eq_of_lt h) ∙ no_ones in
    rw (ones_step b, next b 2, next b 4, next b 8, next b 16, next b 32, next b 64, next b 128, z)
    (omega arith)

module _ (l : List ℕ) (f : AreBytes l) where
  -- the test tells of the digits, and is told by them
  pub parity_told : odd_parity l ≡ true → AllOdd (length l) l
  parity_told e i h = rw (← ones_digits (byte_at l i) (f i)) (parity_each l e i h)

  pub parity_passes : AllOdd (length l) l → odd_parity l ≡ true
  parity_passes d = parity_holds l (λ i h. rw (ones_digits (byte_at l i) (f i)) (d i h))

-- ---- three keys

module _ (k : Keys) where
  pub keys_split : odd_keys k ≡ all_true (odd_parity k.enc ∷ odd_parity k.mac ∷ odd_parity k.dek ∷ [])
  unfolding odd_keys key_bytes
  keys_split =
      parity_append (k.enc ++ k.mac) k.dek
      ∙ rw (parity_append k.enc k.mac) (joined (odd_parity k.enc) (odd_parity k.mac) (odd_parity k.dek))
    where
      joined : (a b c : Bool) → (a && b && c) ≡ all_true (a ∷ b ∷ c ∷ [])
      joined true true true = refl
      joined true true false = refl
      joined true false c = refl
      joined false b c = refl

  module _ (z : SizedKeys k) where
    pub keys_told : odd_keys k ≡ true → OddKeys k
    keys_told e =
        let t = each (odd_parity k.enc ∷ odd_parity k.mac ∷ odd_parity k.dek ∷ []) (sym keys_split ∙ e) in
        record { enc = told z.enc t.0; mac = told z.mac t.1.0; dek = told z.dek t.1.1.0 }
      where
        told : {s : List ℕ} → Octets 16 s → odd_parity s ≡ true → AllOdd 16 s
        told {s} o t i h = parity_told s o.each t i (let n = o.size in omega arith)

    pub keys_pass : OddKeys k → odd_keys k ≡ true
    keys_pass d = keys_split ∙ rw (passes z.enc d.enc, passes z.mac d.mac, passes z.dek d.dek)
      where
        passes : {s : List ℕ} → Octets 16 s → AllOdd 16 s → odd_parity s ≡ true
        passes {s} o d = parity_passes s o.each (λ i h. d i (let n = o.size in omega arith))

-- ---- the keys that bytes say, by the bytes' places

module _ (l : List ℕ) where
  pub odd-places : OddKeys (keys_in l) → AllOdd 48 l
  odd-places d i h = elim (dec_le 16 i) [ yes a ↦ elim (dec_le 32 i) [ yes b ↦ third b | no b ↦ second a (lt_of_not-le b) ] | no a ↦ first (lt_of_not-le a) ]
    where
      t : ThreeKeys l (keys_in l)
      t = three_keys l

      first : i < 16 → OddDigits (byte_at l i)
      first g = rw (← t.enc i g) (d.enc i g)

      second : 16 ≤ i → i < 32 → OddDigits (byte_at l i)
      second a b =
          let e : 16 + (i - 16) ≡ i = omega arith in
          subst (λ (j : ℕ). OddDigits (byte_at l j)) e (rw (← t.mac (i - 16) (omega arith)) (d.mac (i - 16) (omega arith)))

      third : 32 ≤ i → OddDigits (byte_at l i)
      third b =
          let e : 32 + (i - 32) ≡ i = omega arith in
          subst (λ (j : ℕ). OddDigits (byte_at l j)) e (rw (← t.dek (i - 32) (omega arith)) (d.dek (i - 32) (omega arith)))

  pub places-odd : AllOdd 48 l → OddKeys (keys_in l)
  places-odd d =
      let t = three_keys l in
      record {
        enc = λ i h. rw (t.enc i h) (d i (omega arith));
        mac = λ i h. rw (t.mac i h) (d (16 + i) (omega arith));
        dek = λ i h. rw (t.dek i h) (d (32 + i) (omega arith));
      }

-- ---- what is taken

module _ (l : List ℕ) (f : AreBytes l) where
  -- only bytes that are odd in every place
  pub taken-odd : (k : Keys) → take_keys l ≡ Some k → AllOdd 48 l
  unfolding take_keys
  taken-odd k = pick_holds (λ (r : Option Keys). r ≡ Some k → AllOdd 48 l) (odd_keys (keys_in l)) _ _
      (λ e q. odd-places l (keys_told (keys_in l) (keys-sized l f) e)) (λ e q. absurd (none-some k q))

  -- and all that are
  pub odd-taken : AllOdd 48 l → take_keys l ≡ Some (keys_in l)
  unfolding take_keys
  odd-taken d = rw (keys_pass (keys_in l) (keys-sized l f) (places-odd l d))

  -- what was accepted has its sizes and passes the test
  pub taken-sized : (k : Keys) → take_keys l ≡ Some k → SizedKeys k × (odd_keys k ≡ true)
  unfolding take_keys
  taken-sized k =
      pick_holds (λ (r : Option Keys). r ≡ Some k → SizedKeys k × (odd_keys k ≡ true)) (odd_keys (keys_in l)) _ _
      (λ e q. let h = same_Some _ _ q in (subst SizedKeys h (keys-sized l f), ap odd_keys (sym h) ∙ e)) (λ e q. absurd (none-some k q))

-- the bytes of keys of odd parity are taken as these keys
pub keys-taken : (k : Keys) → SizedKeys k → OddKeys k → take_keys (key_bytes k) ≡ Some k
unfolding take_keys
keys-taken k z o = rw (keys_read k z, keys_pass k z o)

-- the routine's promise, where it accepts and where it refuses
module _ (l : List ℕ) (k : Keys) (e : k ≡ keys_in l) where
  pub accepts : AreBytes l → odd_keys k ≡ true → Takes l (Some k)
  unfolding take_keys
  accepts f o =
      record {
        taken = rw (← e, o);
        odd = λ x q. subst OddKeys (same_Some k x q) (keys_told k (subst SizedKeys (sym e) (keys-sized l f)) o);
      }

  pub rejects : odd_keys k ≡ false → Takes l None
  unfolding take_keys
  rejects o = record { taken = rw (← e, o); odd = λ x q. absurd (none-some x q) }
