-- The bytes of a log record and of three keys: how many, that each reads back as what it was made of, and which key lies where. Assumes nothing.
use mathlib.Core.Path.{◌≡◌, refl, sym, ap, ◌∙◌}
use mathlib.Core.Bool.{true}
use mathlib.Core.List.{List, [], ◌∷◌, ◌++◌, append_assoc, append-nil}
use Prim.Native.Nat.{ℕ, zero, suc, ◌+◌, ◌-◌, ◌≤◌, ◌<◌}
use native.Mathlib.Decide.{dec_le}
use native.Mathlib.Omega.{arith}
use native.Mathlib.Nat.{zero-add, add-zero, lt_of_not-le}
use lib.ListN.{length, get_or, length-append, get_or-append}
use lib.Seq.{get_or-drop, get_or-append-add}
use Rattle.octets.specs.Bytes.{AreBytes, Octets, zeros, byte_at, field, all_zero}
use Rattle.octets.specs.Words.{word, word_at}
use Rattle.octets.proofs.Octets.{append_octets, byte_octets, word_octets, field_octets}
use Rattle.octets.proofs.Numbers.{word-at_below}
use Rattle.octets.proofs.Parts.{length-field, field_is, field_at, field-part, part-between}
use Rattle.octets.proofs.Equality.{zero_zeros, zeros_zero}
use Rattle.card.specs.declared.head.Keys.{Keys}
use Rattle.card.specs.declared.log.Record.{Record}
use Rattle.card.specs.Log.{record_size, void, record_bytes, record_in}
use Rattle.card.specs.Keys.{keys_size, key_bytes, keys_in}
use Rattle.card.specs.Proper.{SizedKeys, SizedRecord}
use Rattle.card.proofs.Told.{record_places}

-- a string between two others is a field
field-between : (p s t : List ℕ) (at n : ℕ) → length p ≡ at → length s ≡ n → field (p ++ (s ++ t)) at n ≡ s
field-between p s t at n e l = field-part (p ++ (s ++ t)) at n (rw (length-append, length-append) (omega arith)) ∙ part-between p s t at n e l

-- ---- a log record

module _ (r : Record) (z : SizedRecord r) where
  pub record_octets : Octets record_size (record_bytes r)
  unfolding record_bytes
  record_octets =
      append_octets
      (append_octets
      (append_octets
      (append_octets (append_octets (word_octets r.number z.number) (word_octets r.currency z.currency)) (word_octets r.amount z.amount))
      (word_octets r.balance z.balance))
      z.context)
      (byte_octets z.keyset)

  context_read : field (record_bytes r) 8 16 ≡ r.context
  unfolding record_bytes
  context_read =
      let front = word r.number ++ word r.currency ++ word r.amount ++ word r.balance in
      field-between front r.context (r.keyset ∷ []) 8 16 refl z.context.size

  keyset_read : byte_at (record_bytes r) 24 ≡ r.keyset
  keyset_read = sym (get_or-drop 24 (record_bytes r) 0 0) ∙ ap (λ (l : List ℕ). get_or l 0 0) (record_places r z.context.size).keyset

  pub record_read : record_in (record_bytes r) ≡ r
  unfolding record_in
  record_read =
      let p = record_places r z.context.size in
      λ i. record {
        number = p.number i;
        currency = p.currency i;
        amount = p.amount i;
        balance = p.balance i;
        context = context_read i;
        keyset = keyset_read i;
      }

-- a record of zeros is the void one
zero_read : record_in (zeros record_size) ≡ void
unfolding record_in field
zero_read = refl

pub void_read : (r : Record) → SizedRecord r → all_zero (record_bytes r) ≡ true → r ≡ void
void_read r z e =
    sym (record_read r z) ∙ ap record_in (zero_zeros (record_bytes r) e ∙ ap zeros (record_octets r z).size) ∙ zero_read

pub void_zero : all_zero (record_bytes void) ≡ true
unfolding record_bytes
void_zero = zeros_zero record_size

-- what bytes say is sized
pub record_sized : (l : List ℕ) → AreBytes l → SizedRecord (record_in l)
unfolding record_in
record_sized l f =
    record {
      number = word-at_below l 0 f;
      currency = word-at_below l 2 f;
      amount = word-at_below l 4 f;
      balance = word-at_below l 6 f;
      context = field_octets l 8 16 f;
      keyset = f 24;
    }

-- fields one after the other are one
field-join : (l : List ℕ) (at n m : ℕ) → field l at n ++ field l (at + n) m ≡ field l at (n + m)
field-join l at n m =
    field_is l (field l at n ++ field l (at + n) m) at (n + m) (rw (length-append, length-field l at n, length-field l (at + n) m))
    (λ i h. elim (dec_le n i) [ yes a ↦ second i h a | no a ↦ first i (lt_of_not-le a) ])
  where
    first : (i : ℕ) → i < n → byte_at (field l at n ++ field l (at + n) m) i ≡ byte_at l (at + i)
    first i h = get_or-append (field l at n) (field l (at + n) m) 0 i (rw length-field h) ∙ field_at l at n i h

    second : (i : ℕ) → i < n + m → n ≤ i → byte_at (field l at n ++ field l (at + n) m) i ≡ byte_at l (at + i)
    second i h a =
        let e : i ≡ length (field l at n) + (i - n) = rw length-field (omega arith) in
        let q : at + n + (i - n) ≡ at + i = omega arith in
        ap (byte_at (field l at n ++ field l (at + n) m)) e
        ∙ get_or-append-add (field l at n) (field l (at + n) m) (i - n) 0
        ∙ field_at l (at + n) m (i - n) (omega arith)
        ∙ ap (byte_at l) q

-- a number's two bytes, as they were read
two_bytes : (l : List ℕ) (at : ℕ) → AreBytes l → word (word_at l at) ≡ field l at 2
two_bytes l at f = field_is l (word (word_at l at)) at 2 refl go
  where
    go : (i : ℕ) → i < 2 → byte_at (word (word_at l at)) i ≡ byte_at l (at + i)
    go zero h = let b = f (at + 1) in rw add-zero (omega arith)
    go (suc zero) h = let b = f (at + 1) in omega arith
    go (suc (suc i)) h = absurd (omega arith)

-- the record that bytes say has these bytes
pub bytes_read : (l : List ℕ) → AreBytes l → record_bytes (record_in l) ≡ field l 0 record_size
unfolding record_bytes record_in
bytes_read l f =
    let one : byte_at l 24 ∷ [] ≡ field l 24 1 = field_is l (byte_at l 24 ∷ []) 24 1 refl (λ i h. let e : i ≡ 0 = omega arith in rw e) in
    let joined : field l 0 2 ++ field l 2 2 ++ field l 4 2 ++ field l 6 2 ++ field l 8 16 ++ field l 24 1 ≡ field l 0 25 =
    rw (field-join l 0 2 2, field-join l 0 4 2, field-join l 0 6 2, field-join l 0 8 16, field-join l 0 24 1)
    in
    (λ i. two_bytes l 0 f i ++ two_bytes l 2 f i ++ two_bytes l 4 f i ++ two_bytes l 6 f i ++ field l 8 16 ++ one i) ∙ joined

-- ---- three keys

pub keys_octets : (k : Keys) → SizedKeys k → Octets keys_size (key_bytes k)
unfolding key_bytes
keys_octets k z = append_octets (append_octets z.enc z.mac) z.dek

-- three strings of 16 bytes one after the other
pub keys-joined : (a b c : List ℕ) → length a ≡ 16 → length b ≡ 16 → length c ≡ 16 → keys_in (a ++ (b ++ c)) ≡ record { enc = a; mac = b; dek = c }
unfolding keys_in
keys-joined a b c p q r =
    let e : field (a ++ (b ++ c)) 0 16 ≡ a = field-between [] a (b ++ c) 0 16 refl p in
    let m : field (a ++ (b ++ c)) 16 16 ≡ b = field-between a b c 16 16 p q in
    let f : field (a ++ (b ++ c)) 32 16 ≡ c =
    ap (λ (l : List ℕ). field l 32 16) (sym (append_assoc a b c) ∙ ap (λ (l : List ℕ). a ++ b ++ l) (sym (append-nil c)))
    ∙ field-between (a ++ b) c [] 32 16 (rw length-append (omega arith)) r
    in
    λ i. record { enc = e i; mac = m i; dek = f i }

pub keys_read : (k : Keys) → SizedKeys k → keys_in (key_bytes k) ≡ k
unfolding key_bytes
keys_read k z =
    ap keys_in (append_assoc k.enc k.mac k.dek) ∙ keys-joined k.enc k.mac k.dek z.enc.size z.mac.size z.dek.size

pub keys-sized : (l : List ℕ) → AreBytes l → SizedKeys (keys_in l)
unfolding keys_in
keys-sized l f = record { enc = field_octets l 0 16 f; mac = field_octets l 16 16 f; dek = field_octets l 32 16 f }

-- "S-ENC, S-MAC, DEK, 16 each", by places: byte i of each key
pub record ThreeKeys (l : List ℕ) (k : Keys) : Type 0 where
  pub enc : (i : ℕ) → i < 16 → byte_at k.enc i ≡ byte_at l i
  pub mac : (i : ℕ) → i < 16 → byte_at k.mac i ≡ byte_at l (16 + i)
  pub dek : (i : ℕ) → i < 16 → byte_at k.dek i ≡ byte_at l (32 + i)

pub three_keys : (l : List ℕ) → ThreeKeys l (keys_in l)
unfolding keys_in
three_keys l =
    record { enc = λ i h. field_at l 0 16 i h ∙ ap (byte_at l) (zero-add i); mac = λ i h. field_at l 16 16 i h; dek = λ i h. field_at l 32 16 i h }
