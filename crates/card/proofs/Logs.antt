-- Which logs a card may have, record by record: each is void or, on a personalized card, has a key set from 01 to 03. Assumes nothing.
use mathlib.Core.Bool.{Bool, true, false, ◌&&◌, ◌||◌}
use mathlib.Core.List.{List, [], ◌∷◌}
use mathlib.Core.Logic.{◌⊎◌, inl, inr}
use mathlib.Core.Path.{◌≡◌, refl, ap, ◌∙◌}
use Prim.Native.Nat.{ℕ, zero, suc, ◌<◌}
use native.Mathlib.Omega.{arith}
use borrow.Author.Tests.{leb-true, le-leb}
use lib.Dec.{leb}
use lib.ListN.{length, get_or}
use Rattle.octets.specs.Bytes.{AreBytes, byte_at, all_zero, field}
use Rattle.octets.specs.Tests.{all_true}
use Rattle.octets.proofs.Conditions.{and_both, each, all_true_lem}
use Rattle.octets.proofs.Rules.{and_yes, or_left, or_right}
use Rattle.card.specs.declared.log.Record.{Record}
use Rattle.card.specs.Log.{record_size, void, record_bytes, record_in}
use Rattle.card.specs.Card.{Card}
use Rattle.card.specs.Proper.{record_ok, log_ok, SizedRecord, HasKeySet, Proper}
use Rattle.card.proofs.Bytes.{void_read, void_zero, bytes_read}

-- void, or of a personalized card and with a key set
abbrev pub Entry : Bool → Record → Type 0
Entry personalized r = (r ≡ void) ⊎ ((personalized ≡ true) × HasKeySet r)

or_false : (a : Bool) → (a || false) ≡ a
or_false true = refl
or_false false = refl

-- ---- a record

pub record_told : (b : Bool) (r : Record) → SizedRecord r → record_ok b r ≡ true → Entry b r
unfolding record_ok
record_told b r z e = go (all_zero (record_bytes r)) refl e
  where
    go : (x : Bool) → all_zero (record_bytes r) ≡ x → (x || all_true (b ∷ leb 1 r.keyset ∷ leb r.keyset 3 ∷ [])) ≡ true → Entry b r
    go true q h = inl (void_read r z q)
    go false q h =
        let t = each (b ∷ leb 1 r.keyset ∷ leb r.keyset 3 ∷ []) h in
        inr (t.0, record { least = leb-true _ _ t.1.0; most = leb-true _ _ t.1.1.0 })

pub record_passes : (b : Bool) (r : Record) → Entry b r → record_ok b r ≡ true
unfolding record_ok
record_passes b r (inl e) = or_left _ _ (ap (λ (x : Record). all_zero (record_bytes x)) e ∙ void_zero)
record_passes b r (inr h) =
    or_right (all_zero (record_bytes r)) _
    (all_true_lem (b ∷ leb 1 r.keyset ∷ leb r.keyset 3 ∷ []) (h.0, (le-leb _ _ h.1.least, (le-leb _ _ h.1.most, tt))))

-- the same of bytes, the key set first
pub ok_by : (b : Bool) (s : List ℕ) → AreBytes s
    → record_ok b (record_in s) ≡ (b && leb 1 (byte_at s 24) && leb (byte_at s 24) 3 || all_zero (field s 0 record_size))
unfolding record_ok record_in
ok_by b s f = rw (← bytes_read s f) (swap (all_zero (record_bytes (record_in s))) b (leb 1 (byte_at s 24)) (leb (byte_at s 24) 3))
  where
    swap : (z b c d : Bool) → (z || all_true (b ∷ c ∷ d ∷ [])) ≡ (b && c && d || z)
    swap true true true true = refl
    swap true true true false = refl
    swap true true false d = refl
    swap true false c d = refl
    swap false true true true = refl
    swap false true true false = refl
    swap false true false d = refl
    swap false false c d = refl

-- ---- a log

pub log_told : (b : Bool) (log : List Record) → ((k : ℕ) → k < length log → SizedRecord (get_or log k void)) → log_ok b log ≡ true
    → (k : ℕ) → Entry b (get_or log k void)
unfolding log_ok
log_told b [] z e k = inl refl
log_told b (r ∷ log) z e zero = record_told b r (z 0 (omega arith)) (and_both (record_ok b r) (log_ok b log) e).0
log_told b (r ∷ log) z e (suc k) = log_told b log (λ j q. z (suc j) (omega arith)) (and_both (record_ok b r) (log_ok b log) e).1 k

pub log-passes : (b : Bool) (log : List Record) → ((k : ℕ) → Entry b (get_or log k void)) → log_ok b log ≡ true
unfolding log_ok
log-passes b [] f = refl
log-passes b (r ∷ log) f = and_yes _ _ (record_passes b r (f 0)) (log-passes b log (λ k. f (suc k)))

-- a proper card's
pub log_proper : (c : Card) → Proper c → log_ok c.head.purse.parameters.personalized c.log ≡ true
log_proper c p = log-passes c.head.purse.parameters.personalized c.log (λ k. go c.head.purse.parameters.personalized refl k (p.keysets k))
  where
    go : (b : Bool) → c.head.purse.parameters.personalized ≡ b → (k : ℕ)
        → (get_or c.log k void ≡ void) ⊎ HasKeySet (get_or c.log k void) → Entry b (get_or c.log k void)
    go b e k (inl v) = inl v
    go true e k (inr h) = inr (refl, h)
    go false e k (inr h) = inl (p.unused e k)
