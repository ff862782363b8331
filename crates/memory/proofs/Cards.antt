-- Which memories read as a card, and as which: only proper cards are read, and memory without the magic byte, or with that of an older
-- layout, is none. Assumes nothing.
use mathlib.Core.Path.{◌≡◌, refl, sym, ap, ◌∙◌, subst}
use mathlib.Core.Bool.{Bool, true, false, false≢true}
use mathlib.Core.List.{List, ◌++◌}
use mathlib.Core.Logic.{◌≢◌, ◌⊎◌, inl, inr}
use mathlib.Core.Option.{none, some}
use Prim.Native.Nat.{ℕ, zero, suc, ◌<◌}
use native.Mathlib.Omega.{arith}
use borrow.Author.Tests.{ne_eqb}
use lib.Dec.{ltb, eqb}
use lib.ListN.{length, get_or, get_or-replicate}
use Rattle.octets.specs.Choice.{pick}
use Rattle.octets.specs.Tests.{all_true}
use Rattle.octets.specs.Bytes.{AreBytes, zeros, byte_at, part}
use Rattle.octets.proofs.Rules.{and_left, and_right}
use Rattle.octets.proofs.Ranges.{part_bytes}
use Rattle.card.specs.declared.log.Record.{Record}
use Rattle.card.specs.Log.{record_size, void, record_in}
use Rattle.card.specs.Card.{Card}
use Rattle.card.specs.Proper.{proper_tests, log_ok, SizedHead, SizedRecord, HasKeySet, Proper}
use Rattle.card.proofs.Bytes.{record_sized}
use Rattle.card.proofs.FreshCard.{void-sized}
use Rattle.card.proofs.Logs.{Entry, log_told}
use Rattle.memory.specs.Layout.{memory_size, magic, older_magics, fixed_at, cold_at, slot, slot_at}
use Rattle.memory.specs.Structs.{fixed_size, newest_in, filled_in, cold_size, head_of}
use Rattle.memory.specs.Reading.{root_of, fixed_of, hot_of, cold_of, head_in, size_in, record_at, log_in, formed_tests, readable, read_card}
use Rattle.memory.proofs.RoundTrip.{head-sized}
use Rattle.memory.proofs.Ring.{length-rows, row_at}
use Rattle.memory.proofs.Seen.{view, reads}

-- ---- readable memory

pub readable_read : (m : List ℕ) → readable m ≡ true → read_card m ≡ some (record { head = head_in m; log = log_in m })
unfolding read_card
readable_read m e = rw e

pub read_readable : (m : List ℕ) (c : Card) → read_card m ≡ some c → readable m ≡ true
unfolding read_card
read_readable m c e = go (readable m) refl e
  where
    go : (b : Bool) → readable m ≡ b → pick b (some (record { head = head_in m; log = log_in m })) none ≡ some c → readable m ≡ true
    go true q h = q
    go false q h = absurd (let z : ◌≡◌ {A = ℕ} 0 1 = cc in omega arith)

-- ---- no card

-- memory that starts with another byte
pub read_none : (m : List ℕ) → byte_at m 0 ≢ magic → read_card m ≡ none
unfolding read_card readable formed_tests
read_none m e =
    let z : eqb (byte_at m 0) magic ≡ false = ne_eqb (byte_at m 0) magic e in
    let t : all_true (formed_tests m ++ proper_tests (head_in m)) ≡ false = and_right (eqb (length m) memory_size) _ (and_left _ _ z) in
    rw t

-- memory of zeros is no card
pub read_blank : read_card (zeros memory_size) ≡ none
read_blank = read_none (zeros memory_size) (λ e. let z : byte_at (zeros memory_size) 0 ≡ 0 = get_or-replicate memory_size 0 0 0 (omega arith) in omega arith)

-- no older layout has this one's magic
pub magic_new : (i : ℕ) → i < length older_magics → get_or older_magics i 0 ≢ magic
magic_new zero h e = omega arith
magic_new (suc i) h e = omega arith

-- "Memory written before this change is read as no card"
pub read_older : (m : List ℕ) (i : ℕ) → i < length older_magics → byte_at m 0 ≡ get_or older_magics i 0 → read_card m ≡ none
read_older m i h e = read_none m (λ q. magic_new i h (sym e ∙ q))

-- ---- only proper cards

row_sized : (m : List ℕ) (k : ℕ) → AreBytes m → SizedRecord (record_at m k)
unfolding record_at
row_sized m k f = go (slot_at (slot (size_in m) (newest_in (hot_of m)) k)) (ltb k (filled_in (hot_of m)))
  where
    go : (at : ℕ) (b : Bool) → SizedRecord (pick b (record_in (part m at record_size)) void)
    go at true = record_sized (part m at record_size) (part_bytes m at record_size f)
    go at false = void-sized

-- an entry of a card that isn't personalized is void, of any card void or with a key set
entry_void : (b : Bool) (r : Record) → Entry b r → b ≡ false → r ≡ void
entry_void b r (inl e) n = e
entry_void b r (inr h) n = absurd (false≢true (sym n ∙ h.0))

entry_keyset : (b : Bool) (r : Record) → Entry b r → (r ≡ void) ⊎ HasKeySet r
entry_keyset b r (inl e) = inl e
entry_keyset b r (inr h) = inr h.1

module _ (m : List ℕ) (c : Card) (e : read_card m ≡ some c) where
  pub head-is : head_in m ≡ c.head
  unfolding view head_in
  head-is = (reads m c e).head

  pub log_is : log_in m ≡ c.log
  unfolding view
  log_is = (reads m c e).log

  pub log-long : length c.log ≡ c.head.fixed.logsize
  unfolding log_in head_in head_of
  log-long = ap length (sym log_is) ∙ length-rows (size_in m) (record_at m) ∙ ap (λ (h : _). h.fixed.logsize) head-is

  module _ (f : AreBytes m) where
    log-sized : (k : ℕ) → k < length c.log → SizedRecord (get_or c.log k void)
    unfolding log_in
    log-sized k q =
        let l : length (log_in m) ≡ length c.log = ap length log_is in
        let n : length (log_in m) ≡ size_in m = length-rows (size_in m) (record_at m) in
        let g : get_or (log_in m) k void ≡ get_or c.log k void = ap (λ (x : List Record). get_or x k void) log_is in
        let r : get_or (log_in m) k void ≡ record_at m k = row_at (size_in m) k (record_at m) void (omega arith) in
        subst SizedRecord (sym r ∙ g) (row_sized m k f)

    log_entry : (k : ℕ) → Entry c.head.purse.parameters.personalized (get_or c.log k void)
    unfolding view head_in
    log_entry =
        let t : log_ok c.head.purse.parameters.personalized c.log ≡ true =
        sym (λ i. log_ok (head-is i).purse.parameters.personalized (log_is i)) ∙ (reads m c e).formed.log in
        log_told c.head.purse.parameters.personalized c.log log-sized t

    whole-sized : SizedHead (head_in m)
    unfolding head_in
    whole-sized = head-sized (fixed_of m) (hot_of m) (cold_of m) (part_bytes m fixed_at fixed_size f) (part_bytes m (cold_at (root_of m)) cold_size f)

    proper_read : Proper c
    proper_read =
        record {
          sized = subst SizedHead head-is whole-sized;
          tests = (reads m c e).tests;
          records = log-long;
          each = log-sized;
          unused = λ q k. entry_void _ _ (log_entry k) q;
          keysets = λ k. entry_keyset _ _ (log_entry k);
        }

-- only proper cards are read
pub read_proper : (m : List ℕ) (c : Card) → AreBytes m → read_card m ≡ some c → Proper c
read_proper m c f e = proper_read m c e f
