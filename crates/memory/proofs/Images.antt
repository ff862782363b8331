-- A whole card put into memory, and that every proper card has a memory that reads as it. Assumes nothing.
use mathlib.Core.Path.{◌≡◌, refl, sym, ap, ◌∙◌, subst}
use mathlib.Core.Logic.{◌≢◌}
use mathlib.Core.List.{List, [], ◌∷◌, ◌++◌, append_assoc}
use mathlib.Core.Option.{some}
use Prim.Native.Nat.{ℕ, suc, ◌+◌, ◌-◌, ◌*◌, ◌≤◌, ◌<◌}
use native.Mathlib.Omega.{arith}
use native.Mathlib.Decide.{dec_le}
use native.Mathlib.Nat.{lt_of_not-le}
use borrow.Author.Tests.{lt-ltb}
use lib.Dec.{ltb}
use lib.ListN.{length, get_or, set, length-set, length-replicate, get_or-eq_default}
use lib.Seq.{get_or-set_same}
use Rattle.octets.specs.Choice.{pick}
use Rattle.octets.specs.Bytes.{zeros, byte_at, part}
use Rattle.octets.proofs.Parts.{part-part}
use Rattle.stores.specs.Stores.{Store, applied, writes, Out, OnlyAt}
use Rattle.stores.proofs.Plans.{applied-length, applied-append, only-append, only-writes}
use Rattle.stores.proofs.Parts.{byte_applied}
use Rattle.card.specs.Log.{record_size, void, record_bytes, record_in}
use Rattle.card.specs.Card.{Card}
use Rattle.card.specs.Proper.{log_ok, SizedRecord, Proper}
use Rattle.card.proofs.Bytes.{record_octets, record_read}
use Rattle.card.proofs.FreshCard.{void-sized}
use Rattle.card.proofs.Logs.{log_proper}
use Rattle.card.proofs.Ranges.{Size, size_range}
use Rattle.memory.specs.Layout.{memory_size, magic, fixed_at, hot_at, cold_at, ring_at, slot, slot_at}
use Rattle.memory.specs.Structs.{fixed_size, fixed_bytes, hot_size, hot_bytes, cold_size, cold_bytes}
use Rattle.memory.specs.Reading.{root_of, fixed_of, rows, read_card}
use Rattle.memory.specs.Changes.{root_store, image_plan, head_plan, slot_bytes, image}
use Rattle.memory.proofs.RoundTrip.{fixed_length, fixed_read, hot_length, newest_read, filled_read, cold-length, head_read}
use Rattle.memory.proofs.Ring.{slot_last, rows_ext, rows_list, joined_length, joined_at}
use Rattle.memory.proofs.Seen.{Seen, view, size_of, log_of, head_seen, read_is, seen_of}
use Rattle.memory.proofs.Live.{written}

-- ---- the plan of a whole card, its blocks of their sizes and a ring of at most 51 slots

module _ (fixed hot cold slots m : List ℕ) (fl : length fixed ≡ fixed_size) (hl : length hot ≡ hot_size) (cl : length cold ≡ cold_size)
    (sl : length slots ≤ record_size * 51) (size : length m ≡ memory_size) where
  abbrev A : List Store
  A = record { at = 0; value = 0 } ∷ root_store 0

  abbrev F : List Store
  F = writes fixed_at fixed

  abbrev H : List Store
  H = writes (hot_at 0) hot

  abbrev C : List Store
  C = writes (cold_at 0) cold

  abbrev S : List Store
  S = writes ring_at slots

  abbrev E : List Store
  E = record { at = 0; value = magic } ∷ []

  abbrev m' : List ℕ
  m' = applied (image_plan fixed hot cold slots) m

  -- the plan by its parts
  at_slots : image_plan fixed hot cold slots ≡ A ++ F ++ H ++ C ++ S ++ E
  unfolding image_plan
  at_slots = refl

  at-cold : image_plan fixed hot cold slots ≡ A ++ F ++ H ++ C ++ (S ++ E)
  at-cold = at_slots ∙ append_assoc (A ++ F ++ H ++ C) S E

  at_hot : image_plan fixed hot cold slots ≡ A ++ F ++ H ++ (C ++ (S ++ E))
  at_hot = at-cold ∙ append_assoc (A ++ F ++ H) C (S ++ E)

  at_fixed : image_plan fixed hot cold slots ≡ A ++ F ++ (H ++ (C ++ (S ++ E)))
  at_fixed = at_hot ∙ append_assoc (A ++ F) H (C ++ (S ++ E))

  at_root : image_plan fixed hot cold slots ≡ A ++ (F ++ (H ++ (C ++ (S ++ E))))
  at_root = at_fixed ∙ append_assoc A F (H ++ (C ++ (S ++ E)))

  -- a property of every address of the later parts
  from_slots : (P : ℕ → Type 0) → ((i : ℕ) → ring_at ≤ i → i < ring_at + record_size * 51 → P i) → P 0 → OnlyAt P (S ++ E)
  from_slots P a z = only-append P S E (only-writes P ring_at slots (λ i p q. a i p (omega arith))) (z, tt)

  from_cold : (P : ℕ → Type 0) → ((i : ℕ) → cold_at 0 ≤ i → i < ring_at + record_size * 51 → P i) → P 0 → OnlyAt P (C ++ (S ++ E))
  from_cold P a z =
      only-append P C (S ++ E) (only-writes P (cold_at 0) cold (λ i p q. a i p (omega arith))) (from_slots P (λ i p q. a i (omega arith) q) z)

  from_hot : (P : ℕ → Type 0) → ((i : ℕ) → hot_at 0 ≤ i → i < ring_at + record_size * 51 → P i) → P 0 → OnlyAt P (H ++ (C ++ (S ++ E)))
  from_hot P a z =
      only-append P H (C ++ (S ++ E)) (only-writes P (hot_at 0) hot (λ i p q. a i p (omega arith))) (from_cold P (λ i p q. a i (omega arith) q) z)

  from_fixed : (P : ℕ → Type 0) → ((i : ℕ) → fixed_at ≤ i → i < ring_at + record_size * 51 → P i) → P 0 → OnlyAt P (F ++ (H ++ (C ++ (S ++ E))))
  from_fixed P a z =
      only-append P F (H ++ (C ++ (S ++ E))) (only-writes P fixed_at fixed (λ i p q. a i p (omega arith)))
      (from_hot P (λ i p q. a i (omega arith) q) z)

  -- what is read afterwards
  got-length : length m' ≡ memory_size
  got-length = applied-length (image_plan fixed hot cold slots) m ∙ size

  got-magic : byte_at m' 0 ≡ magic
  unfolding applied
  got-magic =
      let l : 0 < length (applied (A ++ F ++ H ++ C ++ S) m) = omega (arith, applied-length (A ++ F ++ H ++ C ++ S) m) in
      ap (λ (p : List Store). byte_at (applied p m) 0) at_slots
      ∙ ap (λ (t : List ℕ). byte_at t 0) (applied-append (A ++ F ++ H ++ C ++ S) E m)
      ∙ get_or-set_same (applied (A ++ F ++ H ++ C ++ S) m) 0 magic 0 l

  got_root : root_of m' ≡ 0
  unfolding applied
  got_root =
      let q = F ++ (H ++ (C ++ (S ++ E))) in
      ap (λ (p : List Store). root_of (applied p m)) at_root
      ∙ ap root_of (applied-append A q m)
      ∙ byte_applied q (applied A m) 1 (from_fixed (λ a. 1 ≢ a) (λ i a b. omega arith) (omega arith))
      ∙ get_or-set_same (set m 0 0) 1 0 0 (omega (arith, length-set m 0 0))

  got_fixed : fixed_of m' ≡ fixed
  got_fixed =
      ap (λ (p : List Store). fixed_of (applied p m)) at_fixed
      ∙ written A (H ++ (C ++ (S ++ E))) fixed_at fixed_size fixed m fl (omega arith) (from_hot (Out fixed_at fixed_size) (λ i a b. omega arith) (omega arith))

  got_hot : part m' (hot_at 0) hot_size ≡ hot
  got_hot =
      ap (λ (p : List Store). part (applied p m) (hot_at 0) hot_size) at_hot
      ∙ written (A ++ F) (C ++ (S ++ E)) (hot_at 0) hot_size hot m hl (omega arith) (from_cold (Out (hot_at 0) hot_size) (λ i a b. omega arith) (omega arith))

  got-cold : part m' (cold_at 0) cold_size ≡ cold
  got-cold =
      ap (λ (p : List Store). part (applied p m) (cold_at 0) cold_size) at-cold
      ∙ written (A ++ F ++ H) (S ++ E) (cold_at 0) cold_size cold m cl (omega arith) (from_slots (Out (cold_at 0) cold_size) (λ i a b. omega arith) (omega arith))

  got_slots : part m' ring_at (length slots) ≡ slots
  got_slots =
      ap (λ (p : List Store). part (applied p m) ring_at (length slots)) at_slots
      ∙ written (A ++ F ++ H ++ C) E ring_at (length slots) slots m refl (omega arith) (omega arith, tt)

  -- one record of the ring
  pub got_record : (j : ℕ) → record_size * j + record_size ≤ length slots → part m' (slot_at j) record_size ≡ part slots (record_size * j) record_size
  got_record j q =
      sym (part-part m' ring_at (length slots) (record_size * j) record_size q)
      ∙ ap (λ (t : List ℕ). part t (record_size * j) record_size) got_slots

  pub image_view : view m' ≡ record { size = memory_size; magic = magic; root = 0; fixed = fixed; hot = hot; cold = cold; log = log_of m' fixed hot }
  image_view =
      seen_of m' (record { size = memory_size; magic = magic; root = 0; fixed = fixed; hot = hot; cold = cold; log = log_of m' fixed hot })
      got-length got-magic got_root got_fixed got_hot got-cold refl

-- ---- a proper card's blocks

module _ (c : Card) (p : Proper c) (newest filled : ℕ) (slots m : List ℕ) (sl : length slots ≤ record_size * 51) (size : length m ≡ memory_size) where
  abbrev fx : List ℕ
  fx = fixed_bytes c.head.purse.aid c.head.fixed

  abbrev ht : List ℕ
  ht = hot_bytes c.head.state newest filled c.head.purse.balance

  abbrev cd : List ℕ
  cd = cold_bytes c.head

  fx_length : length fx ≡ fixed_size
  fx_length = fixed_length c.head.purse.aid c.head.fixed p.sized.purse.aid.size

  ht_length : length ht ≡ hot_size
  ht_length = hot_length c.head.state newest filled c.head.purse.balance

  pub size_is : size_of fx ≡ c.head.fixed.logsize
  size_is = ap (λ (f : _). f.logsize) (fixed_read c.head.purse.aid c.head.fixed p.sized.purse.aid.size)

  -- a record of the ring
  pub image_record : (j : ℕ) → record_size * j + record_size ≤ length slots
      → part (applied (head_plan c.head newest filled slots) m) (slot_at j) record_size ≡ part slots (record_size * j) record_size
  unfolding head_plan
  image_record j q = got_record fx ht cd slots m fx_length ht_length (cold-length c.head p.sized) sl size j q

  -- read as the card, where the ring shows its log
  pub image_reads : newest ≤ c.head.fixed.logsize → filled ≤ c.head.fixed.logsize
      → log_of (applied (head_plan c.head newest filled slots) m) fx ht ≡ c.log
      → read_card (applied (head_plan c.head newest filled slots) m) ≡ some c
  unfolding head_plan
  image_reads a b l =
      let m' = applied (image_plan fx ht cd slots) m in
      let s : Seen = record { size = memory_size; magic = magic; root = 0; fixed = fx; hot = ht; cold = cd; log = log_of m' fx ht } in
      let h : head_seen s ≡ c.head = head_read c.head p.sized newest filled in
      read_is m' s c (image_view fx ht cd slots m fx_length ht_length (cold-length c.head p.sized) sl size)
      (record {
        size = refl;
        magic = refl;
        root = omega arith;
        newest = rw (newest_read, size_is) a;
        filled = rw (filled_read, size_is) b;
        log = (λ i. log_ok (h i).purse.parameters.personalized (l i)) ∙ log_proper c p;
      })
      h l p.tests

-- ---- every proper card has a memory

module _ (c : Card) (p : Proper c) where
  abbrev n : ℕ
  n = c.head.fixed.logsize

  range : Size n
  range = size_range c.head p.tests

  row_sized : (k : ℕ) → SizedRecord (get_or c.log k void)
  row_sized k =
      elim (dec_le (length c.log) k) [
        | yes q ↦ subst SizedRecord (sym (get_or-eq_default c.log void q)) void-sized
        | no q ↦ p.each k (lt_of_not-le q)
      ]

  abbrev slotted : ℕ → List ℕ
  slotted j = record_bytes (get_or c.log (n - j) void)

  slotted_length : (j : ℕ) → j < suc n → length (slotted j) ≡ record_size
  slotted_length j q = (record_octets (get_or c.log (n - j) void) (row_sized (n - j))).size

  slots_length : length (slot_bytes n c.log) ≡ record_size * suc n
  unfolding slot_bytes
  slots_length = joined_length (suc n) slotted slotted_length

  slots_at : (k : ℕ) → k < n → part (slot_bytes n c.log) (record_size * (n - k)) record_size ≡ record_bytes (get_or c.log k void)
  unfolding slot_bytes
  slots_at k q =
      let e : n - (n - k) ≡ k = omega arith in
      joined_at (suc n) (n - k) slotted slotted_length (omega arith)
      ∙ ap (λ (j : ℕ). record_bytes (get_or c.log j void)) e

  module _ (m : List ℕ) (size : length m ≡ memory_size) where
    slots_few : length (slot_bytes n c.log) ≤ record_size * 51
    slots_few = let r = range.most in let l = slots_length in omega arith

    abbrev m'' : List ℕ
    m'' = applied (head_plan c.head n n (slot_bytes n c.log)) m

    shown : (k : ℕ) → k < n → pick (ltb k n) (record_in (part m'' (slot_at (slot n n k)) record_size)) void ≡ get_or c.log k void
    shown k q =
        rw (lt-ltb k n q, slot_last n k (omega arith))
        (ap record_in (image_record c p n n (slot_bytes n c.log) m slots_few size (n - k) (let l = slots_length in omega arith) ∙ slots_at k q)
        ∙ record_read (get_or c.log k void) (row_sized k))

    image-log : log_of m'' (fixed_bytes c.head.purse.aid c.head.fixed) (hot_bytes c.head.state n n c.head.purse.balance) ≡ c.log
    unfolding hot_bytes
    image-log =
        ap (λ (s : ℕ). rows s (λ k. pick (ltb k n) (record_in (part m'' (slot_at (slot s n k)) record_size)) void))
        (size_is c p n n (slot_bytes n c.log) m slots_few size)
        ∙ rows_ext n (λ k. pick (ltb k n) (record_in (part m'' (slot_at (slot n n k)) record_size)) void) (λ k. get_or c.log k void) shown
        ∙ rows_list n c.log void p.records

    image_of : read_card m'' ≡ some c
    image_of = image_reads c p n n (slot_bytes n c.log) m slots_few size (omega arith) (omega arith) image-log

-- every proper card has a memory that reads as it
pub read_image : (c : Card) → Proper c → read_card (image c) ≡ some c
unfolding image
read_image c p = image_of c p (zeros memory_size) (length-replicate {A = ℕ} memory_size 0)
