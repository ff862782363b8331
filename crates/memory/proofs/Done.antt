-- A finished change reads as the changed card. Assumes nothing.
use mathlib.Core.Path.{◌≡◌, refl, sym, ap, ◌∙◌, subst}
use mathlib.Core.Bool.{Bool, true, false}
use mathlib.Core.List.{List, [], ◌∷◌}
use mathlib.Core.Option.{some}
use Rattle.std.specs.Prelude.{Option, Some, None, is_some, unwrap_or, option_map}
use Prim.Native.Nat.{ℕ, suc, ◌+◌, ◌-◌, ◌≤◌, ◌<◌}
use native.Mathlib.Omega.{arith}
use native.Mathlib.Decide.{dec_le}
use native.Mathlib.Nat.{lt_of_not-le}
use borrow.Author.Tests.{lt-ltb, le-ltb}
use lib.Dec.{ltb}
use lib.ListN.{length, get_or, take}
use Rattle.octets.specs.Choice.{pick}
use Rattle.octets.specs.Bytes.{byte_at, part}
use Rattle.stores.specs.Stores.{applied}
use Rattle.card.specs.declared.head.Head.{Head}
use Rattle.card.specs.declared.log.Record.{Record}
use Rattle.card.specs.declared.change.Change.{Change}
use Rattle.card.specs.Log.{record_size, void, record_bytes, record_in}
use Rattle.card.specs.Card.{Card}
use Rattle.card.specs.Updates.{with_state, with_purse, with_balance}
use Rattle.card.specs.Changes.{purse_after, head_after, log_after, changed}
use Rattle.card.specs.Proper.{log_ok, SizedRecord, SizedHead, Proper}
use Rattle.card.proofs.Bytes.{record_octets, record_read}
use Rattle.card.proofs.Logs.{log_proper}
use Rattle.memory.specs.Layout.{memory_size, magic, hot_at, cold_at, next_root, slot, slot_at}
use Rattle.memory.specs.Structs.{hot_size, hot_bytes, newest_in, filled_in, cold_size, cold_bytes, purse_in, head_of}
use Rattle.memory.specs.Reading.{root_of, fixed_of, hot_of, cold_of, size_in, head_in, record_at, log_in, read_card}
use Rattle.memory.specs.Changes.{spare, grown, newest_after, filled_after, hot_after, record_piece, Fills, plan}
use Rattle.memory.proofs.RoundTrip.{state_read, balance_read, cold-length, cold_read}
use Rattle.memory.proofs.Ring.{length-rows, rows_ext, rows_push, slot_in, slot_newest, slot_next}
use Rattle.memory.proofs.Seen.{Seen, view, log_of, head_seen, reads, read_is, seen_of}
use Rattle.memory.proofs.Cards.{head-is, log_is}
use Rattle.memory.proofs.Live.{next_root_small, hot_next, cold_next, Bounded, sound, after-length, after-magic, after_root, fixed_stays, cold_stays, slot_stays, hot_new, cold_new, slot_new}

-- ---- what a proper card says

module _ (x : Change) (c : Card) (p : Proper (changed x c)) where
  pub logged-sized : (r : Record) → x.logged ≡ Some r → SizedRecord r
  unfolding changed log_after
  logged-sized r e =
      let L = c.log in
      subst (λ (o : Option Record). (k : ℕ) → k < length (log_after o L) → SizedRecord (get_or (log_after o L) k void)) e p.each 0 (omega arith)

  after-sized : SizedHead (head_after x.cold x.head c.head)
  unfolding changed
  after-sized = p.sized

  cold_fills : x.cold ≡ true → length (cold_bytes x.head) ≡ cold_size
  unfolding head_after purse_after cold_bytes
  cold_fills e = cold-length (head_after true x.head c.head) (subst (λ (b : Bool). SizedHead (head_after b x.head c.head)) e after-sized)

-- the bytes of a change to a proper card fill their places
pub proper_fills : (x : Change) (c : Card) → Proper (changed x c) → Fills x
proper_fills x c p = record { logged = λ r e. (record_octets r (logged-sized x c p r e)).size; cold = cold_fills x c p }

-- one record more shows the records as they were, each one place later
grown-shows : (n g k : ℕ) → g ≤ n → suc k < n → ltb (suc k) (grown n g) ≡ ltb k g
grown-shows n g k h l = elim (dec_le n g) [ yes q ↦ full q | no q ↦ room (lt_of_not-le q) ]
  where
    full : n ≤ g → ltb (suc k) (grown n g) ≡ ltb k g
    full q = rw (le-ltb g n q, lt-ltb (suc k) g (omega arith), lt-ltb k g (omega arith))

    room : g < n → ltb (suc k) (grown n g) ≡ ltb k g
    room q =
        elim (dec_le g k) [
          | yes u ↦ rw (lt-ltb g n q, le-ltb (suc k) (g + 1) (omega arith), le-ltb k g u)
          | no u ↦ rw (lt-ltb g n q, lt-ltb (suc k) (g + 1) (omega (arith, lt_of_not-le u)), lt-ltb k g (lt_of_not-le u))
        ]

grown_some : (n g : ℕ) → 1 ≤ n → (0 < grown n g)
grown_some n g h = elim (dec_le n g) [ yes q ↦ rw (le-ltb g n q) (omega arith) | no q ↦ rw (lt-ltb g n (lt_of_not-le q)) (omega arith) ]

pub grown-most : (n g : ℕ) → g ≤ n → grown n g ≤ n
grown-most n g h = elim (dec_le n g) [ yes q ↦ rw (le-ltb g n q) h | no q ↦ rw (lt-ltb g n (lt_of_not-le q)) (omega (arith, lt_of_not-le q)) ]

-- ---- the run

module _ (x : Change) (m : List ℕ) (c : Card) (e : read_card m ≡ some c) (p : Proper (changed x c)) where
  w : Fills x
  w = proper_fills x c p

  f : Bounded m
  f = sound m c (reads m c e)

  abbrev r : ℕ
  r = root_of m

  abbrev n : ℕ
  n = size_in m

  abbrev g : ℕ
  g = filled_in (hot_of m)

  abbrev X : Head
  X = x.head

  abbrev m' : List ℕ
  m' = applied (plan x m) m

  -- H afterwards, with the newest slot and the number of records
  abbrev hot : Bool → List ℕ
  hot b = hot_bytes X.state (newest_after b m) (filled_after b m) X.purse.balance

  -- C afterwards
  abbrev cold : Bool → List ℕ
  cold b = pick b (cold_bytes X) (cold_of m)

  was_magic : byte_at m 0 ≡ magic
  unfolding view
  was_magic = (reads m c e).formed.magic

  was : head_of (fixed_of m) (hot_of m) (cold_of m) ≡ c.head
  unfolding head_in
  was = head-is m c e

  hot_live : part m' (hot_at (next_root x.cold r)) hot_size ≡ hot (is_some x.logged)
  unfolding hot_after
  hot_live = ap (λ (t : ℕ). part m' t hot_size) (hot_next x.cold r) ∙ hot_new m f x w

  cold_live : part m' (cold_at (next_root x.cold r)) cold_size ≡ cold x.cold
  cold_live = go x.cold refl
    where
      go : (b : Bool) → x.cold ≡ b → part m' (cold_at (next_root b r)) cold_size ≡ cold b
      go true q =
          let l : length (pick x.cold (cold_bytes X) []) ≡ cold_size = rw q (w.cold q) in
          cold_new m f x w l ∙ ap (λ (b : Bool). pick b (cold_bytes X) []) q
      go false q = ap (λ (t : ℕ). part m' t cold_size) (cold_next r) ∙ cold_stays m f x w

  -- ---- the head

  head-after : (b : Bool) → SizedHead (head_after b X c.head) → head_of (fixed_of m) (hot (is_some x.logged)) (cold b) ≡ head_after b X c.head
  unfolding head_of purse_in head_after purse_after with_state with_purse with_balance cold_bytes
  head-after true z =
      cold_read (head_after true X c.head) z (fixed_of m) (hot (is_some x.logged))
      ∙ (λ i. record {
        fixed = (was i).fixed;
        shared = X.shared;
        purse =
            record {
              aid = (was i).purse.aid;
              parameters = X.purse.parameters;
              debit = X.purse.debit;
              credit = X.purse.credit;
              balance = balance_read X.state (newest_after (is_some x.logged) m) (filled_after (is_some x.logged) m) X.purse.balance i;
            };
        pin = X.pin;
        state = state_read X.state (newest_after (is_some x.logged) m) (filled_after (is_some x.logged) m) X.purse.balance i;
      })
  head-after false z =
      λ i. record {
        fixed = (was i).fixed;
        shared = (was i).shared;
        purse =
            record {
              aid = (was i).purse.aid;
              parameters = (was i).purse.parameters;
              debit = (was i).purse.debit;
              credit = (was i).purse.credit;
              balance = balance_read X.state (newest_after (is_some x.logged) m) (filled_after (is_some x.logged) m) X.purse.balance i;
            };
        pin = (was i).pin;
        state = state_read X.state (newest_after (is_some x.logged) m) (filled_after (is_some x.logged) m) X.purse.balance i;
      }

  -- ---- the log

  -- the records stay, with the newest slot and their number
  log_stays : log_of m' (fixed_of m) (hot false) ≡ c.log
  unfolding log_in record_at hot_bytes
  log_stays =
      rows_ext n _ _ (λ k q. ap (λ (t : List ℕ). pick (ltb k g) (record_in t) void) (slot_stays m f x w k q))
      ∙ log_is m c e

  was_long : n ≡ length c.log
  unfolding log_in
  was_long = sym (length-rows n (record_at m)) ∙ ap length (log_is m c e)

  -- the new record, then those before it but the oldest
  log_grows : (y : Record) → x.logged ≡ Some y → log_of m' (fixed_of m) (hot true) ≡ y ∷ take (length c.log - 1) c.log
  unfolding log_in record_at hot_bytes
  log_grows y q =
      let P : Option Record → List ℕ = λ o. unwrap_or (option_map record_bytes o) [] in
      let l : length (record_piece x) ≡ record_size = ap (λ (o : Option Record). length (P o)) q ∙ w.logged y q in
      let first : record_in (part m' (slot_at (slot n (spare m) 0)) record_size) ≡ y =
      ap (λ (j : ℕ). record_in (part m' (slot_at j) record_size)) (slot_newest n (spare m))
      ∙ ap record_in (slot_new m f x w l ∙ ap P q)
      ∙ record_read y (logged-sized x c p y q)
      in
      rows_push n (record_at m) (λ k. pick (ltb k (grown n g)) (record_in (part m' (slot_at (slot n (spare m) k)) record_size)) void) y f.some
      (rw (lt-ltb 0 (grown n g) (grown_some n g f.some)) first)
      (λ k u.
      ap (λ (b : Bool). pick b (record_in (part m' (slot_at (slot n (spare m) (suc k))) record_size)) void) (grown-shows n g k f.filled u)
      ∙ ap (λ (j : ℕ). pick (ltb k g) (record_in (part m' (slot_at j) record_size)) void) (slot_next n (newest_in (hot_of m)) k f.newest (omega arith))
      ∙ ap (λ (t : List ℕ). pick (ltb k g) (record_in t) void) (slot_stays m f x w k (omega arith)))
      ∙ (λ i. y ∷ take (was_long i - 1) (log_is m c e i))

  log-after : (o : Option Record) → x.logged ≡ o → log_of m' (fixed_of m) (hot (is_some o)) ≡ log_after o c.log
  unfolding log_after
  log-after (Some y) q = log_grows y q
  log-after None q = log_stays

  -- ---- the whole

  newest_after_lem : (b : Bool) → newest_in (hot b) ≤ n
  unfolding hot_bytes
  newest_after_lem true = slot_in n (newest_in (hot_of m)) n f.newest (omega arith)
  newest_after_lem false = f.newest

  filled_after_lem : (b : Bool) → filled_in (hot b) ≤ n
  unfolding hot_bytes
  filled_after_lem true = grown-most n g f.filled
  filled_after_lem false = f.filled

  reads_changed : read_card (applied (plan x m) m) ≡ some (changed x c)
  unfolding changed
  reads_changed =
      let s : Seen =
      record {
        size = memory_size;
        magic = magic;
        root = next_root x.cold r;
        fixed = fixed_of m;
        hot = hot (is_some x.logged);
        cold = cold x.cold;
        log = log_of m' (fixed_of m) (hot (is_some x.logged));
      }
      in
      let h : head_seen s ≡ (changed x c).head = head-after x.cold p.sized in
      let l : s.log ≡ (changed x c).log = log-after x.logged refl in
      read_is m' s (changed x c)
      (seen_of m' s (after-length m f x w) (after-magic m f x w ∙ was_magic) (after_root m f x w) (fixed_stays m f x w) hot_live cold_live refl)
      (record {
        size = refl;
        magic = refl;
        root = next_root_small x.cold r;
        newest = newest_after_lem (is_some x.logged);
        filled = filled_after_lem (is_some x.logged);
        log = (λ i. log_ok (h i).purse.parameters.personalized (l i)) ∙ log_proper (changed x c) p;
      })
      h l p.tests

-- a finished change reads as the changed card, where that is proper
pub change_done : (x : Change) (m : List ℕ) (c : Card) → read_card m ≡ some c → Proper (changed x c)
    → read_card (applied (plan x m) m) ≡ some (changed x c)
change_done x m c e p = reads_changed x m c e p
