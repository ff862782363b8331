-- Records and changes in other words: a record's bytes by their places, the log after a record by its places, and what a change of block H alone
-- leaves as it was. Assumes nothing.
use mathlib.Core.Path.{◌≡◌, refl}
use mathlib.Core.Bool.{true, false}
use Rattle.std.specs.Prelude.{Some}
use mathlib.Core.List.{List, [], ◌∷◌}
use Prim.Native.Nat.{ℕ, suc, ◌-◌, ◌<◌}
use native.Mathlib.Omega.{arith}
use lib.ListN.{length, get_or, take, drop}
use lib.Seq.{get_or-take, length-take-le, take_at, drop_at}
use Rattle.octets.specs.Words.{word_at}
use Rattle.octets.proofs.Numbers.{word_read}
use Rattle.card.specs.declared.head.Head.{Head}
use Rattle.card.specs.declared.log.Record.{Record}
use Rattle.card.specs.Log.{void, record_bytes}
use Rattle.card.specs.Updates.{with_state, with_balance, with_purse}
use Rattle.card.specs.Changes.{purse_after, head_after, log_after}

-- "transaction number, currency, amount (signed, a debit negative), new balance, 16 context bytes", and "then one byte with the key set",
-- by places
pub record ByPlaces (r : Record) (l : List ℕ) : Type 0 where
  pub number : word_at l 0 ≡ r.number
  pub currency : word_at l 2 ≡ r.currency
  pub amount : word_at l 4 ≡ r.amount
  pub balance : word_at l 6 ≡ r.balance
  pub context : take 16 (drop 8 l) ≡ r.context
  pub keyset : drop 24 l ≡ r.keyset ∷ []

pub record_places : (r : Record) → length r.context ≡ 16 → ByPlaces r (record_bytes r)
unfolding record_bytes
record_places r n =
    record {
      number = word_read r.number;
      currency = word_read r.currency;
      amount = word_read r.amount;
      balance = word_read r.balance;
      context = take_at r.context (r.keyset ∷ []) 16 n;
      keyset = drop_at r.context (r.keyset ∷ []) 16 n;
    }

-- "Record 1 is the newest; the oldest gives way", of a log that has a record at all
pub record Pushed (r : Record) (log next : List Record) : Type 0 where
  pub long : length next ≡ length log
  pub newest : get_or next 0 void ≡ r
  pub older : (i : ℕ) → suc i < length log → get_or next (suc i) void ≡ get_or log i void

pub log_pushed : (r : Record) (log : List Record) → 0 < length log → Pushed r log (log_after (Some r) log)
unfolding log_after
log_pushed r log h =
    record {
      long = let e = length-take-le (length log - 1) log (omega arith) in omega arith;
      newest = refl;
      older = λ i q. get_or-take (length log - 1) log i void (omega arith);
    }

-- a change of block H alone: number, tries and balance are new, all else as before
pub record HotOnly (x h next : Head) : Type 0 where
  pub number : next.state.number ≡ x.state.number
  pub tries : next.state.tries ≡ x.state.tries
  pub balance : next.purse.balance ≡ x.purse.balance
  pub fixed : next.fixed ≡ h.fixed
  pub shared : next.shared ≡ h.shared
  pub pin : next.pin ≡ h.pin
  pub aid : next.purse.aid ≡ h.purse.aid
  pub parameters : next.purse.parameters ≡ h.purse.parameters
  pub debit : next.purse.debit ≡ h.purse.debit
  pub credit : next.purse.credit ≡ h.purse.credit

pub hot_only : (x h : Head) → HotOnly x h (head_after false x h)
unfolding head_after with_state with_balance with_purse
hot_only x h =
    record {
      number = refl;
      tries = refl;
      balance = refl;
      fixed = refl;
      shared = refl;
      pin = refl;
      aid = refl;
      parameters = refl;
      debit = refl;
      credit = refl;
    }

-- a change of block C too: what installation fixed stays, all else is new
pub record AllButFixed (x h next : Head) : Type 0 where
  pub fixed : next.fixed ≡ h.fixed
  pub aid : next.purse.aid ≡ h.purse.aid
  pub shared : next.shared ≡ x.shared
  pub pin : next.pin ≡ x.pin
  pub state : next.state ≡ x.state
  pub parameters : next.purse.parameters ≡ x.purse.parameters
  pub debit : next.purse.debit ≡ x.purse.debit
  pub credit : next.purse.credit ≡ x.purse.credit
  pub balance : next.purse.balance ≡ x.purse.balance

pub all_but_fixed : (x h : Head) → AllButFixed x h (head_after true x h)
unfolding head_after purse_after
all_but_fixed x h =
    record {
      fixed = refl;
      aid = refl;
      shared = refl;
      pin = refl;
      state = refl;
      parameters = refl;
      debit = refl;
      credit = refl;
      balance = refl;
    }
