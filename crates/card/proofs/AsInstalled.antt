-- The fresh card: document 01, "All else starts undefined and zero, tries full", by fields. Assumes nothing.
use mathlib.Core.Bool.{false}
use mathlib.Core.Path.{◌≡◌, refl, ap}
use Prim.Native.Nat.{ℕ, ◌<◌}
use lib.ListN.{length, get_or, length-replicate, get_or-replicate}
use Rattle.octets.specs.Bytes.{zeros}
use Rattle.card.specs.declared.head.Fixed.{Fixed}
use Rattle.card.specs.declared.head.Aid.{Aid}
use Rattle.card.specs.declared.head.Keys.{Keys}
use Rattle.card.specs.Log.{void, record_bytes}
use Rattle.card.specs.Card.{Card, fresh_head, fresh}

-- a card of a fixed part, an AID and key set 3 as it starts
pub record AsInstalled (f : Fixed) (a : Aid) (k : Keys) (c : Card) : Type 0 where
  pub fixed : c.head.fixed ≡ f
  pub aid : c.head.purse.aid ≡ a
  pub admin : c.head.shared.admin ≡ k
  -- "tries full", number and balance zero
  pub tries : c.head.state.tries ≡ f.maxtries
  pub number : c.head.state.number ≡ 0
  pub balance : c.head.purse.balance ≡ 0
  -- nothing personalized
  pub personalized : c.head.purse.parameters.personalized ≡ false
  pub identifier : c.head.purse.parameters.identifier ≡ zeros 4
  pub currency : c.head.purse.parameters.currency ≡ 0
  pub maxbalance : c.head.purse.parameters.maxbalance ≡ 0
  pub maxdebit : c.head.purse.parameters.maxdebit ≡ 0
  pub maxnumber : c.head.shared.maxnumber ≡ 0
  -- undefined: bank information, agent, key sets 1 and 2, PIN
  pub bank : c.head.purse.parameters.bank.defined ≡ false
  pub agent : c.head.purse.parameters.agent.size ≡ 0
  pub debit : c.head.purse.debit.defined ≡ false
  pub credit : c.head.purse.credit.defined ≡ false
  pub pin : c.head.pin.defined ≡ false
  -- and a log of the log's size, of which every record is void
  pub records : length c.log ≡ f.logsize
  pub void : (i : ℕ) → i < f.logsize → record_bytes (get_or c.log i void) ≡ zeros 25

-- the fresh card is so
pub as_installed : (f : Fixed) (a : Aid) (k : Keys) → AsInstalled f a k (fresh f a k)
unfolding fresh fresh_head record_bytes
as_installed f a k =
    record {
      fixed = refl;
      aid = refl;
      admin = refl;
      tries = refl;
      number = refl;
      balance = refl;
      personalized = refl;
      identifier = refl;
      currency = refl;
      maxbalance = refl;
      maxdebit = refl;
      maxnumber = refl;
      bank = refl;
      agent = refl;
      debit = refl;
      credit = refl;
      pin = refl;
      records = length-replicate f.logsize void;
      void = λ i h. ap record_bytes (get_or-replicate f.logsize i void void h);
    }
