-- Which heads there are, by numbers and bytes: document 01, "Readable": "Every card within the ranges below, with tries, balance and
-- number at most their maxima, parameters .. zero until personalized, set 3 defined, and sets 1 and 2 once personalized". The laws on
-- `Proper`'s tests are stated with it; the log's rules are fields of `Proper` itself, and set 3 is defined by its type. Assumes nothing.
use Rattle.std.specs.Prelude.{true, false, ◌≡◌, ℕ, ◌-◌, ◌≤◌, List, drop}
use Rattle.octets.specs.Bytes.{zeros}
use Rattle.card.specs.declared.head.KeySet.{KeySet}
use Rattle.card.specs.declared.head.Pin.{Pin}
use Rattle.card.specs.declared.head.Head.{Head}
use Rattle.card.specs.Pin.{block_of, Digits}

-- an undefined key set is zero
pub record NoKeys (k : KeySet) : Type 0 where
  pub enc : k.keys.enc ≡ zeros 16
  pub mac : k.keys.mac ≡ zeros 16
  pub dek : k.keys.dek ≡ zeros 16

-- "parameters .. zero until personalized"
pub record Blank (h : Head) : Type 0 where
  pub identifier : h.purse.parameters.identifier ≡ zeros 4
  pub currency : h.purse.parameters.currency ≡ 0
  pub maxbalance : h.purse.parameters.maxbalance ≡ 0
  pub maxdebit : h.purse.parameters.maxdebit ≡ 0
  pub maxnumber : h.shared.maxnumber ≡ 0
  pub bank : h.purse.parameters.bank.defined ≡ false
  pub agent : h.purse.parameters.agent.size ≡ 0

-- a PIN's block is that of 4 to 12 digits
pub record HasDigits (p : Pin) : Type 0 where
  pub digits : List ℕ
  pub each : Digits digits
  pub block : p.block ≡ block_of digits

pub record InRanges (h : Head) : Type 0 where
  -- "AID 5 to 16 bytes; log size 1 to 50; PIN tries 3 to 15"
  pub aid : (5 ≤ h.purse.aid.size) × (h.purse.aid.size ≤ 16)
  pub aid-after : drop h.purse.aid.size h.purse.aid.bytes ≡ zeros (16 - h.purse.aid.size)
  pub logsize : (1 ≤ h.fixed.logsize) × (h.fixed.logsize ≤ 50)
  pub maxtries : (3 ≤ h.fixed.maxtries) × (h.fixed.maxtries ≤ 15)
  -- "maximum balance, 0 to 32,767", "maximum debit, 0 to 32,767"
  pub maxbalance : h.purse.parameters.maxbalance ≤ 32767
  pub maxdebit : h.purse.parameters.maxdebit ≤ 32767
  -- "5–16", or undefined
  pub agent : (h.purse.parameters.agent.size ≡ 0 → ⊥) → 5 ≤ h.purse.parameters.agent.size
  pub agent-most : h.purse.parameters.agent.size ≤ 16
  pub agent-after :
      drop h.purse.parameters.agent.size h.purse.parameters.agent.bytes ≡ zeros (16 - h.purse.parameters.agent.size)
  pub bank : h.purse.parameters.bank.defined ≡ false → h.purse.parameters.bank.value ≡ zeros 16
  -- "tries, balance and number at most their maxima"
  pub tries : h.state.tries ≤ h.fixed.maxtries
  pub balance : h.purse.balance ≤ h.purse.parameters.maxbalance
  pub number : h.state.number ≤ h.shared.maxnumber
  pub blank : h.purse.parameters.personalized ≡ false → Blank h
  -- "sets 1 and 2 once personalized"
  pub keyed : h.purse.parameters.personalized ≡ true → (h.purse.debit.defined ≡ true) × (h.purse.credit.defined ≡ true)
  pub debit : h.purse.debit.defined ≡ false → NoKeys h.purse.debit
  pub credit : h.purse.credit.defined ≡ false → NoKeys h.purse.credit
  pub pin : h.pin.defined ≡ true → HasDigits h.pin
  pub no_pin : h.pin.defined ≡ false → h.pin.block ≡ zeros 8
