-- Which cards there are: document 01, "Readable": "Every card within the ranges below, with tries, balance and number at most
-- their maxima, parameters and log zero until personalized, set 3 defined, and sets 1 and 2 once personalized". The ranges are
-- those of "What the card keeps". Set 3 is defined by its type. Document 02, request 4, adds that a record of the log is void or has a
-- key set from 01 to 03. Assumes nothing.
use Rattle.std.specs.Prelude.{◌≡◌, Bool, true, false, not, ◌&&◌, ◌||◌, List, [], ◌∷◌, ◌⊎◌, ℕ, ◌≤◌, ◌<◌, leb, eqb, length, get_or, drop}
use Rattle.octets.specs.Choice.{pick}
use Rattle.octets.specs.Bytes.{Octets, all_zero}
use Rattle.octets.specs.Tests.{all_true}
use Rattle.card.specs.declared.head.Aid.{Aid}
use Rattle.card.specs.declared.head.Fixed.{Fixed}
use Rattle.card.specs.declared.head.Keys.{Keys}
use Rattle.card.specs.declared.head.KeySet.{KeySet}
use Rattle.card.specs.declared.head.Bank.{Bank}
use Rattle.card.specs.declared.head.Parameters.{Parameters}
use Rattle.card.specs.declared.head.Purse.{Purse}
use Rattle.card.specs.declared.head.Pin.{Pin}
use Rattle.card.specs.declared.head.Head.{Head}
use Rattle.card.specs.declared.log.Record.{Record}
use Rattle.card.specs.Log.{void, record_bytes}
use Rattle.card.specs.Card.{Card}
use Rattle.card.specs.Pin.{well_formed}

-- ---- the tests of a head, nested like its structs

-- "log size 1 to 50; PIN tries 3 to 15"
unfoldable pub fixed_tests : Fixed → List Bool
fixed_tests f = leb 1 f.logsize ∷ leb f.logsize 50 ∷ leb 3 f.maxtries ∷ leb f.maxtries 15 ∷ []

-- "AID 5 to 16 bytes"
unfoldable pub aid_ok : Aid → Bool
aid_ok a = all_true (leb 5 a.size ∷ leb a.size 16 ∷ all_zero (drop a.size a.bytes) ∷ [])

-- an undefined key set is zero
unfoldable pub keys_ok : KeySet → Bool
keys_ok k = k.defined || all_true (all_zero k.keys.enc ∷ all_zero k.keys.mac ∷ all_zero k.keys.dek ∷ [])

-- undefined bank information is zero
unfoldable pub bank_ok : Bank → Bool
bank_ok b = b.defined || all_zero b.value

-- "5–16", or undefined
unfoldable pub agent_ok : Aid → Bool
agent_ok a = all_true ((eqb a.size 0 || leb 5 a.size) ∷ leb a.size 16 ∷ all_zero (drop a.size a.bytes) ∷ [])

-- "parameters .. zero until personalized"
unfoldable pub unset : Parameters → Bool
unset p =
    all_true
    (all_zero p.identifier ∷ eqb p.currency 0 ∷ eqb p.maxbalance 0 ∷ eqb p.maxdebit 0
    ∷ not p.bank.defined ∷ eqb p.agent.size 0 ∷ [])

-- "maximum balance, 0 to 32,767", "maximum debit, 0 to 32,767"
unfoldable pub parameter_tests : Parameters → List Bool
parameter_tests p =
    leb p.maxbalance 32767 ∷ leb p.maxdebit 32767 ∷ bank_ok p.bank ∷ agent_ok p.agent ∷ (p.personalized || unset p) ∷ []

-- "sets 1 and 2 once personalized"; balance at most its maximum
unfoldable pub purse_tests : Purse → List Bool
purse_tests p =
    aid_ok p.aid ∷ all_true (parameter_tests p.parameters) ∷ keys_ok p.debit ∷ keys_ok p.credit
    ∷ (not p.parameters.personalized || all_true (p.debit.defined ∷ p.credit.defined ∷ []))
    ∷ leb p.balance p.parameters.maxbalance ∷ []

-- a defined PIN is well formed, an undefined one zero
unfoldable pub pin_ok : Pin → Bool
pin_ok p = pick p.defined (well_formed p.block) (all_zero p.block)

-- tries and number at most their maxima; tag 05 zero until personalized
unfoldable pub state_tests : Head → List Bool
state_tests h =
    leb h.state.tries h.fixed.maxtries
    ∷ leb h.state.number h.shared.maxnumber
    ∷ (h.purse.parameters.personalized || eqb h.shared.maxnumber 0) ∷ []

-- all of them
unfoldable pub proper_tests : Head → List Bool
proper_tests h = all_true (fixed_tests h.fixed) ∷ all_true (purse_tests h.purse) ∷ pin_ok h.pin ∷ all_true (state_tests h) ∷ []

-- ---- the tests of a log

-- a record is void; once the card is personalized it may have "the key set that opened the channel, 01 to 03" instead
unfoldable pub record_ok : Bool → Record → Bool
record_ok personalized r = all_zero (record_bytes r) || all_true (personalized ∷ leb 1 r.keyset ∷ leb r.keyset 3 ∷ [])

-- every record is such
unfoldable pub log_ok : Bool → List Record → Bool
log_ok personalized [] = true
log_ok personalized (r ∷ log) = record_ok personalized r && log_ok personalized log

-- ---- the sizes of values, which their structs have by their types

-- keys have 16 bytes each
pub record SizedKeys (k : Keys) : Type 0 where
  pub enc : Octets 16 k.enc
  pub mac : Octets 16 k.mac
  pub dek : Octets 16 k.dek

-- a purse
pub record SizedPurse (p : Purse) : Type 0 where
  pub aid : Octets 16 p.aid.bytes
  pub identifier : Octets 4 p.parameters.identifier
  pub currency : p.parameters.currency < 65536
  pub bank : Octets 16 p.parameters.bank.value
  pub agent : Octets 16 p.parameters.agent.bytes
  pub debit : SizedKeys p.debit.keys
  pub credit : SizedKeys p.credit.keys

-- a head
pub record SizedHead (h : Head) : Type 0 where
  pub maxnumber : h.shared.maxnumber < 65536
  pub admin : SizedKeys h.shared.admin
  pub purse : SizedPurse h.purse
  pub pin : Octets 8 h.pin.block

-- a record of the log
pub record SizedRecord (r : Record) : Type 0 where
  pub number : r.number < 65536
  pub currency : r.currency < 65536
  pub amount : r.amount < 65536
  pub balance : r.balance < 65536
  pub context : Octets 16 r.context
  pub keyset : r.keyset < 256

-- ---- a card that a memory may read as

-- "the key set that opened the channel, 01 to 03"
pub record HasKeySet (r : Record) : Type 0 where
  pub least : 1 ≤ r.keyset
  pub most : r.keyset ≤ 3

-- the card
pub record Proper (c : Card) : Type 0 where
  pub sized : SizedHead c.head
  pub tests : all_true (proper_tests c.head) ≡ true
  pub records : length c.log ≡ c.head.fixed.logsize
  pub each : (k : ℕ) → k < length c.log → SizedRecord (get_or c.log k void)
  pub unused : c.head.purse.parameters.personalized ≡ false → (k : ℕ) → get_or c.log k void ≡ void
  pub keysets : (k : ℕ) → (get_or c.log k void ≡ void) ⊎ HasKeySet (get_or c.log k void)
