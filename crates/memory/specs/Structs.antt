-- The structs of a card as bytes: for each the widths of its fields, its writer and its reader, side by side. Where a field lies follows
-- from the widths before it, and how many bytes a struct has from all of them. docs/LAYOUT.md has the tables. Numbers of two bytes have the
-- high byte first; a flag is 1 for yes, and every other value reads as no. Assumes nothing.
use Rattle.std.specs.Prelude.{Bool, List, [], ◌∷◌, ℕ, eqb}
use Rattle.octets.specs.Bytes.{byte_at, part, field}
use Rattle.octets.specs.Words.{word, word_at}
use Rattle.octets.specs.Tests.{flag_byte}
use Rattle.stores.specs.Fields.{total, offset, joined}
use Rattle.card.specs.declared.head.Aid.{Aid}
use Rattle.card.specs.declared.head.Fixed.{Fixed}
use Rattle.card.specs.declared.head.KeySet.{KeySet}
use Rattle.card.specs.declared.head.Shared.{Shared}
use Rattle.card.specs.declared.head.Bank.{Bank}
use Rattle.card.specs.declared.head.Parameters.{Parameters}
use Rattle.card.specs.declared.head.Purse.{Purse}
use Rattle.card.specs.declared.head.Pin.{Pin}
use Rattle.card.specs.declared.head.State.{State}
use Rattle.card.specs.declared.head.Head.{Head}
use Rattle.card.specs.Keys.{keys_size, key_bytes, keys_in}

-- a flag byte
abbrev pub flag : ℕ → Bool
flag b = eqb b 1

-- ---- an AID

-- size, bytes
abbrev pub aid_widths : List ℕ
aid_widths = 1 ∷ 16 ∷ []

-- how many bytes it has
abbrev pub aid_size : ℕ
aid_size = total aid_widths

-- its bytes
unfoldable pub aid_bytes : Aid → List ℕ
aid_bytes a = joined ((a.size ∷ []) ∷ a.bytes ∷ [])

-- the AID that bytes say
unfoldable pub aid_in : List ℕ → Aid
aid_in s = record { size = byte_at s (offset aid_widths 0); bytes = field s (offset aid_widths 1) 16 }

-- ---- bank information

-- flag, value
abbrev pub bank_widths : List ℕ
bank_widths = 1 ∷ 16 ∷ []

-- how many bytes it has
abbrev pub bank_size : ℕ
bank_size = total bank_widths

-- its bytes
unfoldable pub bank_bytes : Bank → List ℕ
bank_bytes b = joined ((flag_byte b.defined ∷ []) ∷ b.value ∷ [])

-- the bank information that bytes say
unfoldable pub bank_in : List ℕ → Bank
bank_in s = record { defined = flag (byte_at s (offset bank_widths 0)); value = field s (offset bank_widths 1) 16 }

-- ---- parameters: tags 01 to 04, 06 and 07

-- flag, identifier, currency, maximum balance, maximum debit, bank information, the agent's AID
abbrev pub parameter_widths : List ℕ
parameter_widths = 1 ∷ 4 ∷ 2 ∷ 2 ∷ 2 ∷ bank_size ∷ aid_size ∷ []

-- how many bytes they have
abbrev pub parameters_size : ℕ
parameters_size = total parameter_widths

-- their bytes
unfoldable pub parameter_bytes : Parameters → List ℕ
parameter_bytes p =
    joined
    ((flag_byte p.personalized ∷ []) ∷ p.identifier ∷ word p.currency ∷ word p.maxbalance ∷ word p.maxdebit
    ∷ bank_bytes p.bank ∷ aid_bytes p.agent ∷ [])

-- the parameters that bytes say
unfoldable pub parameters_in : List ℕ → Parameters
parameters_in s =
    record {
      personalized = flag (byte_at s (offset parameter_widths 0));
      identifier = field s (offset parameter_widths 1) 4;
      currency = word_at s (offset parameter_widths 2);
      maxbalance = word_at s (offset parameter_widths 3);
      maxdebit = word_at s (offset parameter_widths 4);
      bank = bank_in (part s (offset parameter_widths 5) bank_size);
      agent = aid_in (part s (offset parameter_widths 6) aid_size);
    }

-- ---- a key set that may be undefined

-- flag, keys
abbrev pub key_set_widths : List ℕ
key_set_widths = 1 ∷ keys_size ∷ []

-- how many bytes it has
abbrev pub key_set_size : ℕ
key_set_size = total key_set_widths

-- its bytes
unfoldable pub key_set_bytes : KeySet → List ℕ
key_set_bytes k = joined ((flag_byte k.defined ∷ []) ∷ key_bytes k.keys ∷ [])

-- the key set that bytes say
unfoldable pub key_set_in : List ℕ → KeySet
key_set_in s = record { defined = flag (byte_at s (offset key_set_widths 0)); keys = keys_in (part s (offset key_set_widths 1) keys_size) }

-- ---- what all purses share: tag 05 and key set 3

-- maximum transaction number, keys
abbrev pub shared_widths : List ℕ
shared_widths = 2 ∷ keys_size ∷ []

-- how many bytes it has
abbrev pub shared_size : ℕ
shared_size = total shared_widths

-- its bytes
unfoldable pub shared_bytes : Shared → List ℕ
shared_bytes s = joined (word s.maxnumber ∷ key_bytes s.admin ∷ [])

-- the shared data that bytes say
unfoldable pub shared_in : List ℕ → Shared
shared_in s = record { maxnumber = word_at s (offset shared_widths 0); admin = keys_in (part s (offset shared_widths 1) keys_size) }

-- ---- the PIN

-- flag, block
abbrev pub pin_widths : List ℕ
pin_widths = 1 ∷ 8 ∷ []

-- how many bytes it has
abbrev pub pin_size : ℕ
pin_size = total pin_widths

-- its bytes
unfoldable pub pin_bytes : Pin → List ℕ
pin_bytes p = joined ((flag_byte p.defined ∷ []) ∷ p.block ∷ [])

-- the PIN that bytes say
unfoldable pub pin_in : List ℕ → Pin
pin_in s = record { defined = flag (byte_at s (offset pin_widths 0)); block = field s (offset pin_widths 1) 8 }

-- ---- the fixed part: what installation fixes

-- the purse's AID, log size, most tries
abbrev pub fixed_widths : List ℕ
fixed_widths = aid_size ∷ 1 ∷ 1 ∷ []

-- how many bytes it has
abbrev pub fixed_size : ℕ
fixed_size = total fixed_widths

-- its bytes
unfoldable pub fixed_bytes : Aid → Fixed → List ℕ
fixed_bytes a f = joined (aid_bytes a ∷ (f.logsize ∷ []) ∷ (f.maxtries ∷ []) ∷ [])

-- log size and most tries
unfoldable pub fixed_in : List ℕ → Fixed
fixed_in s = record { logsize = byte_at s (offset fixed_widths 1); maxtries = byte_at s (offset fixed_widths 2) }

-- ---- block H: what most changes change

-- number, tries, the newest record's slot, how many records were made, the purse's balance
abbrev pub hot_widths : List ℕ
hot_widths = 2 ∷ 1 ∷ 1 ∷ 1 ∷ 2 ∷ []

-- how many bytes it has
abbrev pub hot_size : ℕ
hot_size = total hot_widths

-- its bytes, of state, newest slot, records made and balance
unfoldable pub hot_bytes : State → ℕ → ℕ → ℕ → List ℕ
hot_bytes s newest filled balance =
    joined (word s.number ∷ (s.tries ∷ []) ∷ (newest ∷ []) ∷ (filled ∷ []) ∷ word balance ∷ [])

-- number and tries
unfoldable pub state_in : List ℕ → State
state_in s = record { number = word_at s (offset hot_widths 0); tries = byte_at s (offset hot_widths 1) }

-- the newest record's slot
abbrev pub newest_in : List ℕ → ℕ
newest_in s = byte_at s (offset hot_widths 2)

-- how many records were made, at most the log's size
abbrev pub filled_in : List ℕ → ℕ
filled_in s = byte_at s (offset hot_widths 3)

-- the balance
abbrev pub balance_in : List ℕ → ℕ
balance_in s = word_at s (offset hot_widths 4)

-- ---- block C: what all purses share, then the purse's parameters and keys

-- shared data, PIN, parameters, key set 1, key set 2
abbrev pub cold_widths : List ℕ
cold_widths = shared_size ∷ pin_size ∷ parameters_size ∷ key_set_size ∷ key_set_size ∷ []

-- how many bytes it has
abbrev pub cold_size : ℕ
cold_size = total cold_widths

-- its bytes
unfoldable pub cold_bytes : Head → List ℕ
cold_bytes h =
    joined
    (shared_bytes h.shared ∷ pin_bytes h.pin
    ∷ parameter_bytes h.purse.parameters ∷ key_set_bytes h.purse.debit ∷ key_set_bytes h.purse.credit ∷ [])

-- ---- the head of the three

-- a purse: its AID from the fixed part, its balance from H, all else from C
unfoldable pub purse_in : List ℕ → List ℕ → List ℕ → Purse
purse_in fixed hot cold =
    record {
      aid = aid_in (part fixed (offset fixed_widths 0) aid_size);
      parameters = parameters_in (part cold (offset cold_widths 2) parameters_size);
      debit = key_set_in (part cold (offset cold_widths 3) key_set_size);
      credit = key_set_in (part cold (offset cold_widths 4) key_set_size);
      balance = balance_in hot;
    }

-- the head that the fixed part, H and C say
unfoldable pub head_of : List ℕ → List ℕ → List ℕ → Head
head_of fixed hot cold =
    record {
      fixed = fixed_in fixed;
      shared = shared_in (part cold (offset cold_widths 0) shared_size);
      purse = purse_in fixed hot cold;
      pin = pin_in (part cold (offset cold_widths 1) pin_size);
      state = state_in hot;
    }
