-- What the status bytes and the data objects say, read back as a terminal reads them: document 01, "What the card keeps". Assumes nothing.
use Rattle.std.specs.Prelude.{Bool, true, false, not, ◌&&◌, List, [], ◌∷◌, ◌≡◌, ℕ, ◌+◌, ◌/◌, ◌%◌, ◌≤◌, eqb, length, take}
use Rattle.octets.specs.Words.{word, word_at}
use Rattle.card.specs.declared.head.Head.{Head}

-- a flag as a bit
abbrev pub bit : Bool → ℕ
bit true = 1
bit false = 0

-- "Administrative status: 10 personalized, 20 bank information and PIN both defined, 40 agent defined, 80 PIN validated", bit by bit
pub record Administrative (h : Head) (flag : Bool) (n : ℕ) : Type 0 where
  pub low : n % 0x10 ≡ 0
  pub personalized : n / 0x10 % 2 ≡ bit h.purse.parameters.personalized
  pub bank : n / 0x20 % 2 ≡ bit (h.purse.parameters.bank.defined && h.pin.defined)
  pub agent : n / 0x40 % 2 ≡ bit (not (eqb h.purse.parameters.agent.size 0))
  pub validated : n / 0x80 ≡ bit flag

-- "Operational status, 10 bytes: remaining transactions, currency, balance, allowed debit (lesser of balance and maximum debit), allowed
-- credit (maximum balance less balance)", word by word
pub record Operational (h : Head) (l : List ℕ) : Type 0 where
  pub long : length l ≡ 10
  pub remaining : h.state.number ≤ h.shared.maxnumber → word_at l 0 + h.state.number ≡ h.shared.maxnumber
  pub currency : word_at l 2 ≡ h.purse.parameters.currency
  pub balance : word_at l 4 ≡ h.purse.balance
  pub all_of_it : h.purse.balance ≤ h.purse.parameters.maxdebit → word_at l 6 ≡ h.purse.balance
  pub at_most : h.purse.parameters.maxdebit ≤ h.purse.balance → word_at l 6 ≡ h.purse.parameters.maxdebit
  pub credit : h.purse.balance ≤ h.purse.parameters.maxbalance → word_at l 8 + h.purse.balance ≡ h.purse.parameters.maxbalance

-- what GET DATA says of each tag of the table: "undefined: 06, 07 length 00, others zeros"
pub data Reads (h : Head) (flag : Bool) : ℕ → List ℕ → Type 0 where
  reads_identifier : Reads h flag 0x01 h.purse.parameters.identifier
  reads_currency : Reads h flag 0x02 (word h.purse.parameters.currency)
  reads_maximum_balance : Reads h flag 0x03 (word h.purse.parameters.maxbalance)
  reads_maximum_debit : Reads h flag 0x04 (word h.purse.parameters.maxdebit)
  reads_maximum_number : Reads h flag 0x05 (word h.shared.maxnumber)
  reads_bank : h.purse.parameters.bank.defined ≡ true → Reads h flag 0x06 h.purse.parameters.bank.value
  reads_no_bank : h.purse.parameters.bank.defined ≡ false → Reads h flag 0x06 []
  reads_agent : Reads h flag 0x07 (take h.purse.parameters.agent.size h.purse.parameters.agent.bytes)
  reads_number : Reads h flag 0x14 (word h.state.number)
  reads_balance : Reads h flag 0x15 (word h.purse.balance)
  reads_tries : Reads h flag 0x16 (h.state.tries ∷ [])
  reads_status : (n : ℕ) → Administrative h flag n → Reads h flag 0x17 (n ∷ [])
