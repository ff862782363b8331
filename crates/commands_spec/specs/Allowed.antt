-- What document 01 allows, with 02's mended rules, said of cards, key sets and numbers and not of status words: demand 2, "A transaction
-- that 01 allows is never refused." Assumes nothing.
use Rattle.std.specs.Prelude.{Bool, true, ◌≡◌, List, [], ◌∷◌, ℕ, ◌+◌, ◌-◌, ◌≤◌, ◌<◌, length, get_or, take, drop}
use Rattle.octets.specs.Words.{word_at}
use Rattle.card.specs.declared.head.KeySet.{KeySet}
use Rattle.card.specs.declared.head.Head.{Head}
use Rattle.card.specs.Log.{void, record_bytes}
use Rattle.card.specs.Card.{Card}
use Rattle.session.specs.declared.Set.{Set}
use Rattle.session.specs.declared.Set.TheVariants.{Debit, Credit, Admin}
use Rattle.session.specs.declared.Level.{Level}
use Rattle.session.specs.declared.Level.TheVariants.{Mac, Rmac}

-- "Key sets: 1 debit, 2 credit, 3 administration": the keys of a set, by its number
pub data Numbered (h : Head) (k : KeySet) : ℕ → Set → Type 0 where
  first : k ≡ h.purse.debit → Numbered h k 0x01 Debit
  second : k ≡ h.purse.credit → Numbered h k 0x02 Credit
  third : k ≡ record { defined = true; keys = h.shared.admin } → Numbered h k 0x03 Admin

-- "P1 01 (C-MAC) or 11 (with R-MAC)"
pub data LevelOf (set : Set) : ℕ → Level → Type 0 where
  with_cmac : LevelOf set 0x01 (Mac set)
  with_rmac : LevelOf set 0x11 (Rmac set)

-- which key sets may start which transaction, by P1 and the PIN flag: a debit all of them, a cash credit sets 2 and 3, a bank credit
-- sets 2 and 3 with the flag (document 02, request 1)
pub data Entitled : ℕ → Set → Bool → Type 0 where
  debit : (set : Set) (flag : Bool) → Entitled 0x00 set flag
  cash_credit : (flag : Bool) → Entitled 0x01 Credit flag
  cash_admin : (flag : Bool) → Entitled 0x01 Admin flag
  bank-credit : Entitled 0x02 Credit true
  bank-admin : Entitled 0x02 Admin true

-- what a transaction of a currency and an amount asks of the card: it is personalized, has what a bank credit needs, and room for the
-- number; the currency is the card's; the amount is above 0, within the limits of a debit or of a credit
pub record Allows (h : Head) (p1 currency amount : ℕ) : Type 0 where
  pub personal : h.purse.parameters.personalized ≡ true
  pub equipped : p1 ≡ 0x02 → (h.purse.parameters.bank.defined ≡ true) × (h.pin.defined ≡ true)
  pub room : h.state.number < h.shared.maxnumber
  pub same : currency ≡ h.purse.parameters.currency
  pub above : 0 < amount
  pub signed : amount < 0x8000
  pub debits : p1 ≡ 0x00 → (amount ≤ h.purse.parameters.maxdebit) × (amount ≤ h.purse.balance)
  pub credits : (p1 ≡ 0x00 → ⊥) → h.purse.balance + amount ≤ h.purse.parameters.maxbalance

-- what it does to the balance: a debit takes the amount, a credit adds it
pub record MovedBy (p1 amount before after : ℕ) : Type 0 where
  pub debit : p1 ≡ 0x00 → after + amount ≡ before
  pub credit : (p1 ≡ 0x00 → ⊥) → after ≡ before + amount

-- a byte that names a key set: "1 debit, 2 credit, 3 administration"
pub data NamedBy : Set → List ℕ → Type 0 where
  by_debit : NamedBy Debit (0x01 ∷ [])
  by_credit : NamedBy Credit (0x02 ∷ [])
  by_admin : NamedBy Admin (0x03 ∷ [])

-- what its log record says, and where: "transaction number, currency, amount (signed, a debit negative), new balance, 16 context
-- bytes", "then one byte with the key set that opened the channel" (document 02, request 4); a negative number and its amount make 10000
pub record Logged (p1 n own amount after : ℕ) (sent : List ℕ) (set : Set) (r : List ℕ) : Type 0 where
  pub number : word_at r 0 ≡ n
  pub currency : word_at r 2 ≡ own
  pub debit : p1 ≡ 0x00 → word_at r 4 + amount ≡ 0x10000
  pub credit : (p1 ≡ 0x00 → ⊥) → word_at r 4 ≡ amount
  pub balance : word_at r 6 ≡ after
  pub context : take 16 (drop 8 r) ≡ sent
  pub keyset : NamedBy set (drop 24 r)

-- what it leaves of a card in a channel of a key set: balance and number moved, and the record in front of the log, whose oldest gives way
pub record Completed (c : Card) (p1 amount : ℕ) (context : List ℕ) (set : Set) (d : Card) : Type 0 where
  pub balance : MovedBy p1 amount c.head.purse.balance d.head.purse.balance
  pub number : d.head.state.number ≡ c.head.state.number + 1
  pub logged : Logged p1 (c.head.state.number + 1) c.head.purse.parameters.currency amount d.head.purse.balance context set
      (record_bytes (get_or d.log 0 void))
  pub older : drop 1 d.log ≡ take (length c.log - 1) c.log

-- a card with that many tries left, and all else as it was
unfoldable pub tries_left : ℕ → Card → Card
tries_left n c =
    record {
      head = record {
        fixed = c.head.fixed;
        shared = c.head.shared;
        purse = c.head.purse;
        pin = c.head.pin;
        state = record { number = c.head.state.number; tries = n };
      };
      log = c.log;
    }

-- a card with that PIN, and all else as it was
unfoldable pub pin_set : List ℕ → Card → Card
pin_set block c =
    record {
      head = record {
        fixed = c.head.fixed;
        shared = c.head.shared;
        purse = c.head.purse;
        pin = record { defined = true; block = block };
        state = c.head.state;
      };
      log = c.log;
    }
