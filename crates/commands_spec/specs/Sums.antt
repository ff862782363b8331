-- P1 to P12 of document 01, "Sums to prove (P)", as one table: what INITIALIZE TRANSACTION and COMPLETE TRANSACTION behind it give on a
-- card, and what 01 says is due. Assumes nothing.
use Rattle.std.specs.Prelude.{Bool, true, false, ◌&&◌, List, [], ◌∷◌, ◌++◌, ℕ, eqb}
use Rattle.octets.specs.Choice.{pick}
use Rattle.octets.specs.Bytes.{zeros, part, same}
use Rattle.octets.specs.Words.{word, word_at}
use Rattle.octets.specs.Buffers.{content}
use Rattle.card.specs.declared.head.KeySet.{KeySet}
use Rattle.card.specs.declared.head.Head.{Head}
use Rattle.card.specs.Log.{record_bytes}
use Rattle.card.specs.Card.{no_keys, no_aid}
use Rattle.session.specs.declared.Set.TheVariants.{Credit}
use Rattle.session.specs.declared.Level.TheVariants.{Rmac}
use Rattle.session.specs.declared.Pending.TheVariants.{Nothing}
use Rattle.session.specs.declared.Session.{Session}
use Rattle.session.specs.Transitions.{no_offer}
use Rattle.commands_spec.specs.Select.{select_of}
use Rattle.commands_spec.specs.InitializeTransaction.{initialize_transaction_of}
use Rattle.commands_spec.specs.CompleteTransaction.{complete_transaction_of}

-- each key set
unfoldable pub keys : KeySet
keys = record { defined = true; keys = no_keys }

-- the currency of the card and of each transaction
abbrev pub currency : ℕ
currency = 0x03D2

-- a personalized card: balance, maximum balance, maximum debit, number, maximum number
unfoldable pub card : ℕ → ℕ → ℕ → ℕ → ℕ → Head
card balance maxbalance maxdebit number maxnumber =
    record {
      fixed = record { logsize = 10; maxtries = 3 };
      shared = record { maxnumber = maxnumber; admin = no_keys };
      purse = record {
        aid = record { size = 5; bytes = zeros 16 };
        parameters = record {
          personalized = true;
          identifier = zeros 4;
          currency = currency;
          maxbalance = maxbalance;
          maxdebit = maxdebit;
          bank = record { defined = false; value = zeros 16 };
          agent = no_aid;
        };
        debit = keys;
        credit = keys;
        balance = balance;
      };
      pin = record { defined = false; block = zeros 8 };
      state = record { number = number; tries = 3 };
    }

-- a channel of key set 2 with R-MAC, and nothing pending
unfoldable pub session : Session
session =
    record {
      selected = true;
      verified = false;
      channel = record { level = Rmac Credit; enc = zeros 16; mac = zeros 16; cmac = zeros 8; rmac = zeros 8 };
      pending = Nothing;
      offer = no_offer;
    }

-- INITIALIZE TRANSACTION's status word; where it is 9000, the status word of COMPLETE TRANSACTION in the session that it handed back,
-- the balance afterwards, and the amount in the new record
unfoldable pub transaction : Head → ℕ → ℕ → List ℕ
transaction h p1 amount =
    let first = initialize_transaction_of h session p1 (word currency ++ word amount) in
    let second = complete_transaction_of h first.session (zeros 16) in
    pick (eqb first.status 0x9000)
    (first.status ∷ second.status ∷ second.head.purse.balance ∷ word_at (record_bytes second.logged) 4 ∷ [])
    (first.status ∷ [])

-- a debit's and a cash credit's P1
abbrev pub debit : ℕ
debit = 0x00

abbrev pub credit : ℕ
credit = 0x01

-- the operational status in SELECT's answer, behind identifier and administrative status
unfoldable pub selected : Head → List ℕ
selected h = part (content (select_of h session (zeros 5)).reply) 5 10

-- a row: the number of its P, what the commands give, what 01 says
pub record Row : Type 0 where
  pub p : ℕ
  pub got : List ℕ
  pub due : List ℕ

-- "P1–P12 form a single table"
unfoldable pub table : List Row
table =
    record { p = 1; got = transaction (card 30000 32767 32767 0 100) credit 2767; due = 0x9000 ∷ 0x9000 ∷ 32767 ∷ 2767 ∷ [] }
    ∷ record { p = 2; got = transaction (card 30000 32767 32767 0 100) credit 2768; due = 0x9414 ∷ [] }
    ∷ record { p = 3; got = transaction (card 30000 32767 32767 0 100) credit 0x0000; due = 0x9412 ∷ [] }
    ∷ record { p = 3; got = transaction (card 30000 32767 32767 0 100) debit 0x0000; due = 0x9412 ∷ [] }
    ∷ record { p = 4; got = transaction (card 30000 32767 32767 0 100) credit 0x8000; due = 0x9412 ∷ [] }
    ∷ record { p = 4; got = transaction (card 30000 32767 32767 0 100) debit 0x8000; due = 0x9412 ∷ [] }
    ∷ record { p = 5; got = transaction (card 30000 32767 32767 0 100) credit 0xFFFF; due = 0x9412 ∷ [] }
    ∷ record { p = 5; got = transaction (card 30000 32767 32767 0 100) debit 0xFFFF; due = 0x9412 ∷ [] }
    ∷ record { p = 6; got = transaction (card 350 32767 500 0 100) debit 350; due = 0x9000 ∷ 0x9000 ∷ 0 ∷ 0xFEA2 ∷ [] }
    ∷ record { p = 7; got = transaction (card 350 32767 500 0 100) debit 351; due = 0x9413 ∷ [] }
    ∷ record { p = 8; got = transaction (card 1000 32767 500 0 100) debit 501; due = 0x9413 ∷ [] }
    ∷ record { p = 9; got = transaction (card 1000 32767 500 0 100) debit 500; due = 0x9000 ∷ 0x9000 ∷ 500 ∷ 0xFE0C ∷ [] }
    ∷ record { p = 10; got = transaction (card 350 1000 500 9 10) debit 1; due = 0x9000 ∷ 0x9000 ∷ 349 ∷ 0xFFFF ∷ [] }
    ∷ record { p = 11; got = transaction (card 350 1000 500 10 10) debit 1; due = 0x9410 ∷ [] }
    ∷ record {
      p = 12;
      got = selected (card 350 1000 500 9 10);
      due = word 0x0001 ++ word currency ++ word 0x015E ++ word 0x015E ++ word 0x028A;
    }
    ∷ []

-- every row's due is what the commands give
unfoldable pub all : List Row → Bool
all [] = true
all (r ∷ rows) = same r.got r.due && all rows
