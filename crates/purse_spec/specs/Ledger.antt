-- The ledger: document 01's book, "a sum and a note, is fed the calls, their answers and status words, and the transaction numbers read
-- from memory. The sum is completed credits less completed debits", kept here as these two. Assumes nothing.
use Rattle.std.specs.Prelude.{Bool, false, ◌&&◌, List, [], ◌∷◌, ℕ, ◌+◌, ◌-◌, ltb, eqb}
use Rattle.std.proofs.Math.Option.{Option, none, some}
use Rattle.octets.specs.Choice.{pick}
use Rattle.octets.specs.Bytes.{byte_at}
use Rattle.octets.specs.Words.{word_at}
use Rattle.card.specs.Card.{Card}
use Rattle.memory.specs.Reading.{read_card}
use Rattle.purse_spec.specs.Calls.{Run}
use Rattle.purse_spec.specs.History.{Call, install, start, send, Situation, run, next, after_calls, is_start}

-- an amount, "a debit's as negative"
pub record Note : Type 0 where
  pub debit : Bool
  pub amount : ℕ

-- completed credits and completed debits, whose difference is the sum, and the note
pub record Ledger : Type 0 where
  pub credits : ℕ
  pub debits : ℕ
  pub note : Option Note

-- "A finished installation sets it to 0 and drops the note"
unfoldable pub empty : Ledger
empty = record { credits = 0; debits = 0; note = none }

-- another note, or none
unfoldable pub noting : Option Note → Ledger → Ledger
noting n b = record { credits = b.credits; debits = b.debits; note = n }

-- "the note is added to the sum"; where there is none, nothing is
unfoldable pub added_to : Option Note → Ledger → Ledger
added_to none b = b
added_to (some n) b =
    record {
      credits = pick n.debit b.credits (b.credits + n.amount);
      debits = pick n.debit (b.debits + n.amount) b.debits;
      note = b.note;
    }

-- the status word that ends a response
unfoldable pub status_word : Run → ℕ
status_word r = word_at r.response (r.length - 2)

-- INITIALIZE TRANSACTION, by its first two bytes
unfoldable pub is_initialize : List ℕ → Bool
is_initialize bytes = eqb (byte_at bytes 0) 0x94 && eqb (byte_at bytes 1) 0x44

-- the same of COMPLETE TRANSACTION
unfoldable pub is_complete : List ℕ → Bool
is_complete bytes = eqb (byte_at bytes 0) 0x94 && eqb (byte_at bytes 1) 0x46

-- what INITIALIZE TRANSACTION notes: P1 00 is a debit, and the amount is the second word of the data
unfoldable pub note_of : List ℕ → Note
note_of bytes = record { debit = eqb (byte_at bytes 2) 0x00; amount = word_at bytes 7 }

-- the transaction number of a card that memory reads as
unfoldable pub number_of : Option Card → Option ℕ
number_of none = none
number_of (some c) = some c.head.state.number

-- whether it has grown, where there is one before and after
unfoldable pub has_grown : Option ℕ → Option ℕ → Bool
has_grown (some x) (some y) = ltb x y
has_grown (some x) none = false
has_grown none y = false

-- a finished command and its status word: "INITIALIZE TRANSACTION with 9000 notes its amount"; "COMPLETE with 9000 .. is completed";
-- "Other calls drop the note if finished"
unfoldable pub fed_command : List ℕ → ℕ → Ledger → Ledger
fed_command bytes w b =
    pick (is_initialize bytes && eqb w 0x9000) (noting (some (note_of bytes)) b)
    (pick (is_complete bytes && eqb w 0x9000) (added_to b.note b)
    (noting none b))

-- one call, what it gave, and whether the number has grown behind it: "COMPLETE with 9000, or a cut one demand 3 counts, is completed";
-- calls that aren't finished "do nothing" else
unfoldable pub fed : Call → Run → Bool → Ledger → Ledger
fed (install d limit) r grew b = pick (eqb r.answer 0) empty b
fed (start limit) r grew b = pick (eqb r.answer 0) (noting none b) b
fed (send bytes random area limit) r grew b =
    pick (eqb r.answer 0) (fed_command bytes (status_word r) b)
    (pick (eqb r.answer 7 && is_complete bytes && grew) (added_to b.note b) b)

-- the start-ups that lead a list
unfoldable pub starts_of : List Call → List Call
starts_of [] = []
starts_of (c ∷ cs) = pick (is_start c) (c ∷ starts_of cs) []

-- demand 3: "the transaction number that memory reads after the start-ups directly behind it, if any yet, has grown"
unfoldable pub grew_in : Call → List Call → Situation → Bool
grew_in c cs st =
    has_grown (number_of (read_card st.memory)) (number_of (read_card (after_calls (starts_of cs) (next c st)).memory))

-- the ledger fed a list of calls, each with what lies behind it
unfoldable pub kept : List Call → Situation → Ledger → Ledger
kept [] st b = b
kept (c ∷ cs) st b = kept cs (next c st) (fed c (run c st) (grew_in c cs st) b)
