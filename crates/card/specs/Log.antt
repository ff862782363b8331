-- A log record: document 01, "transaction number, currency, amount (signed, a debit negative), new balance, 16 context bytes"; document
-- 02, request 4, "25 bytes: the old 24, then one byte with the key set that opened the channel, 01 to 03. Void records are 25 zeros."
-- Assumes nothing.
use Rattle.std.specs.Prelude.{List, [], ◌∷◌, ◌++◌, ℕ}
use Rattle.octets.specs.Bytes.{zeros, byte_at, field}
use Rattle.octets.specs.Words.{word, word_at}
use Rattle.card.specs.declared.log.Record.{Record}

-- how many bytes it has
abbrev pub record_size : ℕ
record_size = 25

-- a void record
abbrev pub void : Record
void = record { number = 0; currency = 0; amount = 0; balance = 0; context = zeros 16; keyset = 0 }

-- its bytes; a negative amount is in two's complement
unfoldable pub record_bytes : Record → List ℕ
record_bytes r = word r.number ++ word r.currency ++ word r.amount ++ word r.balance ++ r.context ++ r.keyset ∷ []

-- the record that bytes say
unfoldable pub record_in : List ℕ → Record
record_in l =
    record {
      number = word_at l 0;
      currency = word_at l 2;
      amount = word_at l 4;
      balance = word_at l 6;
      context = field l 8 16;
      keyset = byte_at l 24;
    }
