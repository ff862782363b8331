-- The key sets by their numbers, and the DEK of the channel's set. Assumes nothing.
use Rattle.std.specs.Prelude.{true, List, ℕ}
use Rattle.octets.specs.Bytes.{zeros}
use Rattle.card.specs.declared.head.Keys.{Keys}
use Rattle.card.specs.declared.head.KeySet.{KeySet}
use Rattle.card.specs.declared.head.Head.{Head}
use Rattle.card.specs.Updates.{with_purse}
use Rattle.session.specs.declared.Level.{Level}
use Rattle.session.specs.declared.Level.TheVariants.{Closed, Mac, Rmac}
use Rattle.session.specs.declared.Set.{Set}
use Rattle.session.specs.declared.Set.TheVariants.{Debit, Credit, Admin}

-- "Key sets: 1 debit, 2 credit, 3 administration"; set 3 is always defined
unfoldable pub key_set_of : Set → Head → KeySet
key_set_of Debit h = h.purse.debit
key_set_of Credit h = h.purse.credit
key_set_of Admin h = record { defined = true; keys = h.shared.admin }

-- a key set with new keys, which is then defined
unfoldable pub with_keys : Set → Keys → Head → Head
with_keys Debit k h =
    let p = h.purse in
    with_purse
    (record {
      aid = p.aid;
      parameters = p.parameters;
      debit = record { defined = true; keys = k };
      credit = p.credit;
      balance = p.balance;
    })
    h
with_keys Credit k h =
    let p = h.purse in
    with_purse
    (record {
      aid = p.aid;
      parameters = p.parameters;
      debit = p.debit;
      credit = record { defined = true; keys = k };
      balance = p.balance;
    })
    h
with_keys Admin k h =
    record {
      fixed = h.fixed;
      shared = record { maxnumber = h.shared.maxnumber; admin = k };
      purse = h.purse;
      pin = h.pin;
      state = h.state;
    }

-- "DEK means that of the set that opened the channel, as stored now"
unfoldable pub dek_of : Level → Head → List ℕ
dek_of Closed h = zeros 16
dek_of (Mac set) h = (key_set_of set h).keys.dek
dek_of (Rmac set) h = (key_set_of set h).keys.dek
