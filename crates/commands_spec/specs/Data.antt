-- The data objects of document 01, "What the card keeps": which values a tag takes, what a value sets, what a tag reads as.
-- Assumes nothing.
use Rattle.std.specs.Prelude.{Bool, true, false, ◌&&◌, ◌||◌, List, [], ◌∷◌, ℕ, min, leb, eqb, length, take}
use Rattle.octets.specs.Choice.{pick}
use Rattle.octets.specs.Bytes.{zeros, field}
use Rattle.octets.specs.Words.{word, word_at}
use Rattle.card.specs.declared.head.Aid.{Aid}
use Rattle.card.specs.declared.head.Bank.{Bank}
use Rattle.card.specs.declared.head.Parameters.{Parameters}
use Rattle.card.specs.declared.head.Head.{Head}
use Rattle.channel.specs.Channel.{bank_received}
use Rattle.card.specs.Updates.{with_parameters, with_maxnumber}
use Rattle.commands_spec.specs.Status.{administrative}

-- "maximum balance, 0 to 32,767", "maximum debit, 0 to 32,767"
unfoldable pub maximum_ok : List ℕ → Bool
maximum_ok v = eqb (length v) 2 && leb (word_at v 0) 32767

-- bank information and agent AID are optional: 16 bytes, and "5–16"
unfoldable pub bank_length : ℕ → Bool
bank_length n = eqb n 0 || eqb n 16

-- "5–16"
unfoldable pub agent_length : ℕ → Bool
agent_length n = eqb n 0 || (leb 5 n && leb n 16)

-- the column "Bytes", and the ranges
unfoldable pub value_ok : ℕ → List ℕ → Bool
value_ok tag v =
    pick (eqb tag 0x01) (eqb (length v) 4)
    (pick (eqb tag 0x02) (eqb (length v) 2)
    (pick (eqb tag 0x03) (maximum_ok v)
    (pick (eqb tag 0x04) (maximum_ok v)
    (pick (eqb tag 0x05) (eqb (length v) 2)
    (pick (eqb tag 0x06) (bank_length (length v))
    (pick (eqb tag 0x07) (agent_length (length v))
    false))))))

-- "Length 0 of 06 or 07 means undefined"; bank information travels enciphered
unfoldable pub bank_of : List ℕ → List ℕ → Bank
bank_of dek v =
    pick (eqb (length v) 0)
    (record { defined = false; value = zeros 16 }) (record { defined = true; value = bank_received dek (field v 0 16) })

-- an agent's AID, zeros after it
unfoldable pub agent_of : List ℕ → Aid
agent_of v = record { size = min (length v) 16; bytes = field v 0 16 }

-- the parameters with the value of a tag of 01 to 04, 06 or 07
unfoldable pub parameter_set : List ℕ → ℕ → List ℕ → Parameters → Parameters
parameter_set dek tag v p =
    record {
      personalized = p.personalized;
      identifier = pick (eqb tag 0x01) (field v 0 4) p.identifier;
      currency = pick (eqb tag 0x02) (word_at v 0) p.currency;
      maxbalance = pick (eqb tag 0x03) (word_at v 0) p.maxbalance;
      maxdebit = pick (eqb tag 0x04) (word_at v 0) p.maxdebit;
      bank = pick (eqb tag 0x06) (bank_of dek v) p.bank;
      agent = pick (eqb tag 0x07) (agent_of v) p.agent;
    }

-- the head with the value of a tag of 01 to 07
unfoldable pub datum_set : List ℕ → ℕ → List ℕ → Head → Head
datum_set dek tag v h =
    pick (eqb tag 0x05) (with_maxnumber (word_at v 0) h) (with_parameters (parameter_set dek tag v h.purse.parameters) h)

-- the value that a tag reads as; undefined 06 and 07 are empty, other undefined values zeros
unfoldable pub datum : Head → Bool → ℕ → List ℕ
datum h verified tag =
    let p = h.purse.parameters in
    pick (eqb tag 0x01) p.identifier
    (pick (eqb tag 0x02) (word p.currency)
    (pick (eqb tag 0x03) (word p.maxbalance)
    (pick (eqb tag 0x04) (word p.maxdebit)
    (pick (eqb tag 0x05) (word h.shared.maxnumber)
    (pick (eqb tag 0x06) (pick p.bank.defined p.bank.value [])
    (pick (eqb tag 0x07) (take p.agent.size p.agent.bytes)
    (pick (eqb tag 0x14) (word h.state.number)
    (pick (eqb tag 0x15) (word h.purse.balance)
    (pick (eqb tag 0x16) (h.state.tries ∷ [])
    (pick (eqb tag 0x17) (administrative h verified ∷ [])
    []))))))))))
