-- Administrative and operational status: document 01, "What the card keeps". Assumes nothing.
use Rattle.std.specs.Prelude.{Bool, not, ◌&&◌, List, ◌++◌, ℕ, ◌+◌, ◌-◌, min, eqb}
use Rattle.octets.specs.Choice.{pick}
use Rattle.octets.specs.Words.{word}
use Rattle.card.specs.declared.head.Head.{Head}

-- "10 personalized, 20 bank information and PIN both defined, 40 agent defined, 80 PIN validated"
unfoldable pub administrative : Head → Bool → ℕ
administrative h verified =
    pick h.purse.parameters.personalized 0x10 0
    + pick (h.purse.parameters.bank.defined && h.pin.defined) 0x20 0
    + pick (not (eqb h.purse.parameters.agent.size 0)) 0x40 0
    + pick verified 0x80 0

-- "remaining transactions, currency, balance, allowed debit (lesser of balance and maximum debit), allowed credit (maximum balance
-- less balance)"
unfoldable pub operational : Head → List ℕ
operational h =
    word (h.shared.maxnumber - h.state.number)
    ++ word h.purse.parameters.currency
    ++ word h.purse.balance
    ++ word (min h.purse.balance h.purse.parameters.maxdebit)
    ++ word (h.purse.parameters.maxbalance - h.purse.balance)
