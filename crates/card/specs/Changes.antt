-- A change of a card, as one commit makes it: block H always (number, tries and balance), a log record or none, block C (parameters, keys
-- and PIN) or not. What installation fixes never changes. Assumes nothing.
use Rattle.std.specs.Prelude.{Bool, true, false, Option, Some, None, List, [], ◌∷◌, ◌-◌, length, take}
use Rattle.card.specs.declared.head.Purse.{Purse}
use Rattle.card.specs.declared.head.Head.{Head}
use Rattle.card.specs.declared.log.Record.{Record}
use Rattle.card.specs.declared.change.Change.{Change}
use Rattle.card.specs.Card.{Card}
use Rattle.card.specs.Updates.{with_state, with_balance}

-- ---- the three kinds that commands make

-- block H alone
abbrev pub hot_change : Head → Change
hot_change h = record { head = h; logged = None; cold = false }

-- block H and a log record
abbrev pub logged_change : Head → Record → Change
logged_change h r = record { head = h; logged = Some r; cold = false }

-- block H and block C
abbrev pub cold_change : Head → Change
cold_change h = record { head = h; logged = None; cold = true }

-- ---- the changed card

-- a purse keeps its AID
unfoldable pub purse_after : Purse → Purse → Purse
purse_after x p = record { aid = p.aid; parameters = x.parameters; debit = x.debit; credit = x.credit; balance = x.balance }

-- the head h after a change to x, with block C or without
unfoldable pub head_after : Bool → Head → Head → Head
head_after true x h =
    record { fixed = h.fixed; shared = x.shared; purse = purse_after x.purse h.purse; pin = x.pin; state = x.state }
head_after false x h = with_state x.state (with_balance x.purse.balance h)

-- "Record 1 is the newest; the oldest gives way"
unfoldable pub log_after : Option Record → List Record → List Record
log_after None log = log
log_after (Some r) log = r ∷ take (length log - 1) log

-- the changed card
unfoldable pub changed : Change → Card → Card
changed x c = record { head = head_after x.cold x.head c.head; log = log_after x.logged c.log }

-- a card after changes in a row
unfoldable pub after : List Change → Card → Card
after [] c = c
after (x ∷ xs) c = after xs (changed x c)
