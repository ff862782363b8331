-- A head with one of its parts replaced. Assumes nothing.
use Rattle.std.specs.Prelude.{true, List, ℕ}
use Rattle.card.specs.declared.head.Parameters.{Parameters}
use Rattle.card.specs.declared.head.Purse.{Purse}
use Rattle.card.specs.declared.head.State.{State}
use Rattle.card.specs.declared.head.Head.{Head}

-- number and tries
unfoldable pub with_state : State → Head → Head
with_state s h = record { fixed = h.fixed; shared = h.shared; purse = h.purse; pin = h.pin; state = s }

-- tries alone
unfoldable pub with_tries : ℕ → Head → Head
with_tries n h = with_state (record { number = h.state.number; tries = n }) h

-- the purse
unfoldable pub with_purse : Purse → Head → Head
with_purse p h = record { fixed = h.fixed; shared = h.shared; purse = p; pin = h.pin; state = h.state }

-- tag 15
unfoldable pub with_balance : ℕ → Head → Head
with_balance n h =
    let p = h.purse in
    with_purse (record { aid = p.aid; parameters = p.parameters; debit = p.debit; credit = p.credit; balance = n }) h

-- tags 01 to 04, 06 and 07
unfoldable pub with_parameters : Parameters → Head → Head
with_parameters q h =
    let p = h.purse in
    with_purse (record { aid = p.aid; parameters = q; debit = p.debit; credit = p.credit; balance = p.balance }) h

-- tag 05
unfoldable pub with_maxnumber : ℕ → Head → Head
with_maxnumber n h =
    record {
      fixed = h.fixed;
      shared = record { maxnumber = n; admin = h.shared.admin };
      purse = h.purse;
      pin = h.pin;
      state = h.state;
    }

-- a PIN, with tries full
unfoldable pub with_pin : List ℕ → Head → Head
with_pin block h =
    record {
      fixed = h.fixed;
      shared = h.shared;
      purse = h.purse;
      pin = record { defined = true; block = block };
      state = record { number = h.state.number; tries = h.fixed.maxtries };
    }
