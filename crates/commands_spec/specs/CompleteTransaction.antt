-- COMPLETE TRANSACTION 94 46 00 00: "context; signed; personalized and directly after a successful INITIALIZE TRANSACTION, else
-- 6985; level 11. Also 6985 if it would pass a balance or number limit. Moves balance, number (by one) and log together; the record
-- carries the new number. Answer, all new: identifier, number, operational status, R-MAC." Document 02, request 4: the record ends in
-- "the key set that opened the channel", the one in which the command runs. Assumes nothing.
use Rattle.std.specs.Prelude.{Bool, true, false, not, List, ◌++◌, ℕ, ◌+◌, leb}
use Rattle.octets.specs.Choice.{refuse}
use Rattle.octets.specs.Words.{word}
use Rattle.octets.specs.Buffers.{holding}
use Rattle.card.specs.declared.head.Head.{Head}
use Rattle.card.specs.declared.log.Record.{Record}
use Rattle.session.specs.declared.Pending.{Pending}
use Rattle.session.specs.declared.Pending.TheVariants.{Nothing, Update, Debiting, Crediting}
use Rattle.session.specs.declared.Session.{Session}
use Rattle.session.specs.Transitions.{ended, answered}
use Rattle.session.specs.Access.{has_rmac}
use Rattle.session.specs.Codes.{opened_by, amount_of}
use Rattle.channel.specs.Channel.{rmac_of}
use Rattle.commands_spec.specs.declared.outcome.Commits.TheVariants.{HotAndRecord}
use Rattle.commands_spec.specs.declared.outcome.Outcome.{Outcome}
use Rattle.commands_spec.specs.Outcomes.{decided}
use Rattle.card.specs.Updates.{with_state, with_balance}
use Rattle.commands_spec.specs.Status.{operational}
use Rattle.commands_spec.specs.Transaction.{new_balance, keeps_limits, log_amount}

-- a transaction's amount is noted
unfoldable pub is_noted : Pending → Bool
is_noted Nothing = false
is_noted (Update set) = false
is_noted (Debiting amount) = true
is_noted (Crediting amount) = true

-- and it is a debit's
unfoldable pub is_debit : Pending → Bool
is_debit Nothing = false
is_debit (Update set) = false
is_debit (Debiting amount) = true
is_debit (Crediting amount) = false

-- steps 7 to 11
unfoldable pub complete_status : Head → Session → ℕ
complete_status h s =
    refuse (not h.purse.parameters.personalized) 0x6985
    (refuse (not (is_noted s.pending)) 0x6985
    (refuse (not (has_rmac s.channel.level)) 0x6982
    (refuse (leb h.shared.maxnumber h.state.number) 0x6985
    (refuse (not (keeps_limits (is_debit s.pending) (amount_of s.pending) h.purse.balance h.purse.parameters.maxbalance)) 0x6985
    0x9000))))

-- number and balance after it
unfoldable pub booked : Bool → ℕ → Head → Head
booked debit amount h =
    with_state (record { number = h.state.number + 1; tries = h.state.tries })
    (with_balance (new_balance debit amount h.purse.balance) h)

-- "transaction number, currency, amount (signed, a debit negative), new balance, 16 context bytes", of the head afterwards; "then one byte
-- with the key set"
unfoldable pub log_record : Bool → ℕ → Head → List ℕ → ℕ → Record
log_record debit amount h context keyset =
    record {
      number = h.state.number;
      currency = h.purse.parameters.currency;
      amount = log_amount debit amount;
      balance = h.purse.balance;
      context = context;
      keyset = keyset;
    }

-- "Answer, all new: identifier, number, operational status"
unfoldable pub complete_answer : Head → List ℕ
complete_answer h = h.purse.parameters.identifier ++ word h.state.number ++ operational h

-- the command past step 6
unfoldable pub complete_transaction_of : Head → Session → List ℕ → Outcome
complete_transaction_of h s context =
    let debit = is_debit s.pending in
    let amount = amount_of s.pending in
    let next = booked debit amount h in
    let answer = complete_answer next in
    let mac = rmac_of s.channel.mac s.channel.rmac s.channel.cmac answer in
    decided (complete_status h s) h (ended s)
    (record {
      status = 0x9000;
      commits = HotAndRecord;
      head = next;
      logged = log_record debit amount next context (opened_by s.channel.level);
      reply = holding (answer ++ mac ++ word 0x9000);
      session = answered Nothing mac s;
    })
