-- P1 to P12 of document 01, "Sums to prove (P)": the commands give what each row of the table says. Assumes nothing.
use lib.Dec.{T}
use Rattle.session.specs.Transitions.{answered, reselected}
use Rattle.session.specs.Access.{access, access_of, has_rmac}
use Rattle.session.specs.Codes.{amount_of}
use Rattle.commands_spec.specs.Outcomes.{decided, refused, done}
use Rattle.card.specs.Log.{record_bytes}
use Rattle.card.specs.Updates.{with_state, with_balance, with_purse}
use Rattle.commands_spec.specs.Status.{administrative, operational}
use Rattle.commands_spec.specs.Select.{select_answer, select_of}
use Rattle.commands_spec.specs.Transaction.{not_above_zero, new_balance, keeps_limits, log_amount}
use Rattle.commands_spec.specs.InitializeTransaction.{initialize_status, lacks, entitled, noted, initialize_transaction_of}
use Rattle.commands_spec.specs.CompleteTransaction.{is_noted, is_debit, complete_status, booked, log_record, complete_transaction_of}
use Rattle.commands_spec.specs.Sums.{keys, card, session, transaction, selected, table, all}

pub sums : T (all table)
unfolding all table transaction selected card keys session operational administrative not_above_zero new_balance log_amount initialize_status lacks entitled noted keeps_limits is_noted is_debit amount_of complete_status booked log_record access access_of has_rmac initialize_transaction_of complete_transaction_of decided refused done answered with_state with_balance with_purse select_of select_answer reselected record_bytes
sums = tt
