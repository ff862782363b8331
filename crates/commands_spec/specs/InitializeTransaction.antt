-- INITIALIZE TRANSACTION 94 44, P1 00 debit, 01 cash credit, 02 bank credit, P2 00; currency, amount; signed. Steps 7 to 11.
-- Assumes nothing.
use Rattle.std.specs.Prelude.{Bool, not, ◌&&◌, ◌||◌, List, [], ◌++◌, ℕ, ◌+◌, ltb, leb, eqb}
use Rattle.octets.specs.Choice.{pick, refuse}
use Rattle.octets.specs.Words.{word_at}
use Rattle.card.specs.declared.head.Head.{Head}
use Rattle.session.specs.declared.Pending.{Pending}
use Rattle.session.specs.declared.Pending.TheVariants.{Debiting, Crediting}
use Rattle.session.specs.declared.Session.{Session}
use Rattle.session.specs.Transitions.{ended, answered}
use Rattle.session.specs.Access.{access, has_rmac, DEBIT, CREDIT}
use Rattle.channel.specs.Channel.{rmac_of, bank_sent}
use Rattle.commands_spec.specs.declared.outcome.Commits.TheVariants.{Unchanged}
use Rattle.commands_spec.specs.declared.outcome.Outcome.{Outcome}
use Rattle.commands_spec.specs.Outcomes.{done, decided}
use Rattle.commands_spec.specs.KeySets.{dek_of}
use Rattle.commands_spec.specs.Transaction.{not_above_zero}

-- "P1 02 without bank information or PIN: 6A81"
unfoldable pub lacks : ℕ → Bool → Bool → Bool
lacks p1 bank pin = eqb p1 0x02 && not (bank && pin)

-- whether access and PIN flag are enough: "Access DEBIT, CREDIT" of a debit and a cash credit; document 02, request 1: "P1 02 needs the PIN
-- flag set, and access CREDIT or higher"
unfoldable pub entitled : ℕ → ℕ → Bool → Bool
entitled p1 held flag =
    pick (eqb p1 0x00) (leb DEBIT held)
    (pick (eqb p1 0x01) (leb CREDIT held)
    (flag && leb CREDIT held))

-- the first rule that refuses, in 01's order: 7, 8, 9, 10, 11
unfoldable pub initialize_status : Head → Session → ℕ → ℕ → ℕ → ℕ
initialize_status h s p1 currency amount =
    let p = h.purse.parameters in
    let balance = h.purse.balance in
    let debit = eqb p1 0x00 in
    refuse (not p.personalized) 0x6985
    (refuse (lacks p1 p.bank.defined h.pin.defined) 0x6A81
    (refuse (not (entitled p1 (access s.channel.level) s.verified)) 0x6982
    (refuse (not (has_rmac s.channel.level)) 0x6982
    (refuse (leb h.shared.maxnumber h.state.number) 0x9410
    (refuse (not (eqb currency p.currency)) 0x9411
    (refuse (not_above_zero amount) 0x9412
    (refuse (debit && (ltb p.maxdebit amount || ltb balance amount)) 0x9413
    (refuse (not debit && ltb p.maxbalance (balance + amount)) 0x9414
    0x9000))))))))

-- "Answer: identifier, bank information if P1 02"
unfoldable pub initialize_answer : Head → Session → ℕ → List ℕ
initialize_answer h s p1 =
    h.purse.parameters.identifier
    ++ pick (eqb p1 0x02) (bank_sent (dek_of s.channel.level h) h.purse.parameters.bank.value) []

-- the amount is noted, a debit's or a credit's
unfoldable pub noted : ℕ → ℕ → Pending
noted p1 amount = pick (eqb p1 0x00) (Debiting amount) (Crediting amount)

-- the command past step 6
unfoldable pub initialize_transaction_of : Head → Session → ℕ → List ℕ → Outcome
initialize_transaction_of h s p1 body =
    let currency = word_at body 0 in
    let amount = word_at body 2 in
    let answer = initialize_answer h s p1 in
    let mac = rmac_of s.channel.mac s.channel.rmac s.channel.cmac answer in
    decided (initialize_status h s p1 currency amount) h (ended s)
    (done Unchanged h (answered (noted p1 amount) mac s) (answer ++ mac))
