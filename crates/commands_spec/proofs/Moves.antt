-- Only COMPLETE TRANSACTION with 9000 moves money: balance, number and log together. Assumes nothing.
use mathlib.Core.Bool.{true, false, false≢true}
use mathlib.Core.List.{List, ◌∷◌}
use mathlib.Core.Path.{◌≡◌, refl}
use Prim.Native.Nat.{ℕ, ◌+◌, ◌-◌, ◌≤◌, ◌<◌}
use native.Mathlib.Omega.{arith}
use borrow.Author.Tests.{leb-true}
use lib.ListN.{length, take}
use Rattle.std.specs.Prelude.{Ok}
use Rattle.octets.specs.Bytes.{part}
use Rattle.card.specs.declared.head.Head.{Head}
use Rattle.card.specs.declared.log.Record.{Record}
use Rattle.card.specs.Card.{Card}
use Rattle.card.specs.Changes.{logged_change, changed, head_after, log_after, after}
use Rattle.session.specs.declared.Level.{Level}
use Rattle.session.specs.declared.Pending.{Pending}
use Rattle.session.specs.declared.Pending.TheVariants.{Nothing, Update, Debiting, Crediting}
use Rattle.session.specs.declared.Session.{Session}
use Rattle.session.specs.Transitions.{chained}
use Rattle.session.specs.Codes.{opened_by, amount_of}
use Rattle.apdu.specs.declared.instructions.Signed.TheVariants.{CompleteTransaction}
use Rattle.apdu.specs.declared.instructions.Instruction.TheVariants.{IsSigned}
use Rattle.commands_spec.specs.declared.outcome.Outcome.{Outcome}
use Rattle.commands_spec.specs.Outcomes.{refused, done, decided, tried, changes_of, commits_of}
use Rattle.card.specs.Updates.{with_state, with_tries, with_balance, with_purse}
use Rattle.commands_spec.specs.Transaction.{new_balance, keeps_limits}
use Rattle.commands_spec.specs.VerifyPin.{judged}
use Rattle.commands_spec.specs.CompleteTransaction.{is_noted, is_debit, booked, log_record, complete_status, complete_transaction_of}
use Rattle.commands_spec.specs.Respond.{named, respond, card_after}
use Rattle.commands_spec.proofs.Judgements.{complete_passed}
use Rattle.commands_spec.proofs.Ways.{Way, refuses, mismatch, judges, answers, books, way, afterwards, Kept}
use Rattle.commands_spec.proofs.Notes.{completes}

-- what is pending takes from the balance, and adds to it
unfoldable pub debit_of : Pending → ℕ
debit_of Nothing = 0
debit_of (Update set) = 0
debit_of (Debiting amount) = amount
debit_of (Crediting amount) = 0

unfoldable pub credit_of : Pending → ℕ
credit_of Nothing = 0
credit_of (Update set) = 0
credit_of (Debiting amount) = 0
credit_of (Crediting amount) = amount

-- the head after what is pending, and its record
abbrev pub booked_head : Card → Pending → Head
booked_head c p = booked (is_debit p) (amount_of p) c.head

abbrev pub booked_record : Card → Pending → List ℕ → Level → Record
booked_record c p context l = log_record (is_debit p) (amount_of p) (booked_head c p) context (opened_by l)

-- what is pending moved, with the context that the command gives, in a channel
pub record Moved (c : Card) (p : Pending) (context : List ℕ) (l : Level) (d : Card) : Type 0 where
  pub is : d ≡ changed (logged_change (booked_head c p) (booked_record c p context l)) c
  pub number : d.head.state.number ≡ c.head.state.number + 1
  pub room : c.head.state.number < c.head.shared.maxnumber
  pub balance : d.head.purse.balance + debit_of p ≡ c.head.purse.balance + credit_of p
  pub limit : c.head.purse.balance ≤ c.head.purse.parameters.maxbalance → d.head.purse.balance ≤ d.head.purse.parameters.maxbalance
  pub log : d.log ≡ booked_record c p context l ∷ take (length c.log - 1) c.log

-- the sum, and the limit
pub moved-balance : (p : Pending) (x m : ℕ) → is_noted p ≡ true → keeps_limits (is_debit p) (amount_of p) x m ≡ true
    → (new_balance (is_debit p) (amount_of p) x + debit_of p ≡ x + credit_of p) × (x ≤ m → new_balance (is_debit p) (amount_of p) x ≤ m)
unfolding is_noted is_debit amount_of keeps_limits new_balance debit_of credit_of
moved-balance Nothing x m n k = absurd (false≢true n)
moved-balance (Update set) x m n k = absurd (false≢true n)
moved-balance (Debiting amount) x m n k = let h = leb-true amount x k in (omega arith, omega arith)
moved-balance (Crediting amount) x m n k = let h = leb-true (x + amount) m k in (omega arith, omega arith)

module _ (c : Card) (s : Session) (command : List ℕ) where
  completed : (mac : List ℕ) → complete_status c.head (chained mac s) ≡ 0x9000
      → Moved c s.pending (part command 5 16) s.channel.level (afterwards c (complete_transaction_of c.head (chained mac s) (part command 5 16)))
  unfolding complete_transaction_of decided commits_of changes_of after changed head_after log_after with_state with_balance with_purse chained booked
  completed mac j =
      let f = complete_passed _ _ j in
      let b = moved-balance s.pending c.head.purse.balance c.head.purse.parameters.maxbalance f.pending f.within in
      rw j (record { is = refl; number = refl; room = f.room; balance = b.0; limit = b.1; log = refl })

  stays : (o : Outcome) → Way c s command o → (named command ≡ Ok (IsSigned CompleteTransaction) → o.status ≡ 0x9000 → ⊥) → Kept c (afterwards c o)
  unfolding refused done judged complete_transaction_of decided commits_of changes_of after changed head_after log_after with_state with_tries with_balance with_purse tried
  stays o (refuses w t j e) x = rw e (record { balance = refl; number = refl; log = refl })
  stays o (mismatch t i e) x = rw e (record { balance = refl; number = refl; log = refl })
  stays o (judges true i k e) x = rw e (record { balance = refl; number = refl; log = refl })
  stays o (judges false i k e) x = rw e (record { balance = refl; number = refl; log = refl })
  stays o (answers commits next t answer n q e) x = rw e q.kept
  stays o (books mac i j e) x = absurd (x i (rw (e, j)))

-- balance, number and log move together or not at all
pub record Moves (c : Card) (s : Session) (command : List ℕ) (o : Outcome) (d : Card) : Type 0 where
  pub moved : named command ≡ Ok (IsSigned CompleteTransaction) → o.status ≡ 0x9000 → Moved c s.pending (part command 5 16) s.channel.level d
  pub kept : (named command ≡ Ok (IsSigned CompleteTransaction) → o.status ≡ 0x9000 → ⊥) → Kept c d

-- of every command
pub only-complete_moves : (c : Card) (s : Session) (command random : List ℕ)
    → Moves c s command (respond c s command random) (card_after c s command random)
unfolding card_after
only-complete_moves c s command random =
    let o = respond c s command random in
    record {
      moved = λ i f. let b = completes c s command random i f in rw b.is (completed c s command b.mac b.passed);
      kept = stays c s command o (way c s command random);
    }
