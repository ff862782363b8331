-- What is noted: a transaction that COMPLETE TRANSACTION books was noted; INITIALIZE TRANSACTION with 9000 notes its amount and kind;
-- after any other command no amount is noted. Assumes nothing.
use mathlib.Core.Bool.{true, false, false≢true}
use mathlib.Core.List.{List}
use mathlib.Core.Path.{◌≡◌, refl, sym, ap, ◌∙◌}
use Prim.Native.Nat.{ℕ}
use native.Mathlib.Omega.{arith}
use borrow.Author.Tests.{eqb-true}
use lib.Dec.{eqb}
use Rattle.std.specs.Prelude.{Result, Ok, Err}
use Rattle.octets.specs.Bytes.{byte_at, part}
use Rattle.octets.specs.Words.{word_at}
use Rattle.octets.proofs.Rules.{pick_holds}
use Rattle.card.specs.Card.{Card}
use Rattle.session.specs.declared.Pending.{Pending}
use Rattle.session.specs.declared.Session.{Session}
use Rattle.session.specs.Transitions.{chained}
use Rattle.apdu.specs.declared.instructions.Plain.TheVariants.{Select, InitializeUpdate, ExternalAuthenticate, VerifyPin, GetData, ReadRecord}
use Rattle.apdu.specs.declared.instructions.Signed.TheVariants.{PutKey, PinChange, StoreData, InitializeTransaction, CompleteTransaction, PutData}
use Rattle.apdu.specs.declared.instructions.Instruction.{Instruction}
use Rattle.apdu.specs.declared.instructions.Instruction.TheVariants.{IsPlain, IsSigned}
use Rattle.apdu.specs.declared.refusals.Refusal.{Refusal}
use Rattle.commands_spec.specs.declared.outcome.Outcome.{Outcome}
use Rattle.commands_spec.specs.Outcomes.{refused, done}
use Rattle.commands_spec.specs.Words.{is_one, refusals}
use Rattle.commands_spec.specs.VerifyPin.{judged}
use Rattle.commands_spec.specs.InitializeTransaction.{noted}
use Rattle.commands_spec.specs.CompleteTransaction.{is_noted, complete_status, complete_transaction_of}
use Rattle.commands_spec.specs.Respond.{named, respond}
use Rattle.commands_spec.proofs.Judgements.{complete_passed}
use Rattle.commands_spec.proofs.Ways.{Way, refuses, mismatch, judges, answers, books, way, own_way, not_refused}
use Rattle.commands_spec.proofs.Sessions.{pending_after, ends_pending}

-- ---- COMPLETE TRANSACTION with 9000

-- its outcome, under the session with the chain of C-MACs moved on
pub record Booked (c : Card) (s : Session) (command : List ℕ) (o : Outcome) : Type 0 where
  pub mac : List ℕ
  pub passed : complete_status c.head (chained mac s) ≡ 0x9000
  pub is : o ≡ complete_transaction_of c.head (chained mac s) (part command 5 16)

booked_way : (c : Card) (s : Session) (command : List ℕ) (o : Outcome) → Way c s command o → named command ≡ Ok (IsSigned CompleteTransaction)
    → o.status ≡ 0x9000 → Booked c s command o
unfolding refused done judged own_way is_one refusals
booked_way c s command o (refuses w t j e) i f = absurd (not_refused c.head t w 0x9000 o j e f refl)
booked_way c s command o (mismatch t i' e) i f = absurd (let z : o.status ≡ 0x6300 = rw e in omega arith)
booked_way c s command o (judges right i' k e) i f = absurd (let z : ◌≡◌ {A = ℕ} 0 1 = cc in omega arith)
booked_way c s command o (answers commits next t answer n q e) i f = absurd (false≢true (sym n ∙ ap own_way i))
booked_way c s command o (books mac i' j e) i f = record { mac = mac; passed = j; is = e }

-- ---- what is noted afterwards

noted_by : (i : Result Instruction Refusal) (w : ℕ) (command : List ℕ) → (i ≡ Ok (IsSigned InitializeTransaction) → w ≡ 0x9000 → ⊥) → is_noted (pending_after i w command) ≡ false
unfolding pending_after is_noted
noted_by (Ok (IsPlain Select)) w command n = refl
noted_by (Ok (IsPlain InitializeUpdate)) w command n = pick_holds (λ (p : Pending). is_noted p ≡ false) (eqb w 0x9000) _ _ (λ e. refl) (λ e. refl)
noted_by (Ok (IsPlain ExternalAuthenticate)) w command n = refl
noted_by (Ok (IsPlain VerifyPin)) w command n = refl
noted_by (Ok (IsPlain GetData)) w command n = refl
noted_by (Ok (IsPlain ReadRecord)) w command n = refl
noted_by (Ok (IsSigned PutKey)) w command n = refl
noted_by (Ok (IsSigned PinChange)) w command n = refl
noted_by (Ok (IsSigned StoreData)) w command n = refl
noted_by (Ok (IsSigned InitializeTransaction)) w command n =
    pick_holds (λ (p : Pending). is_noted p ≡ false) (eqb w 0x9000) _ _ (λ e. absurd (n refl (eqb-true w 0x9000 e))) (λ e. refl)
noted_by (Ok (IsSigned CompleteTransaction)) w command n = refl
noted_by (Ok (IsSigned PutData)) w command n = refl
noted_by (Err x) w command n = refl

-- ---- the laws

module _ (c : Card) (s : Session) (command random : List ℕ) where
  abbrev O : Outcome
  O = respond c s command random

  -- its outcome is that of a transaction booked
  pub completes : named command ≡ Ok (IsSigned CompleteTransaction) → O.status ≡ 0x9000 → Booked c s command O
  completes = booked_way c s command O (way c s command random)

  -- a COMPLETE TRANSACTION with 9000 had a noted amount
  pub complete_was_noted : named command ≡ Ok (IsSigned CompleteTransaction) → O.status ≡ 0x9000 → is_noted s.pending ≡ true
  unfolding chained
  complete_was_noted i f = (complete_passed _ _ (completes i f).passed).pending

  -- an INITIALIZE TRANSACTION with 9000 notes its amount: P1 is byte 3 of the command, the amount bytes 8 and 9
  pub initialize_notes : named command ≡ Ok (IsSigned InitializeTransaction) → O.status ≡ 0x9000
      → O.session.pending ≡ noted (byte_at command 2) (word_at command 7)
  unfolding pending_after
  initialize_notes i f = (ends_pending c s command random).pending ∙ rw (i, f)

  -- after any other command nothing or an INITIALIZE UPDATE is pending
  pub others_note-nothing : (named command ≡ Ok (IsSigned InitializeTransaction) → O.status ≡ 0x9000 → ⊥) → is_noted O.session.pending ≡ false
  others_note-nothing n = ap is_noted (ends_pending c s command random).pending ∙ noted_by (named command) O.status command n
