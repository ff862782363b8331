-- How a command can end: a refusal that keeps the card; a wrong cryptogram; a PIN judged; an answer that moves no money; a transaction
-- completed. Assumes nothing.
use mathlib.Core.Bool.{Bool, true, false, not, false≢true}
use mathlib.Core.List.{List, [], ◌++◌}
use mathlib.Core.Path.{◌≡◌, refl, sym, ap, ◌∙◌}
use Prim.Native.Nat.{ℕ, ◌-◌, ◌≤◌, ◌<◌}
use native.Mathlib.Omega.{arith}
use borrow.Author.Tests.{eqb-true}
use lib.Dec.{eqb}
use lib.ListN.{length, get_or, take}
use Rattle.std.specs.Prelude.{Result, Ok, Err}
use Rattle.octets.specs.Bytes.{zeros, byte_at, part, same}
use Rattle.octets.proofs.Rules.{pick_holds}
use Rattle.card.specs.declared.head.State.{State}
use Rattle.card.specs.declared.head.Head.{Head}
use Rattle.card.specs.Log.{void}
use Rattle.card.specs.Card.{Card}
use Rattle.card.specs.Changes.{changed, head_after, log_after, purse_after, after}
use Rattle.session.specs.declared.Pending.{Pending}
use Rattle.session.specs.declared.Pending.TheVariants.{Nothing, Update, Debiting, Crediting}
use Rattle.session.specs.declared.Session.{Session}
use Rattle.session.specs.Transitions.{ended, closed, reselected, chained}
use Rattle.session.specs.Codes.{set_of, amount_of}
use Rattle.channel.specs.Channel.{cmac_of, rmac_of}
use Rattle.apdu.specs.declared.instructions.Plain.{Plain}
use Rattle.apdu.specs.declared.instructions.Plain.TheVariants.{Select, InitializeUpdate, ExternalAuthenticate, VerifyPin, GetData, ReadRecord}
use Rattle.apdu.specs.declared.instructions.Signed.{Signed}
use Rattle.apdu.specs.declared.instructions.Signed.TheVariants.{PutKey, PinChange, StoreData, InitializeTransaction, CompleteTransaction, PutData}
use Rattle.apdu.specs.declared.instructions.Instruction.{Instruction}
use Rattle.apdu.specs.declared.instructions.Instruction.TheVariants.{IsPlain, IsSigned}
use Rattle.apdu.specs.declared.refusals.Refusal.{Refusal}
use Rattle.apdu.specs.Parsing.{data_of}
use Rattle.apdu.specs.Lengths.{mac_size, signed_length}
use Rattle.apdu.proofs.Shapes.{header}
use Rattle.commands_spec.specs.declared.outcome.Commits.{Commits}
use Rattle.commands_spec.specs.declared.outcome.Commits.TheVariants.{Unchanged, Hot, HotAndCold}
use Rattle.commands_spec.specs.declared.outcome.Outcome.{Outcome}
use Rattle.commands_spec.specs.Outcomes.{refused, done, decided, changes_of, commits_of}
use Rattle.commands_spec.specs.Words.{is_one, refusals}
use Rattle.card.specs.Updates.{with_state, with_tries, with_pin, with_parameters, with_balance, with_purse}
use Rattle.commands_spec.specs.KeySets.{key_set_of}
use Rattle.commands_spec.specs.Select.{select_of}
use Rattle.commands_spec.specs.InitializeUpdate.{initialize_update_of}
use Rattle.commands_spec.specs.ExternalAuthenticate.{authenticated, external_authenticate_of}
use Rattle.commands_spec.specs.PutKey.{put_key_of}
use Rattle.commands_spec.specs.PinChange.{pin_change_of}
use Rattle.commands_spec.specs.StoreData.{personalized, store_data_of}
use Rattle.commands_spec.specs.VerifyPin.{judged, verify_pin_of}
use Rattle.commands_spec.specs.InitializeTransaction.{initialize_transaction_of}
use Rattle.commands_spec.specs.CompleteTransaction.{is_debit, booked, complete_status, complete_answer, complete_transaction_of}
use Rattle.commands_spec.specs.GetData.{get_data_of}
use Rattle.commands_spec.specs.PutData.{put_data_status, put_data_of}
use Rattle.commands_spec.specs.ReadRecord.{asked, read_record_of}
use Rattle.commands_spec.specs.Respond.{plain_of, signed_of, named, respond}
use Rattle.commands_spec.proofs.Steps.{Judged, early_refusal, decided_holds, mac_of, Passed, Accepted, respond_holds}
use Rattle.commands_spec.proofs.Judgements.{put_key_judged, pin-judged, store_judged, verify_judged, initialize_judged, complete-judged, data_judged, verify_tries}
use Rattle.commands_spec.proofs.SameElse.{Rest, head_reached, keys-rest, same_itself, datum-same, all_same}

-- the card that an outcome leaves
abbrev pub afterwards : Card → Outcome → Card
afterwards c o = after (commits_of o) c

-- what COMPLETE TRANSACTION leaves and sends, its status word apart
abbrev pub completed_head : Head → Session → Head
completed_head h s = booked (is_debit s.pending) (amount_of s.pending) h

abbrev pub completed_answer : Head → Session → List ℕ
completed_answer h s =
    let answer = complete_answer (completed_head h s) in
    answer ++ rmac_of s.channel.mac s.channel.rmac s.channel.cmac answer

-- balance, number and log are as before
pub record Kept (c d : Card) : Type 0 where
  pub balance : d.head.purse.balance ≡ c.head.purse.balance
  pub number : d.head.state.number ≡ c.head.state.number
  pub log : d.log ≡ c.log

-- VERIFY PIN and COMPLETE TRANSACTION, past their rules, have ways of their own
unfoldable pub own_way : Result Instruction Refusal → Bool
own_way (Ok (IsPlain Select)) = false
own_way (Ok (IsPlain InitializeUpdate)) = false
own_way (Ok (IsPlain ExternalAuthenticate)) = false
own_way (Ok (IsPlain VerifyPin)) = true
own_way (Ok (IsPlain GetData)) = false
own_way (Ok (IsPlain ReadRecord)) = false
own_way (Ok (IsSigned PutKey)) = false
own_way (Ok (IsSigned PinChange)) = false
own_way (Ok (IsSigned StoreData)) = false
own_way (Ok (IsSigned InitializeTransaction)) = false
own_way (Ok (IsSigned CompleteTransaction)) = true
own_way (Ok (IsSigned PutData)) = false
own_way (Err x) = false

-- SELECT, INITIALIZE UPDATE, EXTERNAL AUTHENTICATE, INITIALIZE TRANSACTION, GET DATA and READ RECORD, and what is no command
unfoldable pub is_reader : Result Instruction Refusal → Bool
is_reader (Ok (IsPlain Select)) = true
is_reader (Ok (IsPlain InitializeUpdate)) = true
is_reader (Ok (IsPlain ExternalAuthenticate)) = true
is_reader (Ok (IsPlain VerifyPin)) = false
is_reader (Ok (IsPlain GetData)) = true
is_reader (Ok (IsPlain ReadRecord)) = true
is_reader (Ok (IsSigned PutKey)) = false
is_reader (Ok (IsSigned PinChange)) = false
is_reader (Ok (IsSigned StoreData)) = false
is_reader (Ok (IsSigned InitializeTransaction)) = true
is_reader (Ok (IsSigned CompleteTransaction)) = false
is_reader (Ok (IsSigned PutData)) = false
is_reader (Err x) = true

-- at most one commit, which leaves that head; no change of balance, number or log; no commit of a reader
pub record Quiet (c : Card) (i : Result Instruction Refusal) (commits : Commits) (next : Head) : Type 0 where
  pub few : length (changes_of commits next void) ≤ 1
  pub reached : (after (changes_of commits next void) c).head ≡ next
  pub kept : Kept c (after (changes_of commits next void) c)
  pub reads : is_reader i ≡ true → commits ≡ Unchanged

-- the ways; each says what the outcome is
pub data Way (c : Card) (s : Session) (command : List ℕ) (o : Outcome) : Type 0 where
  refuses : (w : ℕ) (t : Session) → is_one w refusals ≡ true → o ≡ refused c.head t w → Way c s command o
  mismatch : (t : Session) → named command ≡ Ok (IsPlain ExternalAuthenticate) → o ≡ refused c.head t 0x6300 → Way c s command o
  judges : (right : Bool) → named command ≡ Ok (IsPlain VerifyPin) → 0 < c.head.state.tries → o ≡ judged right c.head s → Way c s command o
  answers : (commits : Commits) (next : Head) (t : Session) (answer : List ℕ) → own_way (named command) ≡ false → Quiet c (named command) commits next
      → o ≡ done commits next t answer → Way c s command o
  books : (mac : List ℕ) → named command ≡ Ok (IsSigned CompleteTransaction) → complete_status c.head (chained mac s) ≡ 0x9000
      → o ≡ complete_transaction_of c.head (chained mac s) (part command 5 16) → Way c s command o

-- a word that isn't one of them wasn't refused
pub not_refused : (h : Head) (t : Session) (w x : ℕ) (o : Outcome) → is_one w refusals ≡ true → o ≡ refused h t w → o.status ≡ x → is_one x refusals ≡ false → ⊥
unfolding refused
not_refused h t w x o j e f n =
    let k : w ≡ x = sym (ap (λ (u : Outcome). u.status) e) ∙ f in
    false≢true (sym n ∙ ap (λ (y : ℕ). is_one y refusals) (sym k) ∙ j)

-- ---- what keeps balance, number and log

module _ (c : Card) (i : Result Instruction Refusal) where
  unchanged : Quiet c i Unchanged c.head
  unfolding after changes_of
  unchanged = record { few = omega arith; reached = refl; kept = record { balance = refl; number = refl; log = refl }; reads = λ e. refl }

  module _ (n : is_reader i ≡ false) where
    writes : {commits : Commits} → is_reader i ≡ true → commits ≡ Unchanged
    writes e = absurd (false≢true (sym n ∙ e))

    -- parameters or keys
    settings : (next : Head) → Rest c.head next → Quiet c i HotAndCold next
    unfolding after changes_of changed head_after log_after purse_after
    settings next r =
        record {
          few = omega arith;
          reached = head_reached c.head next r.fixed r.aid;
          kept = record { balance = r.balance; number = ap (λ (s : State). s.number) r.state; log = refl };
          reads = writes;
        }

    refilled : (n : ℕ) → Quiet c i Hot (with_tries n c.head)
    unfolding after changes_of changed head_after log_after with_tries with_state with_balance with_purse
    refilled n = record { few = omega arith; reached = refl; kept = record { balance = refl; number = refl; log = refl }; reads = writes }

    new_pin : (block : List ℕ) → Quiet c i HotAndCold (with_pin block c.head)
    unfolding after changes_of changed head_after log_after purse_after with_pin
    new_pin block = record { few = omega arith; reached = refl; kept = record { balance = refl; number = refl; log = refl }; reads = writes }

-- ---- the commands

module _ (c : Card) (s : Session) (command random : List ℕ) where
  abbrev W : Outcome → Type 0
  W o = Way c s command o

  refusal : (t : Session) (w : ℕ) → is_one w refusals ≡ true → W (refused c.head t w)
  refusal t w j = refuses w t j refl

  tells : (t : Session) (answer : List ℕ) → own_way (named command) ≡ false → W (done Unchanged c.head t answer)
  tells t answer n = answers Unchanged c.head t answer n (unchanged c (named command)) refl

  sets : (next : Head) (t : Session) → own_way (named command) ≡ false → is_reader (named command) ≡ false → Rest c.head next → W (done HotAndCold next t [])
  sets next t n m r = answers HotAndCold next t [] n (settings c (named command) m next r) refl

  authenticates : (pending : Pending) (p1 : ℕ) (body : List ℕ) → named command ≡ Ok (IsPlain ExternalAuthenticate)
      → W (external_authenticate_of pending c.head s p1 command body)
  unfolding external_authenticate_of authenticated own_way is_one refusals
  authenticates (Update set) p1 body e =
      pick_holds W (not (same (part body 0 8) s.offer.expected)) _ _ (λ t. mismatch (closed s) e refl)
      (λ t. pick_holds W (not (same (part body 8 8) (cmac_of s.offer.mac (zeros 8) command 13))) _ _ (λ u. refusal (closed s) 0x6982 refl)
      (λ u. tells _ [] (rw e)))
  authenticates Nothing p1 body e = refusal (ended s) 0x6985 refl
  authenticates (Debiting n) p1 body e = refusal (ended s) 0x6985 refl
  authenticates (Crediting n) p1 body e = refusal (ended s) 0x6985 refl

  -- a plain command past step 5
  pub plain_way : (p : Plain) (lc : ℕ) → Passed c s command p lc
      → W (plain_of p c.head (get_or c.log (asked command) void) s (header command lc) command (data_of command lc) random)
  unfolding plain_of select_of initialize_update_of verify_pin_of get_data_of read_record_of own_way is_one refusals
  plain_way Select lc f =
      let e = f.names in
      pick_holds W (same (data_of command lc) (take c.head.purse.aid.size c.head.purse.aid.bytes)) _ _
      (λ t. tells _ _ (rw e)) (λ t. refusal (reselected false s) 0x6A82 refl)
  plain_way InitializeUpdate lc f =
      let e = f.names in
      pick_holds W (not (key_set_of (set_of (byte_at command 2)) c.head).defined) _ _ (λ t. refusal (ended s) 0x6A88 refl) (λ t. tells _ _ (rw e))
  plain_way ExternalAuthenticate lc f = authenticates s.pending (byte_at command 2) (data_of command lc) f.names
  plain_way VerifyPin lc f =
      decided_holds W refusals _ _ _ _ (verify_judged _ _ _ _) (λ t. judges _ f.names (verify_tries _ _ _ _ t) refl) (refusal (ended s) _)
  plain_way GetData lc f = let e = f.names in tells _ _ (rw e)
  plain_way ReadRecord lc f = let e = f.names in tells _ _ (rw e)

  completes : (mac : List ℕ) → named command ≡ Ok (IsSigned CompleteTransaction) → W (complete_transaction_of c.head (chained mac s) (part command 5 16))
  unfolding complete_transaction_of decided is_one
  completes mac e = go (eqb w 0x9000) refl
    where
      t : Session
      t = chained mac s

      w : ℕ
      w = complete_status c.head t

      go : (b : Bool) → eqb w 0x9000 ≡ b → W (complete_transaction_of c.head t (part command 5 16))
      go true p = books mac e (eqb-true w 0x9000 p) refl
      go false p =
          let j : Judged refusals w = complete-judged _ _ in
          refuses w (ended t) (rw p at j) (rw p)

  signed_way : (g : Signed) (lc : ℕ) → Accepted s command g lc
      → W (signed_of g c.head (chained (mac_of s command lc) s) (header command lc) (data_of command (lc - mac_size)))
  unfolding signed_of put_key_of pin_change_of store_data_of initialize_transaction_of put_data_of put_data_status personalized with_parameters with_purse own_way is_reader signed_length
  signed_way PutKey lc f =
      let e = f.names in
      decided_holds W refusals _ _ _ _ (put_key_judged _) (λ t. sets _ _ (rw e) (rw e) (keys-rest _ _ _)) (refusal _ _)
  signed_way PinChange lc f =
      let e = f.names in
      decided_holds W refusals _ _ _ _ (pin-judged _ _ _ _)
      (λ t. pick_holds W (eqb (length (data_of command (lc - mac_size))) 0) _ _
      (λ u. answers Hot _ _ [] (rw e) (refilled c _ (rw e) _) refl) (λ u. answers HotAndCold _ _ [] (rw e) (new_pin c _ (rw e) _) refl))
      (refusal _ _)
  signed_way StoreData lc f =
      let e = f.names in
      decided_holds W refusals _ _ _ _ (store_judged _ _ _ _ _)
      (λ t.
      let r = (all_same (length (data_of command (lc - mac_size))) c.head _ (data_of command (lc - mac_size)) _ (same_itself c.head)).rest in
      sets _ _ (rw e) (rw e) (record { fixed = r.fixed; aid = r.aid; balance = r.balance; state = r.state }))
      (refusal _ _)
  signed_way InitializeTransaction lc f =
      let e = f.names in
      decided_holds W refusals _ _ _ _ (initialize_judged _ _ _ _ _) (λ t. tells _ _ (rw e)) (refusal _ _)
  signed_way CompleteTransaction lc f =
      let k : lc ≡ 24 = eqb-true lc 24 f.long in
      rw k (completes (mac_of s command 24) f.names)
  signed_way PutData lc f =
      let e = f.names in
      decided_holds W refusals _ _ _ _ (data_judged _ _ _ _ _) (λ t. sets _ _ (rw e) (rw e) (datum-same _ _ _ _).rest) (refusal _ _)

  -- every command takes one of them
  pub way : Way c s command (respond c s command random)
  unfolding is_one refusals
  way =
      respond_holds c s command random W (λ w j. refusal (ended s) w (early_refusal w j)) (λ g e. refusal (closed s) 0x6982 refl) plain_way signed_way
