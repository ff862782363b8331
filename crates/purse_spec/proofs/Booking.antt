-- One call and the ledger: where memory reads as a card whose balance is the ledger's sum, and the ledger's note is what the session has
-- noted, the same holds behind any call but a cut installation. Assumes nothing.
use Rattle.std.specs.Prelude.{Ok}
use mathlib.Core.Bool.{Bool, true, false, ◌&&◌, false≢true}
use mathlib.Core.List.{List}
use mathlib.Core.Option.{Option, none, some}
use mathlib.Core.Path.{◌≡◌, refl, sym, ap, ◌∙◌, subst}
use Prim.Native.Nat.{ℕ, ◌+◌, ◌-◌, ◌≤◌, ◌<◌}
use native.Mathlib.Omega.{arith}
use borrow.Author.Tests.{eqb-true, ne_eqb, le-ltb}
use lib.Dec.{eqb}
use lib.ListN.{length}
use Rattle.octets.specs.Choice.{pick}
use Rattle.octets.specs.Bytes.{byte_at, paste}
use Rattle.octets.specs.Words.{word_at}
use Rattle.octets.specs.Buffers.{content}
use Rattle.octets.proofs.Rules.{and_right, pick_holds}
use Rattle.octets.proofs.Conditions.{and_both}
use Rattle.stores.specs.Stores.{leaves}
use Rattle.card.specs.Card.{Card}
use Rattle.card.specs.Proper.{Proper}
use Rattle.memory.specs.Reading.{read_card}
use Rattle.session.specs.declared.Pending.{Pending}
use Rattle.session.specs.declared.Pending.TheVariants.{Nothing, Update, Debiting, Crediting}
use Rattle.session.specs.declared.Session.{Session}
use Rattle.session.specs.Transitions.{unselected}
use Rattle.session.specs.Codes.{amount_of}
use Rattle.session.proofs.Sizes.{Sized, unselected-sized}
use Rattle.apdu.specs.declared.instructions.Signed.TheVariants.{InitializeTransaction, CompleteTransaction}
use Rattle.apdu.specs.declared.instructions.Instruction.TheVariants.{IsSigned}
use Rattle.commands_spec.specs.declared.outcome.Outcome.{Outcome}
use Rattle.commands_spec.specs.InitializeTransaction.{noted}
use Rattle.commands_spec.specs.CompleteTransaction.{is_noted, is_debit}
use Rattle.commands_spec.specs.Respond.{named, respond, card_after}
use Rattle.commands_spec.proofs.Ways.{Kept}
use Rattle.commands_spec.proofs.Words.{status_listed}
use Rattle.commands_spec.proofs.Notes.{initialize_notes, others_note-nothing, complete_was_noted}
use Rattle.commands_spec.proofs.Moves.{debit_of, credit_of, only-complete_moves}
use Rattle.commands_spec.proofs.Sizes.{Sound, reply_short, session-sized}
use Rattle.commands_spec.proofs.Proper.{respond_proper}
use Rattle.purse_spec.specs.Calls.{Run, refusal, performed}
use Rattle.purse_spec.specs.Startup.{startup}
use Rattle.purse_spec.specs.Commands.{outcome_plan, outcome_run, command}
use Rattle.purse_spec.specs.History.{Call, install, start, send, Situation}
use Rattle.purse_spec.specs.Ledger.{Note, Ledger, noting, added_to, status_word, is_initialize, is_complete, note_of, number_of, has_grown, fed_command, fed}
use Rattle.purse_spec.proofs.Performed.{leaves_nothing, by_limit}
use Rattle.purse_spec.proofs.Runs.{startup-runs, command-on}
use Rattle.purse_spec.proofs.Names.{named-bytes, bytes-named, begins, begins_not}
use Rattle.purse_spec.proofs.Performing.{cut_keeps, performed-done, performed-cut}
use Rattle.purse_spec.proofs.Responses.{last_word}

-- what a session has noted, as the ledger notes it
abbrev pub note_for : Pending → Note
note_for p = record { debit = is_debit p; amount = amount_of p }

-- of a memory and a session: a proper card is read, its balance is the sum, and an amount that is pending is the note
pub record Agrees (m : List ℕ) (s : Session) (b : Ledger) : Type 0 where
  pub card : Card
  pub reads : read_card m ≡ some card
  pub proper : Proper card
  pub sized : Sized s
  pub sum : card.head.purse.balance + b.debits ≡ b.credits
  pub note : is_noted s.pending ≡ true → b.note ≡ some (note_for s.pending)

-- ---- the ledger's sums

-- a session without an amount
quiet : (m : List ℕ) (s : Session) (b : Ledger) (n : Option Note) → Agrees m s b → (t : Session) → Sized t → is_noted t.pending ≡ false → Agrees m t (noting n b)
unfolding noting
quiet m s b n h t z e =
    record { card = h.card; reads = h.reads; proper = h.proper; sized = z; sum = h.sum; note = λ k. absurd (false≢true (sym e ∙ k)) }

-- the note of what is pending, added to the sum
added : (p : Pending) (b : Ledger) (x y : ℕ) → is_noted p ≡ true → x + b.debits ≡ b.credits → y + debit_of p ≡ x + credit_of p
    → y + (added_to (some (note_for p)) b).debits ≡ (added_to (some (note_for p)) b).credits
unfolding added_to is_noted is_debit amount_of debit_of credit_of
added Nothing b x y n e f = absurd (false≢true n)
added (Update set) b x y n e f = absurd (false≢true n)
added (Debiting amount) b x y n e f = omega arith
added (Crediting amount) b x y n e f = omega arith

-- what INITIALIZE TRANSACTION leaves pending is what the ledger notes
noted-note : (p1 amount : ℕ) → note_for (noted p1 amount) ≡ record { debit = eqb p1 0x00; amount = amount }
unfolding noted is_debit amount_of
noted-note p1 amount = go (eqb p1 0x00)
  where
    go : (b : Bool) → note_for (pick b (Debiting amount) (Crediting amount)) ≡ record { debit = b; amount = amount }
    go true = refl
    go false = refl

-- a kept number hasn't grown
not_grown : (c d : Card) → Kept c d → has_grown (number_of (some c)) (number_of (some d)) ≡ false
unfolding has_grown number_of
not_grown c d k = le-ltb c.head.state.number d.head.state.number (let e = k.number in omega arith)

-- ---- a finished command

module _ (m : List ℕ) (s : Session) (b : Ledger) (h : Agrees m s b) (bytes random : List ℕ) (i : Sound h.card s bytes random) where
  abbrev c : Card
  c = h.card

  abbrev O : Outcome
  O = respond c s bytes random

  abbrev w : ℕ
  w = O.status

  module _ (m' : List ℕ) (e : read_card m' ≡ some (card_after c s bytes random)) where
    abbrev H : Ledger → Type 0
    H l = Agrees m' O.session l

    -- the card that it leaves, with a ledger of its balance
    after_holds : (l : Ledger) → (card_after c s bytes random).head.purse.balance + l.debits ≡ l.credits
        → (is_noted O.session.pending ≡ true → l.note ≡ some (note_for O.session.pending)) → H l
    after_holds l q n =
        record {
          card = card_after c s bytes random;
          reads = e;
          proper = respond_proper c s bytes random i;
          sized = session-sized c s bytes random i;
          sum = q;
          note = n;
        }

    -- the same balance, and another note
    unmoved : (n : Option Note) → Kept c (card_after c s bytes random) → (is_noted O.session.pending ≡ true → n ≡ some (note_for O.session.pending))
        → H (noting n b)
    unfolding noting
    unmoved n k q = after_holds (noting n b) (let f = k.balance in let g = h.sum in omega arith) q

    initialize_booked : named bytes ≡ Ok (IsSigned InitializeTransaction) → w ≡ 0x9000 → H (noting (some (note_of bytes)) b)
    unfolding note_of
    initialize_booked n z =
        unmoved (some (note_of bytes)) ((only-complete_moves c s bytes random).kept (λ v q. let k : ◌≡◌ {A = ℕ} 0 1 = cc in omega arith))
        (λ q. ap some (sym (ap note_for (initialize_notes c s bytes random n z) ∙ noted-note (byte_at bytes 2) (word_at bytes 7))))

    complete-booked : named bytes ≡ Ok (IsSigned CompleteTransaction) → w ≡ 0x9000 → H (added_to b.note b)
    complete-booked n z =
        let was = complete_was_noted c s bytes random n z in
        let moved = (only-complete_moves c s bytes random).moved n z in
        let left = others_note-nothing c s bytes random (λ v q. let k : ◌≡◌ {A = ℕ} 0 1 = cc in omega arith) in
        subst (λ (o : Option Note). H (added_to o b)) (sym (h.note was))
        (after_holds _ (added s.pending b c.head.purse.balance (card_after c s bytes random).head.purse.balance was h.sum moved.balance)
        (λ k. absurd (false≢true (sym left ∙ k))))

    other_booked : (named bytes ≡ Ok (IsSigned InitializeTransaction) → w ≡ 0x9000 → ⊥) → (named bytes ≡ Ok (IsSigned CompleteTransaction) → w ≡ 0x9000 → ⊥) → H (noting none b)
    other_booked x y =
        unmoved none ((only-complete_moves c s bytes random).kept y) (λ k. absurd (false≢true (sym (others_note-nothing c s bytes random x) ∙ k)))

    -- what it leaves, with the ledger fed its status word
    finished-booked : H (fed_command bytes w b)
    unfolding fed_command is_initialize is_complete
    finished-booked =
        pick_holds H (is_initialize bytes && eqb w 0x9000) _ _
        (λ t. let a = and_both (is_initialize bytes) (eqb w 0x9000) t in initialize_booked (bytes-named bytes (Ok (IsSigned InitializeTransaction)) (begins bytes 0x44 a.0)) (eqb-true w 0x9000 a.1))
        (λ t. pick_holds H (is_complete bytes && eqb w 0x9000) _ _
        (λ u. let a = and_both (is_complete bytes) (eqb w 0x9000) u in complete-booked (bytes-named bytes (Ok (IsSigned CompleteTransaction)) (begins bytes 0x46 a.0)) (eqb-true w 0x9000 a.1))
        (λ u. other_booked (λ n z. begins_not bytes 0x44 w t (named-bytes bytes (Ok (IsSigned InitializeTransaction)) n) z)
        (λ n z. begins_not bytes 0x46 w u (named-bytes bytes (Ok (IsSigned CompleteTransaction)) n) z)))

-- ---- one call

-- behind a call that gave r, with the ledger fed
abbrev pub BooksCall : Call → Situation → Ledger → Run → Type 0
BooksCall x st b r =
    (g : Bool) → g ≡ has_grown (number_of (read_card st.memory)) (number_of (read_card r.memory))
    → Agrees r.memory (pick (eqb r.answer 0) r.session st.session) (fed x r g b)

module _ (st : Situation) (b : Ledger) (h : Agrees st.memory st.session b) where
  -- a refusal
  pub refusal-booked : (x : Call) (n : ℕ) → 1 ≤ n → n ≤ 6 → (s : Session) (area : List ℕ) → BooksCall x st b (refusal n s st.memory area)
  unfolding refusal fed
  refusal-booked (install d limit) n k l s area g q = rw (ne_eqb n 0 (λ z. omega arith)) h
  refusal-booked (start limit) n k l s area g q = rw (ne_eqb n 0 (λ z. omega arith)) h
  refusal-booked (send bytes random mine limit) n k l s area g q = rw (ne_eqb n 0 (λ z. omega arith), ne_eqb n 7 (λ z. omega arith)) h

  -- a start-up
  pub startup-booked : (limit : ℕ) → BooksCall (start limit) st b (startup st.memory limit)
  unfolding performed fed unselected is_noted
  startup-booked limit =
      startup-runs st.memory (λ (r : ℕ → Run). BooksCall (start limit) st b (r limit)) (λ n k l. refusal-booked (start limit) n k l _ _)
      (λ t. by_limit (BooksCall (start limit) st b) limit _ _ _ (λ k. absurd (omega arith))
      (λ k g q. rw (leaves_nothing limit st.memory) (quiet st.memory st.session b none h unselected unselected-sized refl)))

  module _ (bytes random area : List ℕ) (limit : ℕ) (i : length random ≡ 8 → Sound h.card st.session bytes random) where
    abbrev x : Call
    x = send bytes random area limit

    abbrev o : Outcome
    o = respond h.card st.session bytes random

    abbrev left : List ℕ
    left = leaves (outcome_plan o st.memory) limit st.memory

    -- cut: the number hasn't grown, and the ledger stays
    cut-booked : Sound h.card st.session bytes random → limit < length (outcome_plan o st.memory) → (g : Bool)
        → g ≡ has_grown (number_of (read_card st.memory)) (number_of (read_card left)) → Agrees left st.session (pick (is_complete bytes && g) (added_to b.note b) b)
    cut-booked j l g q =
        let r = performed-cut st.memory h.card st.session bytes random h.reads j limit l in
        let k = cut_keeps r.2 in
        let u : g ≡ false = q ∙ rw (h.reads, r.1) (not_grown h.card r.0 k) in
        let v : (is_complete bytes && g) ≡ false = and_right (is_complete bytes) g u in
        rw v
        (record {
          card = r.0;
          reads = r.1;
          proper = r.3;
          sized = h.sized;
          sum = let f = k.balance in let y = h.sum in omega arith;
          note = h.note;
        })

    -- finished
    done-booked : Sound h.card st.session bytes random → 32 ≤ length area → length (outcome_plan o st.memory) ≤ limit
        → Agrees left o.session (fed_command bytes (word_at (paste area 0 (content o.reply)) (length (content o.reply) - 2)) b)
    done-booked j a l =
        let y = reply_short h.card st.session bytes random j in
        let n : length (content o.reply) ≤ 32 = y.1 in
        let e = last_word (content o.reply) area o.status y.0 (omega arith) (status_listed h.card st.session bytes random).last in
        subst (λ (w : ℕ). Agrees left o.session (fed_command bytes w b)) (sym e)
        (finished-booked st.memory st.session b h bytes random j left (performed-done st.memory h.card st.session bytes random h.reads j limit l))

    performed-booked : 32 ≤ length area → Sound h.card st.session bytes random → BooksCall x st b (outcome_run o st.memory area limit)
    unfolding performed fed status_word
    performed-booked a j =
        by_limit (BooksCall x st b) limit _ _ _ (λ t g q. cut-booked j t g q) (λ t g q. done-booked j a t)

    -- a command
    pub command-booked : BooksCall x st b (command st.memory st.session bytes random area limit)
    command-booked =
        command-on st.memory (λ (r : ℕ → Run). BooksCall x st b (r limit)) st.session bytes random area h.card h.reads
        (λ n k l. refusal-booked x n k l st.session area) (λ t u. performed-booked t (i u))
