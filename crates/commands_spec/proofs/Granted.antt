-- Demand 2: "A transaction that 01 allows is never refused." Of the commands as sent, on any card and in any channel with R-MAC:
-- INITIALIZE TRANSACTION answers 9000, and COMPLETE TRANSACTION in the session that it handed back answers 9000 and moves the amount.
-- Assumes nothing.
use mathlib.Core.Bool.{Bool, true, false, not, ◌&&◌, ◌||◌}
use mathlib.Core.List.{List, [], ◌∷◌, ◌++◌}
use mathlib.Core.Path.{◌≡◌, refl, sym, ap, subst}
use Prim.Native.Nat.{ℕ, ◌+◌, ◌-◌, ◌%◌, ◌≤◌}
use native.Mathlib.Omega.{arith}
use borrow.Author.Tests.{le-ltb, le-leb, lt-leb, eqb-true, eqb-false, eq-eqb, ne_eqb}
use lib.Dec.{ltb, eqb}
use lib.ListN.{length, take, drop}
use lib.Seq.{take_at, drop_at}
use Rattle.octets.specs.Choice.{pick, refuse}
use Rattle.octets.specs.Bytes.{zeros}
use Rattle.octets.specs.Words.{word}
use Rattle.octets.specs.Buffers.{content}
use Rattle.octets.proofs.Numbers.{word_read}
use Rattle.octets.proofs.Holding.{content-holding}
use Rattle.des_spec.specs.Des.{encipher}
use Rattle.des_spec.specs.Modes.{cbc_text, signature}
use Rattle.des_spec.proofs.Signature.{length-signature}
use Rattle.card.specs.declared.head.KeySet.{KeySet}
use Rattle.card.specs.declared.head.Head.{Head}
use Rattle.card.specs.Log.{record_bytes}
use Rattle.card.specs.Card.{Card}
use Rattle.card.specs.Changes.{logged_change, changed, head_after, log_after, after}
use Rattle.session.specs.declared.Set.{Set}
use Rattle.session.specs.declared.Set.TheVariants.{Debit, Credit, Admin}
use Rattle.session.specs.declared.Level.TheVariants.{Rmac}
use Rattle.session.specs.declared.Pending.{Pending}
use Rattle.session.specs.declared.Pending.TheVariants.{Debiting, Crediting}
use Rattle.session.specs.declared.Session.{Session}
use Rattle.session.specs.Transitions.{chained, answered}
use Rattle.session.specs.Access.{access, has_rmac, is_open}
use Rattle.session.specs.Codes.{set_number, opened_by, amount_of}
use Rattle.apdu.specs.declared.instructions.Signed.TheVariants.{InitializeTransaction, CompleteTransaction}
use Rattle.apdu.specs.Instructions.{instruction, of94}
use Rattle.apdu.specs.Parameters.{are, signed_parameters}
use Rattle.apdu.specs.Lengths.{signed_length}
use Rattle.channel.specs.Channel.{rmac_of, bank_sent}
use Rattle.commands_spec.specs.declared.outcome.Commits.TheVariants.{Unchanged}
use Rattle.commands_spec.specs.declared.outcome.Outcome.{Outcome}
use Rattle.commands_spec.specs.Outcomes.{done, decided, changes_of, commits_of}
use Rattle.card.specs.Updates.{with_state, with_balance, with_purse}
use Rattle.commands_spec.specs.KeySets.{dek_of}
use Rattle.commands_spec.specs.Status.{operational}
use Rattle.commands_spec.specs.Transaction.{not_above_zero, new_balance, keeps_limits, log_amount}
use Rattle.commands_spec.specs.InitializeTransaction.{lacks, noted, initialize_status, initialize_answer, initialize_transaction_of}
use Rattle.commands_spec.specs.CompleteTransaction.{is_noted, is_debit, complete_status, booked, log_record, complete_answer, complete_transaction_of}
use Rattle.commands_spec.specs.Respond.{signed_of, respond, card_after}
use Rattle.commands_spec.specs.Sent.{signed_text, next_mac, initialization, completion}
use Rattle.commands_spec.specs.Allowed.{Numbered, with_rmac, Entitled, Allows, NamedBy, by_debit, by_credit, by_admin, Completed}
use Rattle.commands_spec.proofs.Entitled.{entitled-passes}
use Rattle.commands_spec.proofs.Reasons.{set-dek}
use Rattle.commands_spec.proofs.Heads.{head-after}
use Rattle.commands_spec.proofs.Sending.{InChannel, reaches_signed}

-- ---- the rules let pass

-- what a bank credit needs is there
equipped-passes : (p1 : ℕ) (bank pin : Bool) → (p1 ≡ 0x02 → (bank ≡ true) × (pin ≡ true)) → lacks p1 bank pin ≡ false
unfolding lacks
equipped-passes p1 bank pin f =
    pick_two (eqb p1 0x02) (λ e. let b = f (eqb-true p1 0x02 e) in rw (b.0, b.1))
  where
    pick_two : (b : Bool) → (b ≡ true → not (bank && pin) ≡ false) → (b && not (bank && pin)) ≡ false
    pick_two true g = g refl
    pick_two false g = refl

-- no rule of INITIALIZE TRANSACTION refuses what 01 allows
judged_allowed : (h : Head) (s : Session) (set : Set) (p1 currency amount : ℕ) → s.channel.level ≡ Rmac set → Entitled p1 set s.verified
    → Allows h p1 currency amount → initialize_status h s p1 currency amount ≡ 0x9000
unfolding initialize_status access has_rmac not_above_zero
judged_allowed h s set p1 currency amount l e a =
    rw (
      l,
      a.personal,
      equipped-passes p1 _ _ a.equipped,
      (entitled-passes p1 set s.verified e).1,
      lt-leb h.shared.maxnumber h.state.number a.room,
      eq-eqb currency h.purse.parameters.currency a.same,
      ne_eqb amount 0 (λ z. omega (arith, z, a.above)),
      lt-leb 0x8000 amount a.signed,
    )
    (kind (eqb p1 0x00) refl)
  where
    kind : (d : Bool) → eqb p1 0x00 ≡ d
        → refuse (d && (ltb h.purse.parameters.maxdebit amount || ltb h.purse.balance amount)) 0x9413
        (refuse (not d && ltb h.purse.parameters.maxbalance (h.purse.balance + amount)) 0x9414 0x9000) ≡ 0x9000
    kind true q =
        let m = a.debits (eqb-true p1 0x00 q) in
        rw (le-ltb h.purse.parameters.maxdebit amount m.0, le-ltb h.purse.balance amount m.1)
    kind false q = rw (le-ltb h.purse.parameters.maxbalance (h.purse.balance + amount) (a.credits (eqb-false p1 0x00 q)))

-- what is noted, and of which kind
noted-is : (b : Bool) (amount : ℕ) → let p = pick b (Debiting amount) (Crediting amount) in (is_noted p ≡ true) × (is_debit p ≡ b) × (amount_of p ≡ amount)
unfolding is_noted is_debit amount_of
noted-is true amount = (refl, refl, refl)
noted-is false amount = (refl, refl, refl)

-- an amount within the limits keeps them
limits_kept : (debit : Bool) (amount balance maxbalance : ℕ) → (debit ≡ true → amount ≤ balance) → (debit ≡ false → balance + amount ≤ maxbalance)
    → keeps_limits debit amount balance maxbalance ≡ true
unfolding keeps_limits
limits_kept true amount balance maxbalance f g = le-leb amount balance (f refl)
limits_kept false amount balance maxbalance f g = le-leb (balance + amount) maxbalance (g refl)

-- COMPLETE TRANSACTION lets the same amount pass in a session that notes it
noted_allowed : (h : Head) (t : Session) (set : Set) (p1 currency amount : ℕ) → Allows h p1 currency amount → t.pending ≡ noted p1 amount
    → t.channel.level ≡ Rmac set → complete_status h t ≡ 0x9000
unfolding complete_status has_rmac noted
noted_allowed h t set p1 currency amount a n l =
    let k = noted-is (eqb p1 0x00) amount in
    let m = limits_kept (eqb p1 0x00) amount h.purse.balance h.purse.parameters.maxbalance (λ q. (a.debits (eqb-true p1 0x00 q)).1) (λ q. a.credits (eqb-false p1 0x00 q)) in
    rw (n, l, k.0, k.1, k.2, a.personal, lt-leb h.shared.maxnumber h.state.number a.room, m)

-- ---- what a completed transaction leaves

-- the card after what is noted, a debit or a credit, with a context and a byte for the key set
abbrev booked_card : Card → Pending → List ℕ → ℕ → Card
booked_card c p context byte =
    let next = booked (is_debit p) (amount_of p) c.head in
    changed (logged_change next (log_record (is_debit p) (amount_of p) next context byte)) c

-- the byte that names the set
pub named_by : (set : Set) → NamedBy set (opened_by (Rmac set) ∷ [])
unfolding opened_by set_number
named_by Debit = by_debit
named_by Credit = by_credit
named_by Admin = by_admin

module _ (c : Card) (p1 currency amount : ℕ) (context : List ℕ) (set : Set) (byte : ℕ) (names : NamedBy set (byte ∷ [])) (long : length context ≡ 16)
    (a : Allows c.head p1 currency amount) where
  -- where context and key set lie
  in_place : take 16 (context ++ byte ∷ []) ≡ context
  in_place = take_at context (byte ∷ []) 16 long

  behind : NamedBy set (drop 16 (context ++ byte ∷ []))
  behind = subst (NamedBy set) (sym (drop_at context (byte ∷ []) 16 long)) names

  booked_kind : (b : Bool) → eqb p1 0x00 ≡ b → Completed c p1 amount context set (booked_card c (pick b (Debiting amount) (Crediting amount)) context byte)
  unfolding record_bytes booked is_debit amount_of new_balance changed head_after log_after with_state with_balance with_purse log_record log_amount
  booked_kind true t =
      let l = a.debits (eqb-true p1 0x00 t) in
      let w = a.above in
      let v = a.signed in
      let d : (0x10000 - amount) % 0x10000 ≡ 0x10000 - amount = omega arith in
      record {
        balance = record { debit = λ z. omega (arith, l.1); credit = λ z. absurd (z (eqb-true p1 0x00 t)) };
        number = refl;
        logged = record { number = word_read _; currency = word_read _; debit = λ z. omega (arith, word_read ((0x10000 - amount) % 0x10000)); credit = λ z. absurd (z (eqb-true p1 0x00 t)); balance = word_read _; context = in_place; keyset = behind };
        older = refl;
      }
  booked_kind false t =
      record {
        balance = record { debit = λ z. absurd (eqb-false p1 0x00 t z); credit = λ z. refl };
        number = refl;
        logged = record { number = word_read _; currency = word_read _; debit = λ z. absurd (eqb-false p1 0x00 t z); credit = λ z. word_read _; balance = word_read _; context = in_place; keyset = behind };
        older = refl;
      }

-- ---- the commands as sent

module _ (c : Card) (s : Session) (set : Set) (p1 currency amount : ℕ) (le random : List ℕ) (short : length le ≤ 1)
    (o : InChannel s (Rmac set)) (e : Entitled p1 set s.verified) (a : Allows c.head p1 currency amount) where
  -- the session in which the command's rules are asked, and what is sent back
  abbrev moved : Session
  moved = chained (next_mac s (signed_text 0x94 0x44 p1 0x00 (word currency ++ word amount))) s

  abbrev answer : List ℕ
  answer = initialize_answer c.head moved p1

  abbrev mac : List ℕ
  mac = rmac_of s.channel.mac s.channel.rmac moved.channel.cmac answer

  initialize_outcome : respond c s (initialization s p1 currency amount le) random
      ≡ done Unchanged c.head (answered (noted p1 amount) mac moved) (answer ++ mac)
  unfolding instruction of94 signed_parameters signed_length is_open signed_of initialize_transaction_of decided chained
  initialize_outcome =
      let j : initialize_status c.head moved p1 currency amount ≡ 0x9000 = judged_allowed c.head moved set p1 currency amount o.level e a in
      rw (
        reaches_signed c s random InitializeTransaction (Rmac set) 0x94 0x44 p1 0x00 (word currency ++ word amount) le short o refl
            (entitled-passes p1 set s.verified e).0 refl refl,
        word_read currency,
        word_read amount,
        j,
      )

  -- INITIALIZE TRANSACTION is not refused
  pub initialize_granted : (respond c s (initialization s p1 currency amount le) random).status ≡ 0x9000
  unfolding done
  initialize_granted = rw initialize_outcome

  -- "Answer: identifier, bank information if P1 02, R-MAC": the bank information under the DEK of the channel's set, the R-MAC over this
  -- command's C-MAC, these data and 90 00
  pub initialize_answers : (n : ℕ) (k : KeySet) → Numbered c.head k n set
      → let cmac = signature s.channel.mac s.channel.cmac (signed_text 0x94 0x44 p1 0x00 (word currency ++ word amount)) in
      let sent = c.head.purse.parameters.identifier ++ pick (eqb p1 0x02) (cbc_text encipher k.keys.dek (zeros 8) c.head.purse.parameters.bank.value) [] in
      content (respond c s (initialization s p1 currency amount le) random).reply
      ≡ sent ++ signature s.channel.mac s.channel.rmac (cmac ++ sent ++ word 0x9000) ++ word 0x9000
  unfolding done initialize_answer rmac_of bank_sent chained next_mac
  initialize_answers n k m =
      let d : dek_of s.channel.level c.head ≡ k.keys.dek = rw o.level (set-dek m with_rmac) in
      rw (initialize_outcome, d) (content-holding _)

  -- ---- COMPLETE TRANSACTION in the session handed back

  abbrev handed : Session
  handed = (respond c s (initialization s p1 currency amount le) random).session

  handed-is : handed ≡ answered (noted p1 amount) mac moved
  unfolding done
  handed-is = ap (λ (x : Outcome). x.session) initialize_outcome

  still_open : InChannel handed (Rmac set)
  unfolding answered chained next_mac
  still_open =
      rw handed-is
      (record { selected = o.selected; level = o.level; chain = length-signature s.channel.mac s.channel.cmac _ o.chain })

  module _ (context le' random' : List ℕ) (long : length context ≡ 16) (short' : length le' ≤ 1) where
    abbrev next : Session
    next = chained (next_mac handed (signed_text 0x94 0x46 0x00 0x00 context)) handed

    complete_reached : respond c handed (completion handed context le') random' ≡ complete_transaction_of c.head next context
    unfolding instruction of94 are signed_parameters signed_length is_open signed_of
    complete_reached =
        reaches_signed c handed random' CompleteTransaction (Rmac set) 0x94 0x46 0x00 0x00 context le' short' still_open refl refl (rw long) refl

    complete-judged : complete_status c.head next ≡ 0x9000
    unfolding chained answered
    complete-judged =
        noted_allowed c.head next set p1 currency amount a (rw handed-is) (rw handed-is o.level)

    -- COMPLETE TRANSACTION is not refused
    pub complete_granted : (respond c handed (completion handed context le') random').status ≡ 0x9000
    unfolding complete_transaction_of decided
    complete_granted = rw (complete_reached, complete-judged)

    -- and moves the amount, with its record
    pub complete_moves : Completed c p1 amount context set (card_after c handed (completion handed context le') random')
    unfolding complete_transaction_of decided card_after commits_of changes_of after with_state noted
    complete_moves =
        let n : next.pending ≡ noted p1 amount = unfold chained answered in rw handed-is in
        let l : next.channel.level ≡ Rmac set = unfold chained answered in rw handed-is o.level in
        let y : NamedBy set (opened_by next.channel.level ∷ []) = rw l (named_by set) in
        rw (complete_reached, complete-judged, n) (booked_kind c p1 currency amount context set (opened_by next.channel.level) y long a (eqb p1 0x00) refl)

    -- "Answer, all new: identifier, number, operational status, R-MAC"
    pub complete-answers :
        let d = card_after c handed (completion handed context le') random' in
        let cmac = signature handed.channel.mac handed.channel.cmac (signed_text 0x94 0x46 0x00 0x00 context) in
        let sent = d.head.purse.parameters.identifier ++ word d.head.state.number ++ operational d.head in
        content (respond c handed (completion handed context le') random').reply
        ≡ sent ++ signature handed.channel.mac handed.channel.rmac (cmac ++ sent ++ word 0x9000) ++ word 0x9000
    unfolding complete_transaction_of decided complete_answer rmac_of next_mac chained
    complete-answers = rw (head-after c handed (completion handed context le') random', complete_reached, complete-judged) (content-holding _)
