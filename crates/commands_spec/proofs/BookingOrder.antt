-- The status word of VERIFY PIN, INITIALIZE TRANSACTION and COMPLETE TRANSACTION past steps 1 to 6 is that of the first reason of its row that
-- holds, and 9000 where none does: of the commands as sent, on every card and in every session. Assumes nothing.
use mathlib.Core.Bool.{Bool, true, false, not, ◌&&◌, ◌||◌, false≢true}
use mathlib.Core.List.{List, ◌++◌}
use mathlib.Core.Path.{◌≡◌, refl, sym, ap, ◌∙◌, subst}
use Prim.Native.Nat.{ℕ, ◌+◌, ◌≤◌, ◌<◌}
use native.Mathlib.Omega.{arith}
use borrow.Author.Tests.{ltb-true, ltb-false, leb-true, leb-false, lt-ltb, le-ltb, le-leb, lt-leb, eqb-true, eqb-false, eq-eqb, ne_eqb, not-true}
use lib.Dec.{ltb, leb, eqb}
use lib.ListN.{length}
use Rattle.octets.specs.Choice.{refuse}
use Rattle.octets.specs.Bytes.{same}
use Rattle.octets.specs.Words.{word}
use Rattle.octets.proofs.Conditions.{and_both, neither}
use Rattle.octets.proofs.Equality.{fails, same_equal, equal_same}
use Rattle.octets.proofs.Numbers.{word_read}
use Rattle.octets.proofs.Rules.{or_no}
use Rattle.des_spec.specs.Des.{decipher}
use Rattle.des_spec.specs.Modes.{ecb_text}
use Rattle.card.specs.declared.head.Head.{Head}
use Rattle.card.specs.Card.{Card}
use Rattle.session.specs.declared.Set.{Set}
use Rattle.session.specs.declared.Set.TheVariants.{Debit, Credit, Admin}
use Rattle.session.specs.declared.Level.{Level}
use Rattle.session.specs.declared.Level.TheVariants.{Closed, Mac, Rmac}
use Rattle.session.specs.declared.Pending.{Pending}
use Rattle.session.specs.declared.Pending.TheVariants.{Nothing, Update, Debiting, Crediting}
use Rattle.session.specs.declared.Session.{Session}
use Rattle.session.specs.Transitions.{ended, chained}
use Rattle.session.specs.Access.{access, access_of, has_rmac, CREDIT}
use Rattle.session.specs.Codes.{amount_of}
use Rattle.apdu.specs.declared.instructions.Plain.TheVariants.{VerifyPin}
use Rattle.apdu.specs.declared.instructions.Signed.TheVariants.{InitializeTransaction, CompleteTransaction}
use Rattle.apdu.specs.Instructions.{instruction, of94}
use Rattle.apdu.specs.Parameters.{are, plain_parameters, signed_parameters, has_record}
use Rattle.apdu.specs.Lengths.{plain_length, signed_length}
use Rattle.apdu.specs.Early.{is_select}
use Rattle.channel.specs.Channel.{received}
use Rattle.commands_spec.specs.Outcomes.{refused, done, decided}
use Rattle.commands_spec.specs.Transaction.{not_above_zero, keeps_limits}
use Rattle.commands_spec.specs.InitializeTransaction.{lacks, entitled, initialize_status, initialize_transaction_of}
use Rattle.commands_spec.specs.CompleteTransaction.{is_noted, is_debit, complete_status, complete_transaction_of}
use Rattle.commands_spec.specs.VerifyPin.{verify_status, judged, verify_pin_of}
use Rattle.commands_spec.specs.Respond.{plain_of, signed_of, respond}
use Rattle.commands_spec.specs.Sent.{next_mac, signed_text, plain_command, initialization, completion}
use Rattle.commands_spec.specs.Allowed.{LevelOf}
use Rattle.commands_spec.specs.Order.{refuses, passes, accepted, AtLeastCredit, credit-mac, credit_rmac, admin-mac, admin_rmac, verify_rules, initialize_rules, PassesLimit, below_zero, past_maximum, Noted, a_debit, a_credit, complete_rules}
use Rattle.commands_spec.proofs.Sending.{InChannel, reaches_plain, reaches_signed}
use Rattle.commands_spec.proofs.Entitled.{entitled-passes, entitled_by}
use Rattle.commands_spec.proofs.Reasons.{row, unset, lacking, judged-word, and_is, not_refuted, rmac_level, set-access}

-- ---- INITIALIZE TRANSACTION

-- each of INITIALIZE TRANSACTION's tests holds exactly where its reason does
module _ (p1 : ℕ) where
  lacks_tells : (b k : Bool) → (eqb p1 0x02 && not (b && k)) ≡ true → (p1 ≡ 0x02) × ((b ≡ true) × (k ≡ true) → ⊥)
  lacks_tells b k e =
      let t = and_both (eqb p1 0x02) (not (b && k)) e in
      (eqb-true p1 0x02 t.0, λ m. false≢true (sym (not-true (b && k) t.1) ∙ and_is b k m))

  lacks_told : (b k : Bool) → (p1 ≡ 0x02) × ((b ≡ true) × (k ≡ true) → ⊥) → (eqb p1 0x02 && not (b && k)) ≡ true
  lacks_told b k m = and_is (eqb p1 0x02) (not (b && k)) (eq-eqb p1 0x02 m.0, ap not (fails (b && k) (λ e. m.1 (and_both b k e))))

  debit_tells : (amount maxdebit balance : ℕ) → (eqb p1 0x00 && (ltb maxdebit amount || ltb balance amount)) ≡ true
      → (p1 ≡ 0x00) × ((amount ≤ maxdebit) × (amount ≤ balance) → ⊥)
  debit_tells amount maxdebit balance e =
      let t = and_both (eqb p1 0x00) (ltb maxdebit amount || ltb balance amount) e in (
        eqb-true p1 0x00 t.0,
        λ m. false≢true (sym (or_no (ltb maxdebit amount) (ltb balance amount) (le-ltb maxdebit amount m.0) (le-ltb balance amount m.1)) ∙ t.1),
      )

  debit_told : (amount maxdebit balance : ℕ) → (p1 ≡ 0x00) × ((amount ≤ maxdebit) × (amount ≤ balance) → ⊥)
      → (eqb p1 0x00 && (ltb maxdebit amount || ltb balance amount)) ≡ true
  debit_told amount maxdebit balance m =
      and_is (eqb p1 0x00) (ltb maxdebit amount || ltb balance amount) (
        eq-eqb p1 0x00 m.0,
        not_refuted (ltb maxdebit amount || ltb balance amount)
            (λ e. let n = neither (ltb maxdebit amount) (ltb balance amount) e in m.1 (ltb-false maxdebit amount n.0, ltb-false balance amount n.1)),
      )

  credit_tells : (x m : ℕ) → (not (eqb p1 0x00) && ltb m x) ≡ true → (p1 ≡ 0x00 → ⊥) × (m < x)
  credit_tells x m e =
      let t = and_both (not (eqb p1 0x00)) (ltb m x) e in
      (eqb-false p1 0x00 (not-true (eqb p1 0x00) t.0), ltb-true m x t.1)

  credit_told : (x m : ℕ) → (p1 ≡ 0x00 → ⊥) × (m < x) → (not (eqb p1 0x00) && ltb m x) ≡ true
  credit_told x m k = and_is (not (eqb p1 0x00)) (ltb m x) (ap not (ne_eqb p1 0x00 k.0), lt-ltb m x k.1)

above_tells : (amount : ℕ) → (eqb amount 0x0000 || leb 0x8000 amount) ≡ true → (0 < amount) × (amount < 0x8000) → ⊥
above_tells amount e m =
    false≢true (sym (or_no (eqb amount 0x0000) (leb 0x8000 amount) (ne_eqb amount 0x0000 (λ z. omega (arith, m.0))) (lt-leb 0x8000 amount m.1)) ∙ e)

above_told : (amount : ℕ) → ((0 < amount) × (amount < 0x8000) → ⊥) → (eqb amount 0x0000 || leb 0x8000 amount) ≡ true
above_told amount n =
    not_refuted (eqb amount 0x0000 || leb 0x8000 amount)
    (λ e.
    let m = neither (eqb amount 0x0000) (leb 0x8000 amount) e in
    let z = eqb-false amount 0x0000 m.0 in
    n (omega arith, leb-false 0x8000 amount m.1))

module _ (h : Head) (s : Session) (set : Set) (p : ℕ) (p1 currency amount : ℕ) (v : LevelOf set p s.channel.level) (one_of_lem : p1 ≤ 2) where
  initialize_rows : initialize_rules h set p s.verified p1 currency amount (initialize_status h s p1 currency amount)
  unfolding initialize_status lacks not_above_zero
  initialize_rows =
      let q = h.purse.parameters in
      let a = set-access set p s.channel.level v in
      let m = rmac_level set p s.channel.level v in
      unset q.personalized 0x6985 _
      (row (eqb p1 0x02 && not (q.bank.defined && h.pin.defined)) 0x6A81 _ (lacks_tells p1 _ _) (lacks_told p1 _ _)
      (lacking (entitled p1 (access s.channel.level) s.verified) 0x6982 _
      (λ e. entitled_by p1 set s.verified one_of_lem (rw a.0 at e))
      (λ n. rw a.0 (entitled-passes p1 set s.verified n).1)
      (lacking (has_rmac s.channel.level) 0x6982 _ m.0 m.1
      (row (leb h.shared.maxnumber h.state.number) 0x9410 _ (leb-true _ _) (le-leb _ _)
      (lacking (eqb currency q.currency) 0x9411 _ (eqb-true _ _) (eq-eqb _ _)
      (row (eqb amount 0x0000 || leb 0x8000 amount) 0x9412 _ (above_tells amount) (above_told amount)
      (row (eqb p1 0x00 && (ltb q.maxdebit amount || ltb h.purse.balance amount)) 0x9413 _ (debit_tells p1 amount _ _) (debit_told p1 amount _ _)
      (row (not (eqb p1 0x00) && ltb q.maxbalance (h.purse.balance + amount)) 0x9414 _ (credit_tells p1 _ _) (credit_told p1 _ _)
      accepted))))))))

-- ---- COMPLETE TRANSACTION

keeps_debit : (h : Head) (amount : ℕ) → (not (leb amount h.purse.balance) ≡ true → PassesLimit h (Debiting amount))
    × (PassesLimit h (Debiting amount) → not (leb amount h.purse.balance) ≡ true)
keeps_debit h amount = (λ e. below_zero amount (leb-false amount h.purse.balance (not-true _ e)), back)
  where
    back : PassesLimit h (Debiting amount) → not (leb amount h.purse.balance) ≡ true
    back (below_zero n k) = ap not (lt-leb amount h.purse.balance k)

keeps_credit : (h : Head) (amount : ℕ) → (not (leb (h.purse.balance + amount) h.purse.parameters.maxbalance) ≡ true → PassesLimit h (Crediting amount))
    × (PassesLimit h (Crediting amount) → not (leb (h.purse.balance + amount) h.purse.parameters.maxbalance) ≡ true)
keeps_credit h amount = (λ e. past_maximum amount (leb-false (h.purse.balance + amount) h.purse.parameters.maxbalance (not-true _ e)), back)
  where
    back : PassesLimit h (Crediting amount) → not (leb (h.purse.balance + amount) h.purse.parameters.maxbalance) ≡ true
    back (past_maximum n k) = ap not (lt-leb (h.purse.balance + amount) h.purse.parameters.maxbalance k)

nothing-noted : Noted Nothing → ⊥
nothing-noted n = unnoted Nothing n refl
  where
    unnoted : (q : Pending) → Noted q → q ≡ Nothing → ⊥
    unnoted q (a_debit amount) e = let z : ◌≡◌ {A = ℕ} 0 1 = cc in omega arith
    unnoted q (a_credit amount) e = let z : ◌≡◌ {A = ℕ} 0 1 = cc in omega arith

update_noted : (set : Set) → Noted (Update set) → ⊥
update_noted set n = unnoted (Update set) n refl
  where
    unnoted : (q : Pending) → Noted q → q ≡ Update set → ⊥
    unnoted q (a_debit amount) e = let z : ◌≡◌ {A = ℕ} 0 1 = cc in omega arith
    unnoted q (a_credit amount) e = let z : ◌≡◌ {A = ℕ} 0 1 = cc in omega arith

complete-rows : (h : Head) (s : Session) (set : Set) (p : ℕ) → LevelOf set p s.channel.level → (pending : Pending) → s.pending ≡ pending
    → complete_rules h p pending (complete_status h s)
unfolding complete_status is_noted is_debit amount_of keeps_limits
complete-rows h s set p v Nothing e = rw e (unset h.purse.parameters.personalized 0x6985 _ (refuses nothing-noted))
complete-rows h s set p v (Update other) e = rw e (unset h.purse.parameters.personalized 0x6985 _ (refuses (update_noted other)))
complete-rows h s set p v (Debiting amount) e =
    let l = s.channel.level in
    let m = rmac_level set p l v in
    let k = keeps_debit h amount in
    rw e
    (unset h.purse.parameters.personalized 0x6985 _
    (passes (λ n. n (a_debit amount))
    (lacking (has_rmac l) 0x6982 _ m.0 m.1
    (row (leb h.shared.maxnumber h.state.number) 0x6985 _ (leb-true _ _) (le-leb _ _)
    (row (not (leb amount h.purse.balance)) 0x6985 _ k.0 k.1
    accepted)))))
complete-rows h s set p v (Crediting amount) e =
    let l = s.channel.level in
    let m = rmac_level set p l v in
    let k = keeps_credit h amount in
    rw e
    (unset h.purse.parameters.personalized 0x6985 _
    (passes (λ n. n (a_credit amount))
    (lacking (has_rmac l) 0x6982 _ m.0 m.1
    (row (leb h.shared.maxnumber h.state.number) 0x6985 _ (leb-true _ _) (le-leb _ _)
    (row (not (leb (h.purse.balance + amount) h.purse.parameters.maxbalance)) 0x6985 _ k.0 k.1
    accepted)))))

-- ---- VERIFY PIN

-- CREDIT is that of sets 2 and 3
credit_level : (l : Level) → (ltb (access l) CREDIT ≡ false → AtLeastCredit l) × (AtLeastCredit l → ltb (access l) CREDIT ≡ false)
unfolding access access_of
credit_level l = (have l, has l)
  where
    have : (l : Level) → ltb (access l) CREDIT ≡ false → AtLeastCredit l
    have Closed e = absurd (false≢true (sym e))
    have (Mac Debit) e = absurd (false≢true (sym e))
    have (Rmac Debit) e = absurd (false≢true (sym e))
    have (Mac Credit) e = credit-mac
    have (Rmac Credit) e = credit_rmac
    have (Mac Admin) e = admin-mac
    have (Rmac Admin) e = admin_rmac

    has : (l : Level) → AtLeastCredit l → ltb (access l) CREDIT ≡ false
    has l credit-mac = refl
    has l credit_rmac = refl
    has l admin-mac = refl
    has l admin_rmac = refl

-- the PIN's verdict stands behind the rules
verify_word : (h : Head) (s : Session) (a b low none right : Bool)
    → (decided (refuse (not a) 0x6985 (refuse (not b) 0x6A81 (refuse low 0x6982 (refuse none 0x6983 0x9000)))) h (ended s) (judged right h s)).status
    ≡ refuse (not a) 0x6985 (refuse (not b) 0x6A81 (refuse low 0x6982 (refuse none 0x6983 (refuse (not right) 0x6300 0x9000))))
unfolding decided refused judged done
verify_word h s false b low none right = refl
verify_word h s true false low none right = refl
verify_word h s true true true none right = refl
verify_word h s true true false true right = refl
verify_word h s true true false false true = refl
verify_word h s true true false false false = refl

verify_rows : (h : Head) (s : Session) (body : List ℕ) → verify_rules h s body (verify_pin_of h s body).status
unfolding verify_pin_of verify_status received
verify_rows h s body =
    let k = credit_level s.channel.level in
    let right = same (ecb_text decipher s.channel.enc body) h.pin.block in
    rw (verify_word h s h.purse.parameters.personalized h.pin.defined (ltb (access s.channel.level) CREDIT) (eqb h.state.tries 0) right)
    (unset h.purse.parameters.personalized 0x6985 _
    (unset h.pin.defined 0x6A81 _
    (row (ltb (access s.channel.level) CREDIT) 0x6982 _ (λ e n. false≢true (sym (k.1 n) ∙ e)) (λ n. not_refuted _ (λ e. n (k.0 e)))
    (row (eqb h.state.tries 0) 0x6983 _ (eqb-true _ _) (eq-eqb _ _)
    (lacking right 0x6300 _ (same_equal _ _) (equal_same _ _)
    accepted)))))

-- ---- the commands as sent

module _ (c : Card) (s : Session) (set : Set) (p : ℕ) (l : Level) (le random : List ℕ) (short : length le ≤ 1) (o : InChannel s l) (v : LevelOf set p l) where
  at_level : LevelOf set p s.channel.level
  at_level = subst (λ (x : Level). LevelOf set p x) (sym o.level) v

  -- INITIALIZE TRANSACTION
  pub initialize_order : (p1 currency amount : ℕ) → p1 ≤ 2
      → initialize_rules c.head set p s.verified p1 currency amount (respond c s (initialization s p1 currency amount le) random).status
  unfolding instruction of94 signed_parameters signed_length signed_of initialize_transaction_of done chained
  initialize_order p1 currency amount one_of_lem =
      let t = chained (next_mac s (signed_text 0x94 0x44 p1 0x00 (word currency ++ word amount))) s in
      rw (
        reaches_signed c s random InitializeTransaction l 0x94 0x44 p1 0x00 (word currency ++ word amount) le short o refl (le-leb p1 0x02 one_of_lem) refl
            (set-access set p l v).1,
        word_read currency,
        word_read amount,
      )
      (subst (initialize_rules c.head set p s.verified p1 currency amount) (sym (judged-word _ _ _ _ refl))
      (initialize_rows c.head t set p p1 currency amount at_level one_of_lem))

  -- COMPLETE TRANSACTION
  pub complete-order : (context : List ℕ) → length context ≡ 16
      → complete_rules c.head p s.pending (respond c s (completion s context le) random).status
  unfolding instruction of94 are signed_parameters signed_length signed_of complete_transaction_of chained
  complete-order context long =
      let t = chained (next_mac s (signed_text 0x94 0x46 0x00 0x00 context)) s in
      rw (reaches_signed c s random CompleteTransaction l 0x94 0x46 0x00 0x00 context le short o refl refl (rw long) (set-access set p l v).1)
      (subst (complete_rules c.head p s.pending) (sym (judged-word _ _ _ _ refl)) (complete-rows c.head t set p at_level s.pending refl))

-- VERIFY PIN, in any session
pub verify_order : (c : Card) (s : Session) (body le random : List ℕ) → s.selected ≡ true → length body ≡ 8 → length le ≤ 1
    → verify_rules c.head s body (respond c s (plain_command 0x94 0x20 0x00 0x00 body le) random).status
unfolding instruction of94 is_select are plain_parameters has_record plain_length plain_of
verify_order c s body le random sel long short =
    rw (reaches_plain c s random VerifyPin 0x94 0x20 0x00 0x00 body le (omega arith) short refl sel refl refl (rw long)) (verify_rows c.head s body)
