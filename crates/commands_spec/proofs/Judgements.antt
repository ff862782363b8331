-- Each command's row of rules: its word is 9000 or a refusal that keeps the card, and 9000 tells that every rule let pass. Assumes nothing.
use mathlib.Core.Bool.{Bool, true, false, not, ◌&&◌, ◌||◌}
use mathlib.Core.Path.{◌≡◌}
use Prim.Native.Nat.{ℕ, ◌+◌, ◌≤◌, ◌<◌}
use native.Mathlib.Omega.{arith}
use borrow.Author.Tests.{not-false, ltb-false, leb-false, eqb-true, eqb-false}
use lib.Dec.{ltb, leb, eqb}
use Rattle.octets.proofs.Rules.{passed}
use Rattle.octets.proofs.Conditions.{neither}
use Rattle.card.specs.declared.head.Head.{Head}
use Rattle.session.specs.declared.Session.{Session}
use Rattle.session.specs.Access.{access, has_rmac, ADMIN, CREDIT}
use Rattle.session.specs.Codes.{amount_of}
use Rattle.commands_spec.specs.Words.{is_one, refusals}
use Rattle.commands_spec.specs.PutKey.{put_key_status}
use Rattle.commands_spec.specs.PinChange.{pin_status}
use Rattle.commands_spec.specs.StoreData.{store_status}
use Rattle.commands_spec.specs.VerifyPin.{verify_status}
use Rattle.commands_spec.specs.Transaction.{not_above_zero, keeps_limits}
use Rattle.commands_spec.specs.InitializeTransaction.{lacks, entitled, initialize_status}
use Rattle.commands_spec.specs.CompleteTransaction.{is_noted, is_debit, complete_status}
use Rattle.commands_spec.specs.PutData.{data_status}
use Rattle.commands_spec.proofs.Steps.{Judged, rule}

-- ---- the words

pub put_key_judged : (level : ℕ) → Judged refusals (put_key_status level)
unfolding put_key_status is_one refusals
put_key_judged level = search rule depth 24

pub pin-judged : (unblock defined : Bool) (level : ℕ) (good : Bool) → Judged refusals (pin_status unblock defined level good)
unfolding pin_status is_one refusals
pin-judged unblock defined level good = search rule depth 24

pub store_judged : (personalized keyed : Bool) (level : ℕ) (inside good : Bool) → Judged refusals (store_status personalized keyed level inside good)
unfolding store_status is_one refusals
store_judged personalized keyed level inside good = search rule depth 24

pub verify_judged : (personalized defined : Bool) (level tries : ℕ) → Judged refusals (verify_status personalized defined level tries)
unfolding verify_status is_one refusals
verify_judged personalized defined level tries = search rule depth 24

pub initialize_judged : (h : Head) (s : Session) (p1 currency amount : ℕ) → Judged refusals (initialize_status h s p1 currency amount)
unfolding initialize_status is_one refusals
initialize_judged h s p1 currency amount = search rule depth 24

pub complete-judged : (h : Head) (s : Session) → Judged refusals (complete_status h s)
unfolding complete_status is_one refusals
complete-judged h s = search rule depth 24

pub data_judged : (personalized locked : Bool) (level : ℕ) (good undercut : Bool) → Judged refusals (data_status personalized locked level good undercut)
unfolding data_status is_one refusals
data_judged personalized locked level good undercut = search rule depth 24

-- ---- what 9000 tells

-- VERIFY PIN has a try left
pub verify_tries : (personalized defined : Bool) (level tries : ℕ) → verify_status personalized defined level tries ≡ 0x9000 → 0 < tries
unfolding verify_status
verify_tries personalized defined level tries e =
    let p = passed (not personalized) 0x6985 _ 0x9000 e (λ z. omega arith) in
    let q = passed (not defined) 0x6A81 _ 0x9000 p.1 (λ z. omega arith) in
    let r = passed (ltb level CREDIT) 0x6982 _ 0x9000 q.1 (λ z. omega arith) in
    let t = passed (eqb tries 0) 0x6983 0x9000 0x9000 r.1 (λ z. omega arith) in
    let n = eqb-false tries 0 t.0 in
    omega arith

-- what INITIALIZE TRANSACTION found
pub record Initializes (h : Head) (s : Session) (p1 currency amount : ℕ) : Type 0 where
  pub personal : h.purse.parameters.personalized ≡ true
  pub equipped : lacks p1 h.purse.parameters.bank.defined h.pin.defined ≡ false
  pub may : entitled p1 (access s.channel.level) s.verified ≡ true
  pub with_rmac : has_rmac s.channel.level ≡ true
  pub room : h.state.number < h.shared.maxnumber
  pub same : currency ≡ h.purse.parameters.currency
  pub above : 0 < amount
  pub signed : amount < 0x8000
  pub debits : eqb p1 0x00 ≡ true → (amount ≤ h.purse.parameters.maxdebit) × (amount ≤ h.purse.balance)
  pub credits : eqb p1 0x00 ≡ false → h.purse.balance + amount ≤ h.purse.parameters.maxbalance

pub initialize_passed : (h : Head) (s : Session) (p1 currency amount : ℕ) → initialize_status h s p1 currency amount ≡ 0x9000
    → Initializes h s p1 currency amount
unfolding initialize_status not_above_zero
initialize_passed h s p1 currency amount e =
    let q = h.purse.parameters in
    let x = h.purse.balance in
    let a = passed (not q.personalized) 0x6985 _ 0x9000 e (λ z. omega arith) in
    let b = passed (lacks p1 q.bank.defined h.pin.defined) 0x6A81 _ 0x9000 a.1 (λ z. omega arith) in
    let c = passed (not (entitled p1 (access s.channel.level) s.verified)) 0x6982 _ 0x9000 b.1 (λ z. omega arith) in
    let d = passed (not (has_rmac s.channel.level)) 0x6982 _ 0x9000 c.1 (λ z. omega arith) in
    let f = passed (leb h.shared.maxnumber h.state.number) 0x9410 _ 0x9000 d.1 (λ z. omega arith) in
    let g = passed (not (eqb currency q.currency)) 0x9411 _ 0x9000 f.1 (λ z. omega arith) in
    let k = passed (eqb amount 0x0000 || leb 0x8000 amount) 0x9412 _ 0x9000 g.1 (λ z. omega arith) in
    let i = passed (eqb p1 0x00 && (ltb q.maxdebit amount || ltb x amount)) 0x9413 _ 0x9000 k.1 (λ z. omega arith) in
    let j = passed (not (eqb p1 0x00) && ltb q.maxbalance (x + amount)) 0x9414 _ 0x9000 i.1 (λ z. omega arith) in
    let n = neither (eqb amount 0x0000) (leb 0x8000 amount) k.0 in
    let z = eqb-false amount 0x0000 n.0 in
    record {
      personal = not-false _ a.0;
      equipped = b.0;
      may = not-false _ c.0;
      with_rmac = not-false _ d.0;
      room = leb-false h.shared.maxnumber h.state.number f.0;
      same = eqb-true currency q.currency (not-false _ g.0);
      above = omega arith;
      signed = leb-false 0x8000 amount n.1;
      debits = λ y. let m = neither (ltb q.maxdebit amount) (ltb x amount) (rw y at i.0) in (ltb-false q.maxdebit amount m.0, ltb-false x amount m.1);
      credits = λ y. ltb-false q.maxbalance (x + amount) (rw y at j.0);
    }

-- what COMPLETE TRANSACTION found
pub record Completes (h : Head) (s : Session) : Type 0 where
  pub personal : h.purse.parameters.personalized ≡ true
  pub pending : is_noted s.pending ≡ true
  pub with_rmac : has_rmac s.channel.level ≡ true
  pub room : h.state.number < h.shared.maxnumber
  pub within : keeps_limits (is_debit s.pending) (amount_of s.pending) h.purse.balance h.purse.parameters.maxbalance ≡ true

pub complete_passed : (h : Head) (s : Session) → complete_status h s ≡ 0x9000 → Completes h s
unfolding complete_status
complete_passed h s e =
    let p = passed (not h.purse.parameters.personalized) 0x6985 _ 0x9000 e (λ z. omega arith) in
    let q = passed (not (is_noted s.pending)) 0x6985 _ 0x9000 p.1 (λ z. omega arith) in
    let r = passed (not (has_rmac s.channel.level)) 0x6982 _ 0x9000 q.1 (λ z. omega arith) in
    let t = passed (leb h.shared.maxnumber h.state.number) 0x6985 _ 0x9000 r.1 (λ z. omega arith) in
    let keeps = keeps_limits (is_debit s.pending) (amount_of s.pending) h.purse.balance h.purse.parameters.maxbalance in
    let u = passed (not keeps) 0x6985 0x9000 0x9000 t.1 (λ z. omega arith) in
    record {
      personal = not-false _ p.0;
      pending = not-false _ q.0;
      with_rmac = not-false _ r.0;
      room = leb-false h.shared.maxnumber h.state.number t.0;
      within = not-false keeps u.0;
    }

-- PIN CHANGE's block is well formed
pub pin_formed : (unblock defined : Bool) (level : ℕ) (good : Bool) → pin_status unblock defined level good ≡ 0x9000 → unblock ≡ false → good ≡ true
unfolding pin_status
pin_formed unblock defined level good e u =
    let p = passed (unblock && not defined) 0x6A81 _ 0x9000 e (λ z. omega arith) in
    let q = passed (ltb level ADMIN) 0x6982 _ 0x9000 p.1 (λ z. omega arith) in
    let r = passed (not unblock && not good) 0x6A80 0x9000 0x9000 q.1 (λ z. omega arith) in
    not-false good (rw u at r.0)

-- what STORE DATA found
pub record Stores (personalized keyed good : Bool) : Type 0 where
  pub personal : personalized ≡ false
  pub keys : keyed ≡ true
  pub whole : good ≡ true

pub store_passed : (personalized keyed : Bool) (level : ℕ) (inside good : Bool) → store_status personalized keyed level inside good ≡ 0x9000
    → Stores personalized keyed good
unfolding store_status
store_passed personalized keyed level inside good e =
    let p = passed (personalized || not keyed) 0x6985 _ 0x9000 e (λ z. omega arith) in
    let q = passed (ltb level ADMIN) 0x6982 _ 0x9000 p.1 (λ z. omega arith) in
    let r = passed (not inside) 0x6A85 _ 0x9000 q.1 (λ z. omega arith) in
    let t = passed (not good) 0x6A80 0x9000 0x9000 r.1 (λ z. omega arith) in
    let n = neither personalized (not keyed) p.0 in
    record { personal = n.0; keys = not-false keyed n.1; whole = not-false good t.0 }

-- what PUT DATA found
pub record Puts (personalized good undercut : Bool) : Type 0 where
  pub personal : personalized ≡ true
  pub value : good ≡ true
  pub above : undercut ≡ false

pub data_passed : (personalized locked : Bool) (level : ℕ) (good undercut : Bool) → data_status personalized locked level good undercut ≡ 0x9000
    → Puts personalized good undercut
unfolding data_status
data_passed personalized locked level good undercut e =
    let p = passed (not personalized) 0x6985 _ 0x9000 e (λ z. omega arith) in
    let q = passed locked 0x6A81 _ 0x9000 p.1 (λ z. omega arith) in
    let r = passed (ltb level ADMIN) 0x6982 _ 0x9000 q.1 (λ z. omega arith) in
    let t = passed (not good) 0x6A80 _ 0x9000 r.1 (λ z. omega arith) in
    let u = passed undercut 0x6A80 0x9000 0x9000 t.1 (λ z. omega arith) in
    record { personal = not-false personalized p.0; value = not-false good t.0; above = u.0 }
