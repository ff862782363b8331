-- Document 01: "Each answer is given only for its reason", in the order 1, 3, 4, 2, 5, 6, and wherever it is due; 7 exactly where no
-- refusal is due and the limit is below the number of stores, else 0. Assumes nothing.
use mathlib.Core.Bool.{true, false, false≢true}
use mathlib.Core.List.{List}
use mathlib.Core.Logic.{◌⊎◌, inl, inr}
use mathlib.Core.Option.{none, some-ne-none}
use mathlib.Core.Path.{◌≡◌, refl, sym, ap, ◌∙◌}
use Prim.Native.Nat.{ℕ, ◌≤◌, ◌<◌}
use native.Mathlib.Omega.{arith}
use lib.ListN.{length}
use Rattle.stores.specs.Stores.{answers}
use Rattle.stores.proofs.Limits.{never_seven, seven_cut, zero_done, reports-count}
use Rattle.memory.specs.Reading.{readable, read_card}
use Rattle.memory.proofs.Seen.{reads}
use Rattle.memory.proofs.Live.{sound}
use Rattle.memory.proofs.Cards.{readable_read}
use Rattle.commands_spec.specs.Order.{Rule, refuses, passes}
use Rattle.purse_spec.specs.Calls.{Run, refusal}
use Rattle.purse_spec.specs.History.{Call, install, start, send, Situation, limited, OfBytes, run, limit_of, session_for, area_for}
use Rattle.purse_spec.specs.Reasons.{FirstReason, reasons, stores_of, Ends, cut, finished, Due}
use Rattle.purse_spec.proofs.Answers.{answers_keep}
use Rattle.purse_spec.proofs.Performed.{done_or_cut}
use Rattle.purse_spec.proofs.Runs.{installation_holds, startup_holds, command_holds}
use Rattle.purse_spec.proofs.Installing.{in_range, only_in_range}
use Rattle.purse_spec.proofs.Promised.{Typed}
use Rattle.purse_spec.proofs.Counts.{Shape, one_refusal, one_plan, shape}
use Rattle.purse_spec.proofs.EveryCall.{own_limit}

-- ---- rules in a row

module _ {P : Type 0} {w : ℕ} {rest : ℕ → Type 0} where
  -- at most one answer is that of a rule, where at most one is left to the rest
  rule_once : ((n k : ℕ) → rest n → rest k → n ≡ k) → (n k : ℕ) → Rule P w rest n → Rule P w rest k → n ≡ k
  rule_once h n k (refuses p) (refuses q) = refl
  rule_once h n k (refuses p) (passes q b) = absurd (q p)
  rule_once h n k (passes p a) (refuses q) = absurd (p q)
  rule_once h n k (passes p a) (passes q b) = h n k a b

  -- another rest
  rule_map : (other : ℕ → Type 0) (n : ℕ) → (rest n → other n) → Rule P w rest n → Rule P w other n
  rule_map other n f (refuses p) = refuses p
  rule_map other n f (passes p a) = passes p (f a)

  -- each rule's answer is one of 1 to 6
  rule_number : (n : ℕ) → (1 ≤ w) × (w ≤ 6) → (rest n → (1 ≤ n) × (n ≤ 6)) → Rule P w rest n → (1 ≤ n) × (n ≤ 6)
  rule_number n l f (refuses p) = l
  rule_number n l f (passes p a) = f a

reasons-map : (x : Call) (st : Situation) (rest other : ℕ → Type 0) (n : ℕ) → (rest n → other n) → reasons x st rest n → reasons x st other n
unfolding reasons
reasons-map (install d limit) st rest other n f = rule_map _ n (rule_map other n f)
reasons-map (start limit) st rest other n f = rule_map _ n (rule_map other n f)
reasons-map (send bytes random area limit) st rest other n f = rule_map _ n (rule_map _ n (rule_map _ n (rule_map _ n (rule_map other n f))))

-- ---- each call

-- finished or cut
abbrev ZeroOrSeven : ℕ → Type 0
ZeroOrSeven n = (n ≡ 0) ⊎ (n ≡ 7)

unread : (m : List ℕ) → readable m ≡ false → read_card m ≡ none
unfolding read_card
unread m e = rw e

card_read : (m : List ℕ) → readable m ≡ true → read_card m ≡ none → ⊥
card_read m t e = some-ne-none _ (sym (readable_read m t) ∙ e)

decided : (x : Call) (st : Situation) → reasons x st ZeroOrSeven (run x st).answer
unfolding run refusal reasons
decided (install d limit) st =
    installation_holds st.memory (λ (r : ℕ → Run). reasons (install d limit) st ZeroOrSeven (r limit).answer) d
    (λ e. refuses e)
    (λ e t. passes (λ w. w e) (refuses (λ g. false≢true (sym t ∙ in_range d g))))
    (λ e t. passes (λ w. w e) (passes (λ w. w (only_in_range d t)) (done_or_cut _ limit st.memory _ _ _)))
decided (start limit) st =
    startup_holds st.memory (λ (r : ℕ → Run). reasons (start limit) st ZeroOrSeven (r limit).answer)
    (λ e. refuses e)
    (λ e t. passes (λ w. w e) (refuses (unread st.memory t)))
    (λ e t. passes (λ w. w e) (passes (card_read st.memory t) (done_or_cut _ limit st.memory _ _ _)))
decided (send bytes random area limit) st =
    command_holds st.memory (λ (r : ℕ → Run). reasons (send bytes random area limit) st ZeroOrSeven (r limit).answer) st.session bytes random area
    (λ e. refuses e)
    (λ e t. passes (λ w. w e) (refuses t))
    (λ e t u. passes (λ w. w e) (passes (λ w. omega arith) (refuses u)))
    (λ e t u v. passes (λ w. w e) (passes (λ w. omega arith) (passes (λ w. w u) (refuses v))))
    (λ c t u v z.
    let e = (sound st.memory c (reads st.memory c v)).size in
    passes (λ w. w e) (passes (λ w. omega arith) (passes (λ w. w u) (passes (λ w. some-ne-none c (sym v ∙ w)) (refuses z)))))
    (λ c t u v z.
    let e = (sound st.memory c (reads st.memory c v)).size in
    passes (λ w. w e)
    (passes (λ w. omega arith)
    (passes (λ w. w u)
    (passes (λ w. some-ne-none c (sym v ∙ w)) (passes (λ w. false≢true (sym z ∙ w)) (done_or_cut _ limit st.memory _ _ _))))))

-- ---- 7 or 0

module _ (x : Call) (st : Situation) (t : Typed st) (f : OfBytes x) where
  abbrev F : ℕ → Run
  F L = run (limited L x) st

  -- cut below the number of stores, finished from it on
  by_stores : Shape st.memory F → (n : ℕ) → (F (limit_of x)).answer ≡ n → (n ≡ 7 → limit_of x < stores_of x st) × (n ≡ 0 → stores_of x st ≤ limit_of x)
  unfolding stores_of refusal
  by_stores (one_refusal k a b s area h) n e =
      let z = sym (ap (λ (r : Run). r.answer) (h (limit_of x))) ∙ e in
      (λ w. absurd (omega arith), λ w. absurd (omega arith))
  by_stores (one_plan p b h) n e =
      let z : answers p (limit_of x) ≡ n = sym (h (limit_of x)).answer ∙ e in
      let c : (F 65535).count ≡ length p = (h 65535).count ∙ reports-count p 65535 (never_seven p 65535 b (omega arith)) in
      (λ w. omega (arith, seven_cut p (limit_of x) (z ∙ w)), λ w. omega (arith, zero_done p (limit_of x) (z ∙ w)))

  few_by : Shape st.memory F → stores_of x st ≤ 65535
  unfolding stores_of refusal
  few_by (one_refusal k a b s area h) = let z = ap (λ (r : Run). r.count) (h 65535) in omega arith
  few_by (one_plan p b h) =
      let z : (F 65535).count ≡ length p = (h 65535).count ∙ reports-count p 65535 (never_seven p 65535 b (omega arith)) in
      omega arith

  -- no call makes more than 65,535 stores
  pub few_stores : stores_of x st ≤ 65535
  few_stores = few_by (shape x st t f)

  limits : (n : ℕ) → (run x st).answer ≡ n → (n ≡ 7 → limit_of x < stores_of x st) × (n ≡ 0 → stores_of x st ≤ limit_of x)
  limits n e = by_stores (shape x st t f) n (ap (λ (y : Call). (run y st).answer) (own_limit x) ∙ e)

  ends : (n : ℕ) → (run x st).answer ≡ n → ZeroOrSeven n → Ends x st n
  ends n e (inl z) = rw z (finished ((limits n e).1 z))
  ends n e (inr z) = rw z (cut ((limits n e).0 z))

-- "Each answer is given only for its reason"
pub answered : (x : Call) (st : Situation) → (typed : Typed st) → (given : OfBytes x) → Due x st (run x st).answer
unfolding Due
answered x st t f = reasons-map x st ZeroOrSeven (Ends x st) (run x st).answer (ends x st t f (run x st).answer refl) (decided x st)

-- no two answers are due at once
ends_once : (x : Call) (st : Situation) (n k : ℕ) → Ends x st n → Ends x st k → n ≡ k
ends_once x st n k (cut l) (cut m) = refl
ends_once x st n k (cut l) (finished m) = absurd (omega arith)
ends_once x st n k (finished l) (cut m) = absurd (omega arith)
ends_once x st n k (finished l) (finished m) = refl

one_due : (x : Call) (st : Situation) (n k : ℕ) → Due x st n → Due x st k → n ≡ k
unfolding Due reasons
one_due (install d limit) st n k = rule_once (rule_once (ends_once (install d limit) st)) n k
one_due (start limit) st n k = rule_once (rule_once (ends_once (start limit) st)) n k
one_due (send bytes random area limit) st n k =
    rule_once (rule_once (rule_once (rule_once (rule_once (ends_once (send bytes random area limit) st))))) n k

-- and wherever an answer is due, it is given
pub exactly : (x : Call) (st : Situation) → (typed : Typed st) → (given : OfBytes x) → (n : ℕ) → (due : Due x st n) → (run x st).answer ≡ n
exactly x st t f n d = one_due x st (run x st).answer n (answered x st t f) d

-- ---- a refusal changes nothing

pub refusal-number : (x : Call) (st : Situation) (n : ℕ) → FirstReason (reasons x st) n → (1 ≤ n) × (n ≤ 6)
unfolding reasons
refusal-number (install d limit) st n =
    rule_number n (omega arith, omega arith) (rule_number n (omega arith, omega arith) (λ z. absurd z))
refusal-number (start limit) st n = rule_number n (omega arith, omega arith) (rule_number n (omega arith, omega arith) (λ z. absurd z))
refusal-number (send bytes random area limit) st n =
    rule_number n (omega arith, omega arith)
    (rule_number n (omega arith, omega arith)
    (rule_number n (omega arith, omega arith) (rule_number n (omega arith, omega arith) (rule_number n (omega arith, omega arith) (λ z. absurd z)))))

-- "Answers 1 to 6 .. change no area and no session", and "report 0", each where its reason is the first that holds
pub refused-whole : (x : Call) (st : Situation) → (typed : Typed st) → (given : OfBytes x) → (n : ℕ) → (first : FirstReason (reasons x st) n)
    → run x st ≡ record { answer = n; count = 0; session = session_for x st; memory = st.memory; length = 0; response = area_for x }
unfolding Due
refused-whole x st t f n a =
    let e = exactly x st t f n (reasons-map x st (λ k. ⊥) (Ends x st) n (λ z. absurd z) a) in
    let b = refusal-number x st n a in
    (answers_keep x st).refused (λ z. omega arith) (λ z. omega arith)
    ∙ ap {B = Run} (λ (k : ℕ). record { answer = k; count = 0; session = session_for x st; memory = st.memory; length = 0; response = area_for x }) e
