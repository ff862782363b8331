-- No guess is free: of two VERIFY PIN commands that differ only in the PIN sent, at the same limit, either both runs are the same, so that
-- nothing tells the PINs apart, or in both a try is spent or the PIN was right and the run finished. Assumes nothing.
use Rattle.std.specs.Prelude.{Ok}
use mathlib.Core.Bool.{Bool, true, false, not}
use mathlib.Core.List.{List, [], ◌∷◌, ◌++◌}
use mathlib.Core.Option.{Option, none, some}
use mathlib.Core.Path.{◌≡◌, refl, sym, ap, ◌∙◌}
use Prim.Native.Nat.{ℕ, ◌-◌, ◌≤◌, ◌<◌}
use native.Mathlib.Decide.{dec_le}
use native.Mathlib.Nat.{lt_of_not-le}
use native.Mathlib.Omega.{arith}
use borrow.Author.Tests.{eqb-true, ltb-false, lt-ltb, not-false}
use lib.Dec.{ltb, eqb}
use lib.ListN.{length, take, length-append}
use Rattle.octets.specs.Choice.{pick}
use Rattle.octets.specs.Bytes.{AreBytes, byte_at}
use Rattle.stores.specs.Stores.{Store, applied, leaves}
use Rattle.stores.proofs.Limits.{answers-done}
use Rattle.stores.proofs.Sequence.{leaves-first, leaves-second}
use Rattle.card.specs.Card.{Card}
use Rattle.memory.specs.Layout.{memory_size}
use Rattle.memory.specs.Reading.{read_card}
use Rattle.card.specs.declared.change.Change.{Change}
use Rattle.card.specs.Changes.{hot_change, head_after, log_after, changed, after}
use Rattle.memory.specs.Changes.{plan}
use Rattle.memory.proofs.Done.{change_done}
use Rattle.session.specs.declared.Session.{Session}
use Rattle.session.specs.Transitions.{unselected}
use Rattle.commands_spec.specs.declared.outcome.Outcome.{Outcome}
use Rattle.commands_spec.specs.Outcomes.{done, tried, changes_of, commits_of}
use Rattle.card.specs.Updates.{with_state, with_tries, with_balance, with_purse}
use Rattle.commands_spec.specs.VerifyPin.{judged}
use Rattle.commands_spec.specs.Respond.{respond, card_after}
use Rattle.commands_spec.proofs.PinTry.{pin_pair}
use Rattle.commands_spec.proofs.Sizes.{Sound}
use Rattle.commands_spec.proofs.Proper.{each_proper}
use Rattle.purse_spec.specs.Calls.{Run, awaits, performed}
use Rattle.purse_spec.specs.Commands.{least_area, plans, outcome_plan, outcome_run, on_card, command}
use Rattle.purse_spec.specs.History.{send, Situation, run}
use Rattle.purse_spec.specs.Ledger.{status_word}
use Rattle.purse_spec.proofs.Rows.{EachProper, first_proper, others_proper, plans-cut}
use Rattle.purse_spec.proofs.Names.{bytes-named}
use Rattle.purse_spec.proofs.Performing.{Fewer, performed-done}
use Rattle.purse_spec.proofs.Promised.{Typed, sound_of}
use Rattle.purse_spec.proofs.Responses.{performed_responds}
use Rattle.purse_spec.proofs.Performed.{Follows, performed_follows}
use Rattle.apdu.specs.declared.instructions.Plain.TheVariants.{VerifyPin}
use Rattle.apdu.specs.declared.instructions.Instruction.TheVariants.{IsPlain}

-- behind a run on the card c the try is spent: memory reads as c with one try fewer, or the run is finished and its PIN was right
pub data Spent (c : Card) (r : Run) : Type 0 where
  one_fewer : (d : Card) → read_card r.memory ≡ some d → Fewer c d → Spent c r
  accepted : r.answer ≡ 0 → status_word r ≡ 0x9000 → Spent c r

-- of two runs on memory m
pub data Guess (m : List ℕ) (r q : Run) : Type 0 where
  same : r ≡ q → Guess m r q
  spent : (c : Card) → read_card m ≡ some c → Spent c r → Spent c q → Guess m r q

-- ---- two outcomes

data Tried (c : Card) (s : Session) (o u : Outcome) : Type 0 where
  alike : o ≡ u → Tried c s o u
  judges : (x y : Bool) → 0 < c.head.state.tries → o ≡ judged x c.head s → u ≡ judged y c.head s → Tried c s o u

-- the first change: a try is spent
abbrev first : Card → Change
first c = hot_change (with_state (tried c.head.state) c.head)

-- those behind it
abbrev rest : Card → Bool → List Change
rest c right = pick right (hot_change (with_tries c.head.fixed.maxtries c.head) ∷ []) []

judged_changes : (c : Card) (s : Session) (right : Bool) → commits_of (judged right c.head s) ≡ first c ∷ rest c right
unfolding judged done commits_of changes_of with_state with_tries
judged_changes c s true = refl
judged_changes c s false = refl

rest_few : (c : Card) (right : Bool) → length (rest c right) ≤ 1
rest_few c true = omega arith
rest_few c false = omega arith

module _ (m : List ℕ) (c : Card) (e : read_card m ≡ some c) (k : 0 < c.head.state.tries) (area : List ℕ) (limit : ℕ) where
  abbrev p : ℕ
  p = length (plan (first c) m)

  abbrev m₁ : List ℕ
  m₁ = applied (plan (first c) m) m

  -- the stores of an outcome that judges a PIN
  planned : (o : Outcome) (xs : List Change) → commits_of o ≡ first c ∷ xs → outcome_plan o m ≡ plan (first c) m ++ plans xs m₁
  unfolding outcome_plan plans
  planned o xs h = rw h

  -- cut in the first change, whatever comes behind
  cut-first : (o : Outcome) (xs : List Change) → commits_of o ≡ first c ∷ xs → limit < p
      → outcome_run o m area limit ≡ record { answer = 7; count = limit; session = unselected; memory = leaves (plan (first c) m) limit m; length = 0; response = area }
  unfolding performed
  cut-first o xs h l =
      let q = planned o xs h in
      let n : limit < length (outcome_plan o m) = rw q (omega (arith, length-append (plan (first c) m) (plans xs m₁))) in
      let z : leaves (outcome_plan o m) limit m ≡ leaves (plan (first c) m) limit m =
      ap (λ (y : List Store). leaves y limit m) q ∙ leaves-first (plan (first c) m) (plans xs m₁) limit m (omega arith)
      in
      rw (lt-ltb limit (length (outcome_plan o m)) n, z)

  abbrev d : Card
  d = changed (first c) c

  spent_try : Fewer c d
  unfolding changed head_after log_after with_state with_balance with_purse tried
  spent_try = record { is = refl; tries = omega arith }

  -- cut past the first change
  cut_past : (o : Outcome) (xs : List Change) → commits_of o ≡ first c ∷ xs → length xs ≤ 1 → EachProper c (first c ∷ xs) → p ≤ limit
      → limit < length (outcome_plan o m) → read_card (leaves (outcome_plan o m) limit m) ≡ some d
  unfolding after
  cut_past o xs h n a l j =
      let q = planned o xs h in
      let i : limit < length (plan (first c) m ++ plans xs m₁) = rw q at j in
      let r =
      plans-cut xs m₁ d (limit - p) (change_done (first c) m c e (first_proper (first c) xs c a)) (others_proper (first c) xs c a)
      (omega (arith, length-append (plan (first c) m) (plans xs m₁)))
      in
      let u : r.0 < length xs = r.1 in
      let v : r.0 ≡ 0 = omega arith in
      ap (λ (y : List Store). read_card (leaves y limit m)) q ∙ ap read_card (leaves-second (plan (first c) m) (plans xs m₁) limit m l) ∙ r.2
      ∙ ap (λ (b : ℕ). some (after (take b xs) d)) v

-- ---- two commands on a card

module _ (m : List ℕ) (c : Card) (s : Session) (a b random area : List ℕ) (limit : ℕ) (e : read_card m ≡ some c)
    (i : Sound c s a random) (j : Sound c s b random) (room : least_area ≤ length area) where
  abbrev r : List ℕ → Run
  r bytes = outcome_run (respond c s bytes random) m area limit

  -- the changes of a command whose PIN is judged
  judged-is : (bytes : List ℕ) (right : Bool) → respond c s bytes random ≡ judged right c.head s → commits_of (respond c s bytes random) ≡ first c ∷ rest c right
  judged-is bytes right q = ap commits_of q ∙ judged_changes c s right

  module _ (bytes : List ℕ) (y : Sound c s bytes random) (k : 0 < c.head.state.tries) where
    abbrev O : Outcome
    O = respond c s bytes random

    abbrev f : Follows (outcome_plan O m) limit m (r bytes)
    f = performed_follows _ limit m _ _ area

    -- a finished run: a wrong PIN has cost a try, a right one says 9000
    finished_spent : (right : Bool) → O ≡ judged right c.head s → length (outcome_plan O m) ≤ limit → Spent c (r bytes)
    unfolding judged done card_after after
    finished_spent true q l =
        let z = f.answer ∙ answers-done (outcome_plan O m) limit l in
        accepted z ((performed_responds m c s bytes random area limit room y z).status ∙ ap (λ (o : Outcome). o.status) q)
    finished_spent false q l =
        one_fewer (changed (first c) c)
        (ap read_card f.memory ∙ performed-done m c s bytes random e y limit l ∙ ap (λ (xs : List Change). some (after xs c)) (judged-is bytes false q))
        (spent_try m c e k area limit)

    judged_spent : (right : Bool) → O ≡ judged right c.head s → length (plan (first c) m) ≤ limit → Spent c (r bytes)
    judged_spent right q l =
        let h = judged-is bytes right q in
        elim (dec_le (length (outcome_plan O m)) limit) [
          | yes g ↦ finished_spent right q g
          | no g ↦
              one_fewer (changed (first c) c)
              (ap read_card f.memory
              ∙ cut_past m c e k area limit O (rest c right) h (rest_few c right) (rw h at (each_proper c s bytes random y)) l (lt_of_not-le g))
              (spent_try m c e k area limit)
        ]

  guessed : Tried c s (respond c s a random) (respond c s b random) → Guess m (r a) (r b)
  guessed (alike q) = same (ap (λ (o : Outcome). outcome_run o m area limit) q)
  guessed (judges x y k q u) =
      elim (dec_le (length (plan (first c) m)) limit) [
        | yes l ↦ spent c e (judged_spent a i k x q l) (judged_spent b j k y u l)
        | no l ↦
            same
            (cut-first m c e k area limit (respond c s a random) (rest c x) (judged-is a x q) (lt_of_not-le l)
            ∙ sym (cut-first m c e k area limit (respond c s b random) (rest c y) (judged-is b y u) (lt_of_not-le l)))
      ]

-- ---- the law

pick_pair : (m : List ℕ) (t : Bool) (x f g : Run) → (t ≡ false → Guess m f g) → Guess m (pick t x f) (pick t x g)
pick_pair m true x f g h = same refl
pick_pair m false x f g h = h refl

-- two commands of one length that agree in their first five bytes, 94 20 .., on the same memory and in the same session, with the same
-- random bytes, response area and limit
pub no_free_guess : (st : Situation) (a b random area : List ℕ) (limit : ℕ) → (typed : Typed st) → (bytes-a : AreBytes a) → (bytes-b : AreBytes b)
    → (drawn : AreBytes random) → (cla : byte_at a 0 ≡ 0x94) → (ins : byte_at a 1 ≡ 0x20) → (long : length a ≡ length b)
    → (header : (k : ℕ) → k < 5 → byte_at a k ≡ byte_at b k)
    → Guess st.memory (run (send a random area limit) st) (run (send b random area limit) st)
unfolding run command on_card
no_free_guess st a b random area limit t f g h x y n z =
    let m = st.memory in
    let s = st.session in
    pick_pair m (not (eqb (length m) memory_size)) _ _ _
    (λ u. pick_pair m (ltb (length area) least_area) _ _ _
    (λ v. pick_pair m (not (eqb (length random) 8)) _ _ _
    (λ w. go (ltb-false _ _ v) (eqb-true (length random) 8 (not-false _ w)) (read_card m) refl)))
  where
    go : least_area ≤ length area → length random ≡ 8 → (o : Option Card) → read_card st.memory ≡ o
        → Guess st.memory (on_card o st.memory st.session a random area limit) (on_card o st.memory st.session b random area limit)
    go v l none q = same refl
    go v l (some c) q =
        let i : (bytes : List ℕ) → AreBytes bytes → Sound c st.session bytes random =
        λ bytes k. sound_of st.memory c st.session bytes random t.memory q t.session k h l
        in
        pick_pair st.memory (awaits st.memory) _ _ _
        (λ r. guessed st.memory c st.session a b random area limit q (i a f) (i b g) v
        (pin_pair c st.session (Tried c st.session) (λ u w. alike refl) (λ u w k. judges u w k refl refl) a b random (bytes-named a (Ok (IsPlain VerifyPin)) (x, y)) n z))
