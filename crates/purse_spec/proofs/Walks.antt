-- Walks: histories of demand 3 as far as they have gone, and what a command at limit 65,535 or one that is cut adds to them. Assumes nothing.
use mathlib.Core.Bool.{true, false, false≢true}
use mathlib.Core.List.{List, [], ◌∷◌, ◌++◌}
use mathlib.Core.Option.{some}
use mathlib.Core.Path.{◌≡◌, refl, sym, ap, ◌∙◌, subst}
use Prim.Native.Nat.{ℕ, ◌≤◌, ◌<◌}
use native.Mathlib.Omega.{arith}
use borrow.Author.Tests.{eq-eqb}
use lib.ListN.{length}
use Rattle.octets.specs.Bytes.{AreBytes, byte_at, zeros}
use Rattle.card.specs.Card.{Card}
use Rattle.memory.specs.Reading.{read_card}
use Rattle.session.specs.declared.Session.{Session}
use Rattle.commands_spec.specs.Respond.{respond, card_after}
use Rattle.purse_spec.specs.History.{Call, start, send, Situation, limited, OfBytes, AllOfBytes, run, is_start, is_install, next, after_calls, Admissible, IsHistory, limit_of}
use Rattle.purse_spec.specs.Reasons.{stores_of, cut}
use Rattle.purse_spec.proofs.Typed.{Typed, typed_next}
use Rattle.purse_spec.proofs.Counts.{stores_law}
use Rattle.purse_spec.proofs.Answered.{exactly}
use Rattle.purse_spec.proofs.DemandTwo.{no_reason, demand_two, demand_two_uncut}

-- ---- a history as far as it has gone

pub record Walk (first now : Situation) : Type 0 where
  pub calls : List Call
  pub bytes : AllOfBytes calls
  pub history : IsHistory calls first
  pub arrives : after_calls calls first ≡ now

-- one call more at the end of a list
after_last : (xs : List Call) (x : Call) (st : Situation) → after_calls (xs ++ x ∷ []) st ≡ next x (after_calls xs st)
unfolding after_calls
after_last [] x st = refl
after_last (y ∷ xs) x st = after_last xs x (next y st)

bytes_last : (xs : List Call) (x : Call) → AllOfBytes xs → OfBytes x → AllOfBytes (xs ++ x ∷ [])
unfolding AllOfBytes
bytes_last [] x f g = (g, tt)
bytes_last (y ∷ xs) x f g = (f.0, bytes_last xs x f.1 g)

-- what it must be where the list ends
Fits : Call → Situation → Type 0
Fits x st = (st.cut ≡ true → is_start x ≡ true) × (is_install x ≡ true → (run x st).answer ≡ 7 → ⊥)

admissible_last : (xs : List Call) (x : Call) (st : Situation) → Admissible xs st → Fits x (after_calls xs st) → Admissible (xs ++ x ∷ []) st
unfolding Admissible Fits after_calls
admissible_last [] x st a g = (g.0, g.1, tt)
admissible_last (y ∷ xs) x st a g = (a.0, a.1, admissible_last xs x (next y st) a.2 g)

history_last : (xs : List Call) (x : Call) (st : Situation) → IsHistory xs st → Fits x (after_calls xs st) → IsHistory (xs ++ x ∷ []) st
unfolding IsHistory after_calls
history_last [] x st h g = absurd h
history_last (y ∷ xs) x st h g = (h.0, h.1, admissible_last xs x (next y st) h.2 g)

pub further : {first now : Situation} → Walk first now → (x : Call) → OfBytes x → (now.cut ≡ true → is_start x ≡ true) → (is_install x ≡ true → (run x now).answer ≡ 7 → ⊥)
    → Walk first (next x now)
unfolding Fits
further {first} {now} w x f g h =
    record {
      calls = w.calls ++ x ∷ [];
      bytes = bytes_last w.calls x w.bytes f;
      history = history_last w.calls x first w.history (subst (Fits x) (sym w.arrives) (g, h));
      arrives = after_last w.calls x first ∙ ap (next x) w.arrives;
    }

-- ---- where it stands

-- memory reads as a card, a session is at hand, and no cut awaits a start-up
pub record At (st : Situation) (c : Card) (s : Session) : Type 0 where
  pub typed : Typed st
  pub reads : read_card st.memory ≡ some c
  pub session : st.session ≡ s
  pub whole : st.cut ≡ false

-- a walk that stands there
pub record Reached (first : Situation) (c : Card) (s : Session) : Type 0 where
  pub now : Situation
  pub walk : Walk first now
  pub here : At now c s

-- a command of bytes at limit 65,535
abbrev pub sent : List ℕ → List ℕ → ℕ → Call
sent bytes random limit = send bytes random (zeros 32) limit

-- the walk goes on with it
pub onwards : {first : Situation} {c : Card} {s : Session} (bytes random : List ℕ) → Reached first c s → AreBytes bytes → AreBytes random → length random ≡ 8
    → Reached first (card_after c s bytes random) (respond c s bytes random).session
unfolding OfBytes is_start is_install next
onwards {first} {c} {s} bytes random r f g n =
    let st = r.now in
    let h = r.here in
    let x = sent bytes random 65535 in
    let m = demand_two st c bytes random (zeros 32) 65535 h.typed (f, g) h.reads (omega arith) n (omega arith) in
    record {
      now = next x st;
      walk = further r.walk x (f, g) (λ e. absurd (false≢true (sym h.whole ∙ e))) (λ e. absurd (false≢true e));
      here = record {
        typed = typed_next x st h.typed (f, g);
        reads = m.card ∙ ap (λ (t : Session). some (card_after c t bytes random)) h.session;
        session = rw (eq-eqb (run x st).answer 0 m.answer) (m.session ∙ ap (λ (t : Session). (respond c t bytes random).session) h.session);
        whole = rw m.answer;
      };
    }

-- ---- a command that is cut

-- a history that a command of some bytes can be cut in, at every limit below its stores, with a finished start-up behind it
pub record CutIn (cla ins : ℕ) (first : Situation) : Type 0 where
  pub before : Situation
  pub bytes : List ℕ
  pub random : List ℕ
  pub named : (byte_at bytes 0 ≡ cla) × (byte_at bytes 1 ≡ ins)
  pub stores : 0 < stores_of (sent bytes random 65535) before
  pub cut : (limit : ℕ) → limit < stores_of (sent bytes random 65535) before → (run (sent bytes random limit) before).answer ≡ 7
  pub walk : (limit : ℕ) → limit < stores_of (sent bytes random 65535) before → Walk first (next (start 65535) (next (sent bytes random limit) before))

-- every command that changes the card is one
pub cuts : {first : Situation} {c : Card} {s : Session} (cla ins : ℕ) (bytes random : List ℕ) → Reached first c s → AreBytes bytes → AreBytes random → length random ≡ 8
    → (byte_at bytes 0 ≡ cla) × (byte_at bytes 1 ≡ ins) → (card_after c s bytes random ≡ c → ⊥) → CutIn cla ins first
unfolding OfBytes is_start is_install stores_of limited limit_of
cuts {first} {c} {s} cla ins bytes random r f g n i changes =
    let st = r.now in
    let h = r.here in
    let a : 32 ≤ length (zeros 32) = omega arith in
    let some-store : 0 < stores_of (sent bytes random 65535) st =
    positive (stores_of (sent bytes random 65535) st)
    (λ e.
    let m = demand_two_uncut st c bytes random (zeros 32) 0 h.typed (f, g) h.reads a n (omega (arith, e)) in
    let u : (run (sent bytes random 0) st).memory ≡ st.memory = (stores_law (sent bytes random 0) st h.typed (f, g)).untouched in
    changes (same-card _ _ (sym (m.card ∙ ap (λ (t : Session). some (card_after c t bytes random)) h.session) ∙ ap read_card u ∙ h.reads))) in
    let seven : (limit : ℕ) → limit < stores_of (sent bytes random 65535) st → (run (sent bytes random limit) st).answer ≡ 7 =
    λ limit k. exactly (sent bytes random limit) st h.typed (f, g) 7 (no_reason st c bytes random (zeros 32) limit h.typed (f, g) h.reads a n 7 (cut k)) in
    record {
      before = st;
      bytes = bytes;
      random = random;
      named = i;
      stores = some-store;
      cut = seven;
      walk = λ limit k.
          further (further r.walk (sent bytes random limit) (f, g) (λ e. absurd (false≢true (sym h.whole ∙ e))) (λ e. absurd (false≢true e))) (start 65535) tt
          (λ e. refl) (λ e. absurd (false≢true e));
    }
  where
    positive : (k : ℕ) → (k ≡ 0 → ⊥) → 0 < k
    positive k z = omega (arith, z)

    same-card : (x y : Card) → some x ≡ some y → x ≡ y
    same-card x y e = cc
