-- Document 01, "What a call can say": what each answer leaves as it was, and that every answer is one of the list. Assumes nothing.
use mathlib.Core.Bool.{true, ◌||◌, false≢true}
use mathlib.Core.List.{List, []}
use mathlib.Core.Logic.{◌⊎◌, inl, inr}
use mathlib.Core.Path.{◌≡◌, refl}
use Prim.Native.Nat.{ℕ, ◌≤◌}
use native.Mathlib.Omega.{arith}
use lib.ListN.{length}
use Rattle.octets.proofs.Pasting.{length-paste}
use Rattle.stores.specs.Stores.{Store}
use Rattle.stores.proofs.Plans.{leaves-length}
use Rattle.session.specs.declared.Session.{Session}
use Rattle.session.specs.Transitions.{unselected}
use Rattle.purse_spec.specs.Calls.{Run, refusal, performed}
use Rattle.purse_spec.specs.History.{Call, install, start, send, Situation, limit_of, session_for, area_for, run, is_start, is_install}
use Rattle.purse_spec.proofs.Performed.{by_limit, done_or_cut}
use Rattle.purse_spec.proofs.Runs.{installation-runs, startup-runs}
use Rattle.purse_spec.proofs.EveryCall.{every_run}

-- ---- what each leaves as it was

-- of a call on memory m that is given a session and a response area, and gives r
pub record Keeps (m : List ℕ) (s : Session) (area : List ℕ) (r : Run) : Type 0 where
  -- "Answers 1 to 6 .. change no area and no session", and report 0
  pub refused : (r.answer ≡ 0 → ⊥) → (r.answer ≡ 7 → ⊥)
      → r ≡ record { answer = r.answer; count = 0; session = s; memory = m; length = 0; response = area }
  -- "7 leaves the response area untouched and gives no session"
  pub cut : r.answer ≡ 7 → (r.response ≡ area) × (r.length ≡ 0) × (r.session ≡ unselected)
  -- memory keeps its length, and the response area too
  pub memory : length r.memory ≡ length m
  pub response : length r.response ≡ length area

refusal_keeps : (m : List ℕ) (s : Session) (area : List ℕ) → (n : ℕ) → 1 ≤ n → n ≤ 6 → Keeps m s area (refusal n s m area)
unfolding refusal
refusal_keeps m s area n k l = record { refused = λ y z. refl; cut = λ z. absurd (omega arith); memory = refl; response = refl }

performed_keeps : (p : List Store) (limit : ℕ) (m : List ℕ) (s t : Session) (reply area : List ℕ) → Keeps m s area (performed p limit m t reply area)
unfolding performed
performed_keeps p limit m s t reply area =
    by_limit (Keeps m s area) limit _ _ _
    (λ k. record { refused = λ y z. absurd (z refl); cut = λ z. (refl, refl, refl); memory = leaves-length p limit m; response = refl })
    (λ k. record { refused = λ y z. absurd (y refl); cut = λ z. absurd (omega arith); memory = leaves-length p limit m; response = length-paste area _ reply })

-- every call
pub answers_keep : (x : Call) (st : Situation) → Keeps st.memory (session_for x st) (area_for x) (run x st)
answers_keep x st =
    every_run x st (Keeps st.memory (session_for x st) (area_for x)) (refusal_keeps st.memory (session_for x st) (area_for x))
    (λ p s reply k. performed_keeps p (limit_of x) st.memory (session_for x st) s reply (area_for x))

none-selected : (p : List Store) (limit : ℕ) (m : List ℕ) → (performed p limit m unselected [] []).session ≡ unselected
unfolding performed
none-selected p limit m = by_limit (λ (r : Run). r.session ≡ unselected) limit _ _ _ (λ k. refl) (λ k. refl)

-- "installation and start-up take none and, on 0, hand back the unselected one"
pub hands_unselected : (x : Call) (st : Situation) → (is_install x || is_start x) ≡ true → (run x st).session ≡ unselected
unfolding run refusal is_install is_start
hands_unselected (install d limit) st h =
    installation-runs st.memory (λ (r : ℕ → Run). (r limit).session ≡ unselected) d (λ n k l. refl) (λ e t. none-selected _ limit st.memory)
hands_unselected (start limit) st h =
    startup-runs st.memory (λ (r : ℕ → Run). (r limit).session ≡ unselected) (λ n k l. refl) (λ t. none-selected _ limit st.memory)
hands_unselected (send bytes random area limit) st h = absurd (false≢true h)

-- ---- the list

-- 0 to 7; 8 is the C host's
pub listed : (x : Call) (st : Situation) → (run x st).answer ≤ 7
unfolding refusal
listed x st =
    every_run x st (λ (r : Run). r.answer ≤ 7) (λ n k l. omega arith)
    (λ p s reply k. either (done_or_cut p (limit_of x) st.memory s reply (area_for x)))
  where
    either : {n : ℕ} → (n ≡ 0) ⊎ (n ≡ 7) → n ≤ 7
    either (inl e) = omega arith
    either (inr e) = omega arith
