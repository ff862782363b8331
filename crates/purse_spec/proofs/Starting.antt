-- Start-ups keep memory, and so the reading, and on readable memory each finishes at once. Assumes nothing.
use mathlib.Core.Bool.{true, false≢true}
use mathlib.Core.List.{List, [], ◌∷◌}
use mathlib.Core.Path.{◌≡◌, refl, sym, ◌∙◌}
use Prim.Native.Nat.{ℕ}
use native.Mathlib.Omega.{arith}
use lib.ListN.{length}
use Rattle.stores.proofs.Limits.{answers-done}
use Rattle.memory.specs.Layout.{memory_size}
use Rattle.memory.specs.Reading.{readable}
use Rattle.memory.proofs.Seen.{reads}
use Rattle.memory.proofs.Live.{sound}
use Rattle.memory.proofs.Cards.{readable_read}
use Rattle.session.specs.Transitions.{unselected}
use Rattle.purse_spec.specs.Calls.{Run, refusal}
use Rattle.purse_spec.specs.Startup.{startup}
use Rattle.purse_spec.specs.History.{Call, install, start, send, Situation, run, is_start, next, after_calls, OnlyStarts}
use Rattle.purse_spec.proofs.Performed.{leaves_nothing, performed_follows}
use Rattle.purse_spec.proofs.Runs.{startup_holds, startup-runs}

-- a start-up, whatever it answers, keeps memory, and so the reading
pub startup_keeps : (m : List ℕ) (limit : ℕ) → (startup m limit).memory ≡ m
unfolding refusal
startup_keeps m limit = startup-runs m (λ (r : ℕ → Run). (r limit).memory ≡ m) (λ n g h. refl)
    (λ t. (performed_follows [] limit m unselected [] []).memory ∙ leaves_nothing limit m)

-- readable memory has its size
readable-sized : (m : List ℕ) → readable m ≡ true → length m ≡ memory_size
readable-sized m t = (sound m _ (reads m _ (readable_read m t))).size

-- and on it every start-up finishes, at any limit
pub startup_finishes : (m : List ℕ) (limit : ℕ) → readable m ≡ true → (startup m limit).answer ≡ 0
startup_finishes m limit t =
    startup_holds m (λ (r : ℕ → Run). (r limit).answer ≡ 0) (λ e. absurd (e (readable-sized m t))) (λ e f. absurd (false≢true (sym f ∙ t)))
    (λ e f. (performed_follows [] limit m unselected [] []).answer ∙ answers-done [] limit (omega arith))

-- ---- in a list

start_keeps : (x : Call) (st : Situation) → is_start x ≡ true → (next x st).memory ≡ st.memory
unfolding next run is_start
start_keeps (install d limit) st h = absurd (false≢true h)
start_keeps (start limit) st h = startup_keeps st.memory limit
start_keeps (send bytes random area limit) st h = absurd (false≢true h)

-- start-ups, cut or not, as many as one likes, keep memory
pub starts_keep : (xs : List Call) (st : Situation) → OnlyStarts xs → (after_calls xs st).memory ≡ st.memory
unfolding after_calls OnlyStarts
starts_keep [] st h = refl
starts_keep (x ∷ xs) st h = starts_keep xs (next x st) h.1 ∙ start_keeps x st h.0
