-- Document 01, "Readable": "Any call on readable memory, finished or cut, leaves it readable, a cut installation apart", and "A finished
-- start-up keeps the reading". Assumes nothing.
use mathlib.Core.Bool.{true}
use mathlib.Core.List.{List, []}
use mathlib.Core.Path.{◌≡◌, refl, ap}
use Prim.Native.Nat.{ℕ}
use Rattle.octets.specs.Bytes.{AreBytes}
use Rattle.memory.specs.Reading.{readable, read_card}
use Rattle.memory.proofs.Cards.{readable_read, read_readable}
use Rattle.session.specs.declared.Session.{Session}
use Rattle.session.specs.Transitions.{unselected}
use Rattle.purse_spec.specs.Calls.{Run, refusal, performed}
use Rattle.purse_spec.specs.Installation.{installation}
use Rattle.purse_spec.specs.History.{Call, install, start, send, Situation, OfBytes, run, is_install}
use Rattle.purse_spec.proofs.Performed.{by_limit}
use Rattle.purse_spec.proofs.Runs.{installation-runs}
use Rattle.purse_spec.proofs.Installing.{installed_reads}
use Rattle.purse_spec.proofs.Promised.{Typed, sound_of}
use Rattle.purse_spec.proofs.Tearing.{command_left}
use Rattle.purse_spec.proofs.Starting.{startup_keeps}

refusal-readable : (n : ℕ) (s : Session) (m area : List ℕ) → readable m ≡ true → readable (refusal n s m area).memory ≡ true
unfolding refusal
refusal-readable n s m area t = t

-- an installation that isn't cut
installation-readable : (m d : List ℕ) (limit : ℕ) → AreBytes d → readable m ≡ true → ((installation m d limit).answer ≡ 7 → ⊥)
    → readable (installation m d limit).memory ≡ true
unfolding performed
installation-readable m d limit f q =
    installation-runs m (λ (r : ℕ → Run). ((r limit).answer ≡ 7 → ⊥) → readable (r limit).memory ≡ true) d
    (λ k g h n. refusal-readable k unselected m [] q)
    (λ e t. by_limit (λ (r : Run). (r.answer ≡ 7 → ⊥) → readable r.memory ≡ true) limit _ _ _ (λ l n. absurd (n refl))
    (λ l n. read_readable _ _ (installed_reads m d limit f e t l)))

-- "A finished start-up keeps the reading", as every start-up does
pub startup_keeps_reading : (limit : ℕ) (st : Situation) → read_card (run (start limit) st).memory ≡ read_card st.memory
unfolding run
startup_keeps_reading limit st = ap read_card (startup_keeps st.memory limit)

-- any call on readable memory, finished or cut, leaves it readable, a cut installation apart
pub readable_stays : (x : Call) (st : Situation) → (typed : Typed st) → (given : OfBytes x) → (before : readable st.memory ≡ true)
    → (no-cut-installation : is_install x ≡ true → (run x st).answer ≡ 7 → ⊥) → readable (run x st).memory ≡ true
unfolding run OfBytes is_install
readable_stays (install d limit) st t f q n = installation-readable st.memory d limit f q (n refl)
readable_stays (start limit) st t f q n = rw (startup_keeps st.memory limit) q
readable_stays (send bytes random area limit) st t f q n =
    let m = st.memory in
    let s = st.session in
    let e = readable_read m q in
    let r = command_left m _ s bytes random area limit e (λ l. sound_of m _ s bytes random t.memory e t.session f.0 f.1 l) in
    read_readable _ r.0 r.1
