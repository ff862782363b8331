-- What the types of the code's areas and values promise of a situation, which every call keeps. Assumes nothing.
use mathlib.Core.List.{List}
use Prim.Native.Nat.{ℕ}
use lib.Dec.{eqb}
use Rattle.octets.specs.Bytes.{AreBytes}
use Rattle.octets.proofs.Rules.{pick_holds}
use Rattle.stores.specs.Stores.{Store, leaves}
use Rattle.session.specs.declared.Session.{Session}
use Rattle.session.proofs.Sizes.{Sized, unselected-sized}
use Rattle.purse_spec.specs.Calls.{Run, refusal, performed}
use Rattle.purse_spec.specs.History.{Call, install, start, send, Situation, OfBytes, run, next, session_for, area_for, limit_of}
pub use Rattle.purse_spec.proofs.Promised.{Typed, sound_of}
use Rattle.purse_spec.proofs.Performed.{by_limit}
use Rattle.purse_spec.proofs.EveryCall.{every_run}

-- what a call gives: memory of bytes, and a session of its sizes
record TypedRun (r : Run) : Type 0 where
  pub memory : AreBytes r.memory
  pub session : Sized r.session

refusal_typed : (n : ℕ) (s : Session) (m area : List ℕ) → AreBytes m → Sized s → TypedRun (refusal n s m area)
unfolding refusal
refusal_typed n s m area f z = record { memory = f; session = z }

-- the session that a call is given
session_for_lem : (x : Call) (st : Situation) → Typed st → Sized (session_for x st)
unfolding session_for
session_for_lem (install d limit) st t = unselected-sized
session_for_lem (start limit) st t = unselected-sized
session_for_lem (send bytes random area limit) st t = t.session

performed_typed : (p : List Store) (limit : ℕ) (m : List ℕ) (s : Session) (reply area : List ℕ) → AreBytes (leaves p limit m) → Sized s
    → TypedRun (performed p limit m s reply area)
unfolding performed
performed_typed p limit m s reply area f z =
    by_limit TypedRun limit _ _ _ (λ k. record { memory = f; session = unselected-sized }) (λ k. record { memory = f; session = z })

run_typed : (x : Call) (st : Situation) → Typed st → OfBytes x → TypedRun (run x st)
run_typed x st t f =
    every_run x st TypedRun (λ n k l. refusal_typed n _ st.memory _ t.memory (session_for_lem x st t))
    (λ p s reply k. performed_typed p (limit_of x) st.memory s reply (area_for x) ((k t f).bytes (limit_of x)) (k t f).sized)

-- every call keeps it
pub typed_next : (x : Call) (st : Situation) → Typed st → OfBytes x → Typed (next x st)
unfolding next
typed_next x st t f =
    let r = run_typed x st t f in
    record { memory = r.memory; session = pick_holds Sized (eqb (run x st).answer 0) _ _ (λ e. r.session) (λ e. t.session) }
