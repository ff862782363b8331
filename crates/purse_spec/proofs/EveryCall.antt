-- Every call is one of the refusals 1 to 6, or a plan of stores finished or cut: what holds of these holds of the call. Assumes nothing.
use mathlib.Core.List.{List, []}
use mathlib.Core.Path.{◌≡◌, refl, subst}
use Prim.Native.Nat.{ℕ, ◌≤◌}
use native.Mathlib.Omega.{arith}
use lib.ListN.{length}
use Rattle.octets.specs.Bytes.{AreBytes}
use Rattle.octets.specs.Buffers.{content}
use Rattle.stores.specs.Stores.{Store, leaves}
use Rattle.memory.specs.Changes.{install_plan}
use Rattle.memory.proofs.Bounds.{install-length, install-bytes}
use Rattle.session.specs.declared.Session.{Session}
use Rattle.session.proofs.Sizes.{Sized, unselected-sized}
use Rattle.commands_spec.specs.Respond.{respond}
use Rattle.commands_spec.proofs.Sizes.{reply_short, session-sized}
use Rattle.purse_spec.specs.Calls.{Run, refusal, performed}
use Rattle.purse_spec.specs.Installation.{data_fixed, data_aid, data_keys}
use Rattle.purse_spec.specs.Commands.{outcome_plan}
use Rattle.purse_spec.specs.History.{Call, install, start, send, Situation, limit_of, limited, session_for, area_for, OfBytes, run}
use Rattle.purse_spec.proofs.Performed.{leaves_nothing}
use Rattle.purse_spec.proofs.Runs.{AnyRefusal, installation-runs, startup-runs, command-runs}
use Rattle.purse_spec.proofs.Installing.{installable}
use Rattle.purse_spec.proofs.Performing.{performed_few, performed-bytes}
use Rattle.purse_spec.proofs.Promised.{Typed, sound_of}

-- what is known of a plan past the refusals, and of the session and reply of its finished run
pub record Planned (m : List ℕ) (p : List Store) (s : Session) (reply : List ℕ) : Type 0 where
  pub few : length p ≤ 65535
  pub bytes : (L : ℕ) → AreBytes (leaves p L m)
  pub sized : Sized s
  pub short : length reply ≤ 32

-- P speaks of a call as a function of its limit
pub every_call : (x : Call) (st : Situation) (P : (ℕ → Run) → Type 0) → AnyRefusal P (session_for x st) st.memory (area_for x)
    → ((p : List Store) (s : Session) (reply : List ℕ) → (Typed st → OfBytes x → Planned st.memory p s reply)
    → P (λ L. performed p L st.memory s reply (area_for x)))
    → P (λ L. run (limited L x) st)
unfolding run limited session_for area_for OfBytes
every_call (install d limit) st P out rest =
    installation-runs st.memory P d out
    (λ e t. rest (install_plan (data_fixed d) (data_aid d) (data_keys d)) _ []
    (λ k f.
    let i = installable d f t in
    let n = install-length (data_fixed d) (data_aid d) (data_keys d) i.bytes i.keys in
    record {
      few = omega arith;
      bytes = install-bytes (data_fixed d) (data_aid d) (data_keys d) st.memory k.memory i;
      sized = unselected-sized;
      short = omega arith;
    }))
every_call (start limit) st P out rest =
    startup-runs st.memory P out
    (λ t. rest [] _ []
    (λ k f. record { few = omega arith; bytes = λ L. rw (leaves_nothing L st.memory) k.memory; sized = unselected-sized; short = omega arith }))
every_call (send bytes random area limit) st P out rest =
    let m = st.memory in
    let s = st.session in
    command-runs m P s bytes random area out
    (λ c t u e. rest (outcome_plan (respond c s bytes random) m) _ (content (respond c s bytes random).reply)
    (λ k f.
    let i = sound_of m c s bytes random k.memory e k.session f.0 f.1 u in
    record {
      few = performed_few m c s bytes random e i;
      bytes = λ L. performed-bytes m c s bytes random e i L k.memory;
      sized = session-sized c s bytes random i;
      short = (reply_short c s bytes random i).1;
    }))

-- a call at its own limit
pub own_limit : (x : Call) → limited (limit_of x) x ≡ x
unfolding limited limit_of
own_limit (install d limit) = refl
own_limit (start limit) = refl
own_limit (send bytes random area limit) = refl

-- the same where P speaks of what the call gives
pub every_run : (x : Call) (st : Situation) (P : Run → Type 0)
    → ((n : ℕ) → 1 ≤ n → n ≤ 6 → P (refusal n (session_for x st) st.memory (area_for x)))
    → ((p : List Store) (s : Session) (reply : List ℕ) → (Typed st → OfBytes x → Planned st.memory p s reply)
    → P (performed p (limit_of x) st.memory s reply (area_for x)))
    → P (run x st)
every_run x st P out rest = subst (λ (y : Call). P (run y st)) (own_limit x) (every_call x st (λ (r : ℕ → Run). P (r (limit_of x))) out rest)
