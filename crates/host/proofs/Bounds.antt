-- What the number of a call has room for: answers and response lengths of a byte, and fewer than 65,536 stores. Each part can be read
-- from it. Assumes nothing.
use mathlib.Core.Bool.{false}
use mathlib.Core.List.{List}
use mathlib.Core.Path.{◌≡◌}
use Prim.Native.Nat.{ℕ, ◌/◌, ◌%◌, ◌≤◌, ◌<◌}
use native.Mathlib.Omega.{arith}
use lib.ListN.{length}
use Rattle.octets.specs.Bytes.{AreBytes}
use Rattle.stores.specs.Stores.{Store}
use Rattle.session.specs.declared.Session.{Session}
use Rattle.session.specs.Transitions.{unselected}
use Rattle.session.proofs.Sizes.{unselected-sized}
use Rattle.purse_spec.specs.Calls.{Run, refusal, performed}
use Rattle.purse_spec.specs.History.{Call, Situation, OfBytes, run, limit_of, area_for}
use Rattle.purse_spec.proofs.Performed.{by_limit}
use Rattle.purse_spec.proofs.Typed.{Typed}
use Rattle.host.specs.Host.{number}
use Rattle.purse_spec.proofs.EveryCall.{every_run}

-- the parts of a number
module _ (answer size count : ℕ) (a : answer < 256) where
  pub answer_read : number answer size count % 256 ≡ answer
  unfolding number
  answer_read = omega arith

  pub size_read : size < 256 → (number answer size count / 256) % 256 ≡ size
  unfolding number
  size_read b = omega arith

  pub count_read : size < 256 → number answer size count / 65536 ≡ count
  unfolding number
  count_read b = omega arith

-- a run that the number has room for
pub record Small (r : Run) : Type 0 where
  pub answer : r.answer < 256
  pub size : r.length < 256
  pub count : r.count < 65536

performed_small : (p : List Store) (limit : ℕ) (m : List ℕ) (s : Session) (reply area : List ℕ) → length p ≤ 65535 → length reply ≤ 32
    → Small (performed p limit m s reply area)
unfolding performed
performed_small p limit m s reply area h k =
    by_limit Small limit _ _ _ (λ l. record { answer = omega arith; size = omega arith; count = omega arith })
    (λ l. record { answer = omega arith; size = omega arith; count = omega arith })

-- every call
pub run_small : (x : Call) (st : Situation) → Typed st → OfBytes x → Small (run x st)
unfolding refusal
run_small x st t f =
    every_run x st Small (λ n k l. record { answer = omega arith; size = omega arith; count = omega arith })
    (λ p s reply k. performed_small p (limit_of x) st.memory s reply (area_for x) (k t f).few (k t f).short)

-- memory, and the session that its area reads as
abbrev pub situated : List ℕ → Session → Situation
situated m s = record { memory = m; session = s; cut = false }

-- memory alone: installation and start-up take no session
abbrev pub alone : List ℕ → Situation
alone m = situated m unselected

pub alone_typed : (m : List ℕ) → AreBytes m → Typed (alone m)
alone_typed m f = record { memory = f; session = unselected-sized }
