-- The stores of an outcome as the code makes them, and what a run of them gives. Assumes nothing.
use Prim.Native.Nat.{ℕ, ◌+◌, ◌-◌}
use mathlib.Core.Bool.{Bool, true, false}
use mathlib.Core.List.{List, [], ◌∷◌, append-nil}
use mathlib.Core.Path.{◌≡◌, refl, sym, ◌∙◌}
use native.Mathlib.Omega.{arith}
use lib.Dec.{ltb}
use lib.ListN.{length, length-append}
use lib.Seq.{take-nil}
use Rattle.octets.specs.Choice.{pick}
use Rattle.octets.specs.Bytes.{paste}
use Rattle.octets.specs.Buffers.{content}
use Rattle.stores.specs.Stores.{Store, applied, leaves}
use Rattle.stores.proofs.Sequence.{leaves-row}
use Rattle.card.specs.declared.head.Head.{Head}
use Rattle.card.specs.declared.change.Change.{Change}
use Rattle.card.specs.Changes.{hot_change}
use Rattle.memory.specs.Changes.{plan}
use Rattle.memory.proofs.Bounds.{plan_count}
use Rattle.session.specs.declared.Session.{Session}
use Rattle.session.specs.Transitions.{unselected}
use Rattle.commands_spec.specs.declared.outcome.Outcome.{Outcome}
use Rattle.commands_spec.specs.Outcomes.{commits_of}
use Rattle.purse_spec.specs.Calls.{refusal, performed}
use Rattle.purse_spec.specs.Commands.{plans, outcome_plan, outcome_run}
use Rattle.purse.specs.declared.calls.Called.{Called}
use Rattle.purse.specs.declared.calls.Answer.{Answer}
use Rattle.purse.specs.declared.calls.Answer.TheVariants.{Done, Cut}
use Rattle.purse.specs.Called.{number_of, Gives, storeless, under_limit}
use Rattle.purse.specs.Made.{Made}

-- a change of H alone has as many stores on any memory
pub hot_length : (h : Head) (m : List ℕ) → length (plan (hot_change h) m) ≡ 8
hot_length h m = plan_count (hot_change h) m

module _ (xs : List Change) (m : List ℕ) (limit n : ℕ) (m' : List ℕ) where
  pub made_none : xs ≡ [] → n ≡ 0 → m' ≡ m → Made xs m limit n m'
  unfolding plans leaves applied
  made_none e a b = rw e (record { count = a; memory = b ∙ rw (take-nil {A = Store} limit) })

  pub made_one : (x : Change) → n ≡ length (plan x m) → m' ≡ leaves (plan x m) limit m → xs ≡ x ∷ [] → Made xs m limit n m'
  unfolding plans
  made_one x a b e = rw e (record { count = rw (append-nil (plan x m)) a; memory = rw (append-nil (plan x m)) b })

  -- a change, and one of H in the room that it left
  pub made_two : (x y : Change) (h : Head) (i k room : ℕ) (m₁ : List ℕ) → i ≡ length (plan x m) → m₁ ≡ leaves (plan x m) limit m
      → k ≡ length (plan y m₁) → m' ≡ leaves (plan y m₁) room m₁ → y ≡ hot_change h → room ≡ limit - i → n ≡ i + k → xs ≡ x ∷ y ∷ []
      → Made xs m limit n m'
  unfolding plans
  made_two x y h i k room m₁ a b c d hot r f e =
      let p = plan x m in
      let q = plan y (applied p m) in
      let z : k ≡ length q = c ∙ rw hot (hot_length h m₁ ∙ sym (hot_length h (applied p m))) in
      rw e (record {
        count = rw (append-nil q) (omega (arith, length-append p q, a, z, f));
        memory = rw (append-nil q) (d ∙ rw (r, a, b) (leaves-row p (plan y) limit m));
      })

-- ---- what a refusal gives

pub refusal_gives : (a : Answer) (n : ℕ) (s : Session) (m area : List ℕ) → number_of a ≡ n → Gives (refusal n s m area) (storeless a s) m area
unfolding refusal
refusal_gives a n s m area e = record { answer = e; count = refl; length = refl; session = refl; memory = refl; response = refl }

-- ---- what a run of a plan gives

module _ (p : List Store) (limit : ℕ) (m : List ℕ) (s : Session) (reply area : List ℕ) where
  pub performed_gives : (n k : ℕ) (m' area' : List ℕ) (r : Called Answer) → n ≡ length p → k ≡ length reply → m' ≡ leaves p limit m
      → area' ≡ pick (ltb limit n) area (paste area 0 reply) → r ≡ under_limit n limit k s → Gives (performed p limit m s reply area) r m' area'
  unfolding performed under_limit
  performed_gives n k m' area' r a b c d e = rw (e, d, c, a, b) (by_limit (ltb limit (length p)))
    where
      by_limit : (b : Bool)
          → Gives
          (pick b (record { answer = 7; count = limit; session = unselected; memory = leaves p limit m; length = 0; response = area })
          (record { answer = 0; count = length p; session = s; memory = leaves p limit m; length = length reply; response = paste area 0 reply }))
          (pick b (record { answer = Cut; count = limit; length = 0; session = unselected })
          (record { answer = Done; count = length p; length = length reply; session = s }))
          (leaves p limit m) (pick b area (paste area 0 reply))
      by_limit true = record { answer = refl; count = refl; length = refl; session = refl; memory = refl; response = refl }
      by_limit false = record { answer = refl; count = refl; length = refl; session = refl; memory = refl; response = refl }

-- of an outcome
pub outcome_gives : (o : Outcome) (m area : List ℕ) (limit n k : ℕ) (m' area' : List ℕ) (r : Called Answer)
    → Made (commits_of o) m limit n m' → r ≡ under_limit n limit k o.session → k ≡ length (content o.reply)
    → area' ≡ pick (ltb limit n) area (paste area 0 (content o.reply)) → Gives (outcome_run o m area limit) r m' area'
unfolding outcome_plan
outcome_gives o m area limit n k m' area' r a f e b =
    performed_gives (outcome_plan o m) limit m o.session (content o.reply) area n k m' area' r a.count e a.memory b f
