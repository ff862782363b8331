-- Demand 1: "A refusal changes nothing in card memory, except that a wrong PIN costs one try"; and the commands that only read make no
-- store, whatever they answer. Assumes nothing.
use Rattle.std.specs.Prelude.{Ok}
use mathlib.Core.Bool.{true}
use mathlib.Core.List.{List, []}
use mathlib.Core.Option.{some}
use mathlib.Core.Path.{◌≡◌, refl}
use Prim.Native.Nat.{ℕ}
use native.Mathlib.Omega.{arith}
use borrow.Author.Tests.{le-ltb}
use Rattle.card.specs.Card.{Card}
use Rattle.memory.specs.Reading.{read_card}
use Rattle.apdu.specs.declared.instructions.Plain.TheVariants.{VerifyPin}
use Rattle.apdu.specs.declared.instructions.Instruction.TheVariants.{IsPlain}
use Rattle.commands_spec.specs.Outcomes.{commits_of}
use Rattle.commands_spec.specs.declared.outcome.Outcome.{Outcome}
use Rattle.commands_spec.specs.Respond.{named, respond}
use Rattle.commands_spec.proofs.Refusals.{refusal_changes_nothing}
use Rattle.commands_spec.proofs.Ways.{is_reader}
use Rattle.commands_spec.proofs.Readers.{readers_change_nothing}
use Rattle.purse_spec.specs.Calls.{Run, refusal, performed}
use Rattle.purse_spec.specs.Commands.{plans, outcome_plan, outcome_run}
use Rattle.purse_spec.specs.History.{send, Situation, run}
use Rattle.purse_spec.proofs.Performed.{leaves_nothing}
use Rattle.purse_spec.proofs.Runs.{command-on}

-- no store, and every byte of memory as it was
pub record NoStore (m : List ℕ) (r : Run) : Type 0 where
  pub count : r.count ≡ 0
  pub memory : r.memory ≡ m

performed-none : (c : Card) (o : Outcome) (m area : List ℕ) (limit : ℕ) → commits_of o ≡ [] → NoStore m (outcome_run o m area limit)
unfolding performed outcome_plan plans
performed-none c o m area limit h = rw (h, le-ltb limit 0 (omega arith)) (record { count = refl; memory = leaves_nothing limit m })

none-stored : (st : Situation) (c : Card) (bytes random area : List ℕ) (limit : ℕ) → read_card st.memory ≡ some c
    → commits_of (respond c st.session bytes random) ≡ [] → NoStore st.memory (run (send bytes random area limit) st)
unfolding run refusal
none-stored st c bytes random area limit e h =
    command-on st.memory (λ (r : ℕ → Run). NoStore st.memory (r limit)) st.session bytes random area c e
    (λ n k l. record { count = refl; memory = refl }) (λ t u. performed-none c _ st.memory area limit h)

-- a refusal, a wrong PIN's 6300 apart
pub refusal_stores_nothing : (st : Situation) (c : Card) (bytes random area : List ℕ) (limit : ℕ) → (reads : read_card st.memory ≡ some c)
    → (refused : (respond c st.session bytes random).status ≡ 0x9000 → ⊥)
    → (no-wrong-pin : named bytes ≡ Ok (IsPlain VerifyPin) → (respond c st.session bytes random).status ≡ 0x6300 → ⊥)
    → NoStore st.memory (run (send bytes random area limit) st)
refusal_stores_nothing st c bytes random area limit e x y =
    none-stored st c bytes random area limit e (refusal_changes_nothing c st.session bytes random x y)

-- SELECT, INITIALIZE UPDATE, EXTERNAL AUTHENTICATE, INITIALIZE TRANSACTION, GET DATA and READ RECORD
pub readers_store_nothing : (st : Situation) (c : Card) (bytes random area : List ℕ) (limit : ℕ) → (reads : read_card st.memory ≡ some c)
    → (reader : is_reader (named bytes) ≡ true) → NoStore st.memory (run (send bytes random area limit) st)
readers_store_nothing st c bytes random area limit e x =
    none-stored st c bytes random area limit e (readers_change_nothing c st.session bytes random x)
