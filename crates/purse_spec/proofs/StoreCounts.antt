-- How many stores a command makes, exactly, by what it commits; and so of COMPLETE TRANSACTION. Assumes nothing.
use Rattle.std.specs.Prelude.{Ok}
use mathlib.Core.List.{List}
use mathlib.Core.Option.{some}
use mathlib.Core.Path.{◌≡◌, refl, sym, ap, ◌∙◌}
use Prim.Native.Nat.{ℕ, ◌≤◌}
use native.Mathlib.Omega.{arith}
use lib.ListN.{length}
use Rattle.octets.specs.Bytes.{byte_at}
use Rattle.stores.specs.Stores.{Store, answers}
use Rattle.stores.proofs.Limits.{reports-count}
use Rattle.card.specs.declared.head.Head.{Head}
use Rattle.card.specs.declared.log.Record.{Record}
use Rattle.card.specs.Card.{Card}
use Rattle.memory.specs.Reading.{read_card}
use Rattle.session.specs.declared.Session.{Session}
use Rattle.apdu.specs.declared.instructions.Signed.TheVariants.{CompleteTransaction}
use Rattle.apdu.specs.declared.instructions.Instruction.TheVariants.{IsSigned}
use Rattle.commands_spec.specs.declared.outcome.Commits.{Commits}
use Rattle.commands_spec.specs.declared.outcome.Commits.TheVariants.{Unchanged, Hot, HotAndRecord, HotAndCold, HotTwice}
use Rattle.commands_spec.specs.declared.outcome.Outcome.{Outcome}
use Rattle.commands_spec.specs.Outcomes.{decided, changes_of, commits_of}
use Rattle.commands_spec.specs.CompleteTransaction.{complete_transaction_of}
use Rattle.commands_spec.specs.Respond.{respond}
use Rattle.commands_spec.proofs.Notes.{completes}
use Rattle.commands_spec.proofs.Proper.{each_proper}
use Rattle.commands_spec.proofs.Sizes.{Sound}
use Rattle.purse_spec.specs.Calls.{Run, refusal}
use Rattle.purse_spec.specs.Commands.{outcome_plan, outcome_run, command}
use Rattle.purse_spec.specs.History.{send, Situation, OfBytes, run}
use Rattle.purse_spec.proofs.Names.{bytes-named}
use Rattle.purse_spec.proofs.Performed.{performed_follows}
use Rattle.purse_spec.proofs.Promised.{Typed, sound_of}
use Rattle.purse_spec.proofs.Rows.{counted, plans-length}
use Rattle.purse_spec.proofs.Runs.{command-on}

-- by what is committed: block H is 7 stores, a record 25, block C 202, and each root 1
abbrev pub stores_for : Commits → ℕ
stores_for Unchanged = 0
stores_for Hot = 8
stores_for HotAndRecord = 33
stores_for HotAndCold = 210
stores_for (HotTwice first) = 16

counted_for : (k : Commits) (h : Head) (r : Record) → counted (changes_of k h r) ≡ stores_for k
unfolding changes_of
counted_for Unchanged h r = refl
counted_for Hot h r = refl
counted_for HotAndRecord h r = refl
counted_for HotAndCold h r = refl
counted_for (HotTwice first) h r = refl

module _ (m : List ℕ) (c : Card) (s : Session) (bytes random : List ℕ) (e : read_card m ≡ some c) where
  abbrev O : Outcome
  O = respond c s bytes random

  plan_stores : Sound c s bytes random → length (outcome_plan O m) ≡ stores_for O.commits
  unfolding outcome_plan commits_of
  plan_stores i = plans-length (commits_of O) m c (each_proper c s bytes random i) ∙ counted_for O.commits O.head O.logged

  -- a run that answers 0 reports them
  abbrev Reports : Run → Type 0
  Reports r = r.answer ≡ 0 → r.count ≡ stores_for O.commits

  refused-reports : (area : List ℕ) (n : ℕ) → 1 ≤ n → n ≤ 6 → Reports (refusal n s m area)
  unfolding refusal
  refused-reports area n g h z = absurd (omega arith)

  performed-reports : (area : List ℕ) (limit : ℕ) → Sound c s bytes random → Reports (outcome_run O m area limit)
  performed-reports area limit i z =
      let p : List Store = outcome_plan O m in
      let f = performed_follows p limit m O.session _ area in
      f.count ∙ reports-count p limit (sym f.answer ∙ z) ∙ plan_stores i

  command-reports : (area : List ℕ) (limit : ℕ) → (length random ≡ 8 → Sound c s bytes random) → Reports (command m s bytes random area limit)
  command-reports area limit f =
      command-on m (λ (r : ℕ → Run). Reports (r limit)) s bytes random area c e (refused-reports area) (λ t u. performed-reports area limit (f u))

-- of every command that answers 0 on memory that reads as a card
pub command_stores : (st : Situation) (c : Card) (bytes random area : List ℕ) (limit : ℕ) → (typed : Typed st) → (given : OfBytes (send bytes random area limit))
    → (reads : read_card st.memory ≡ some c) → (done : (run (send bytes random area limit) st).answer ≡ 0)
    → (run (send bytes random area limit) st).count ≡ stores_for (respond c st.session bytes random).commits
unfolding OfBytes run
command_stores st c bytes random area limit t f e z =
    command-reports st.memory c st.session bytes random e area limit
    (λ n. sound_of st.memory c st.session bytes random t.memory e t.session f.0 f.1 n) z

-- COMPLETE TRANSACTION with 9000 commits block H and the record
committed : (c : Card) (s : Session) (bytes random : List ℕ) → (byte_at bytes 0 ≡ 0x94) × (byte_at bytes 1 ≡ 0x46)
    → (respond c s bytes random).status ≡ 0x9000 → (respond c s bytes random).commits ≡ HotAndRecord
unfolding complete_transaction_of decided
committed c s bytes random i w =
    let b = completes c s bytes random (bytes-named bytes (Ok (IsSigned CompleteTransaction)) i) w in
    rw (b.is, b.passed)

-- and so, 94 46, makes 33 stores
pub complete_stores : (st : Situation) (c : Card) (bytes random area : List ℕ) (limit : ℕ) → (typed : Typed st) → (given : OfBytes (send bytes random area limit))
    → (reads : read_card st.memory ≡ some c) → (done : (run (send bytes random area limit) st).answer ≡ 0)
    → (completes : (byte_at bytes 0 ≡ 0x94) × (byte_at bytes 1 ≡ 0x46)) → (granted : (respond c st.session bytes random).status ≡ 0x9000)
    → (run (send bytes random area limit) st).count ≡ 33
complete_stores st c bytes random area limit t f e z i w =
    command_stores st c bytes random area limit t f e z ∙ ap stores_for (committed c st.session bytes random i w)
