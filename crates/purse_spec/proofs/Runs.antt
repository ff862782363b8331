-- The ways of each call, in the order of its answers: what holds of every refusal and of what is left holds of the call. P speaks of a
-- call as a function of its limit, on which no refusal depends. Assumes nothing.
use mathlib.Core.Bool.{Bool, true, false, not}
use mathlib.Core.List.{List, []}
use mathlib.Core.Option.{Option, none, some}
use mathlib.Core.Path.{◌≡◌, refl, subst}
use Prim.Native.Nat.{ℕ, ◌≤◌, ◌<◌}
use native.Mathlib.Omega.{arith}
use borrow.Author.Tests.{eqb-true, eqb-false, ltb-true, ltb-false, not-true, not-false}
use lib.Dec.{ltb, eqb}
use lib.ListN.{length}
use Rattle.octets.specs.Choice.{pick}
use Rattle.card.specs.Card.{Card}
use Rattle.memory.specs.Layout.{memory_size}
use Rattle.memory.specs.Reading.{readable, read_card}
use Rattle.memory.specs.Changes.{install_plan}
use Rattle.session.specs.declared.Session.{Session}
use Rattle.session.specs.Transitions.{unselected}
use Rattle.commands_spec.specs.Respond.{respond}
use Rattle.purse_spec.specs.Calls.{Run, awaits, refusal, performed}
use Rattle.purse_spec.specs.Installation.{data_ok, data_fixed, data_aid, data_keys, installation}
use Rattle.purse_spec.specs.Startup.{startup}
use Rattle.purse_spec.specs.Commands.{least_area, outcome_run, on_card, command}

-- an installation past its refusals
abbrev pub installed : List ℕ → List ℕ → ℕ → Run
installed m d limit = performed (install_plan (data_fixed d) (data_aid d) (data_keys d)) limit m unselected [] []

-- a start-up past its refusals
abbrev pub started : List ℕ → ℕ → Run
started m limit = performed [] limit m unselected [] []

-- a choice that doesn't depend on the limit
pick-runs : (P : (ℕ → Run) → Type 0) (b : Bool) (f g : ℕ → Run) → (b ≡ true → P f) → (b ≡ false → P g) → P (λ L. pick b (f L) (g L))
pick-runs P true f g h k = h refl
pick-runs P false f g h k = k refl

module _ (m : List ℕ) (P : (ℕ → Run) → Type 0) where
  -- memory of the wrong size, in every call
  sized_holds : (f g : ℕ → Run) → ((length m ≡ memory_size → ⊥) → P f) → (length m ≡ memory_size → P g)
      → P (λ L. pick (not (eqb (length m) memory_size)) (f L) (g L))
  sized_holds f g h k =
      pick-runs P (not (eqb (length m) memory_size)) f g (λ e. h (eqb-false (length m) memory_size (not-true _ e))) (λ e. k (eqb-true (length m) memory_size (not-false _ e)))

  -- installation: 1, 6
  pub installation_holds : (d : List ℕ)
      → ((length m ≡ memory_size → ⊥) → P (λ L. refusal 1 unselected m []))
      → (length m ≡ memory_size → data_ok d ≡ false → P (λ L. refusal 6 unselected m []))
      → (length m ≡ memory_size → data_ok d ≡ true → P (λ L. installed m d L))
      → P (λ L. installation m d L)
  unfolding installation
  installation_holds d one six rest =
      sized_holds _ _ one (λ e. pick-runs P (not (data_ok d)) _ _ (λ t. six e (not-true (data_ok d) t)) (λ t. rest e (not-false (data_ok d) t)))

  -- start-up: 1, 2
  pub startup_holds : ((length m ≡ memory_size → ⊥) → P (λ L. refusal 1 unselected m []))
      → (length m ≡ memory_size → readable m ≡ false → P (λ L. refusal 2 unselected m []))
      → (length m ≡ memory_size → readable m ≡ true → P (λ L. started m L))
      → P (λ L. startup m L)
  unfolding startup
  startup_holds one two rest =
      sized_holds _ _ one (λ e. pick-runs P (not (readable m)) _ _ (λ t. two e (not-true (readable m) t)) (λ t. rest e (not-false (readable m) t)))

  -- a command: 1, 3, 4, 2, 5
  pub command_holds : (s : Session) (bytes random area : List ℕ)
      → ((length m ≡ memory_size → ⊥) → P (λ L. refusal 1 s m area))
      → (length m ≡ memory_size → length area < least_area → P (λ L. refusal 3 s m area))
      → (length m ≡ memory_size → least_area ≤ length area → (length random ≡ 8 → ⊥) → P (λ L. refusal 4 s m area))
      → (length m ≡ memory_size → least_area ≤ length area → length random ≡ 8 → read_card m ≡ none → P (λ L. refusal 2 s m area))
      → ((c : Card) → least_area ≤ length area → length random ≡ 8 → read_card m ≡ some c → awaits m ≡ true → P (λ L. refusal 5 s m area))
      → ((c : Card) → least_area ≤ length area → length random ≡ 8 → read_card m ≡ some c → awaits m ≡ false
      → P (λ L. outcome_run (respond c s bytes random) m area L))
      → P (λ L. command m s bytes random area L)
  unfolding command on_card
  command_holds s bytes random area one three four two five rest =
      sized_holds _ _ one
      (λ e. pick-runs P (ltb (length area) least_area) _ _ (λ t. three e (ltb-true _ _ t))
      (λ t. pick-runs P (not (eqb (length random) 8)) _ _ (λ u. four e (ltb-false _ _ t) (eqb-false (length random) 8 (not-true _ u)))
      (λ u. go e (ltb-false _ _ t) (eqb-true (length random) 8 (not-false _ u)) (read_card m) refl)))
    where
      go : length m ≡ memory_size → least_area ≤ length area → length random ≡ 8 → (o : Option Card) → read_card m ≡ o
          → P (λ L. on_card o m s bytes random area L)
      go e a r none q = two e a r q
      go e a r (some c) q = pick-runs P (awaits m) _ _ (λ w. five c a r q w) (λ w. rest c a r q w)

-- a refusal by any of the answers 1 to 6
abbrev pub AnyRefusal : ((ℕ → Run) → Type 0) → Session → List ℕ → List ℕ → Type 0
AnyRefusal P s m area = (n : ℕ) → 1 ≤ n → n ≤ 6 → P (λ L. refusal n s m area)

-- the same where the reason of a refusal doesn't count
module _ (m : List ℕ) (P : (ℕ → Run) → Type 0) where
  pub installation-runs : (d : List ℕ) → AnyRefusal P unselected m [] → (length m ≡ memory_size → data_ok d ≡ true → P (λ L. installed m d L))
      → P (λ L. installation m d L)
  installation-runs d out rest = installation_holds m P d (λ e. out 1 (omega arith) (omega arith)) (λ e t. out 6 (omega arith) (omega arith)) rest

  pub startup-runs : AnyRefusal P unselected m [] → (readable m ≡ true → P (λ L. started m L)) → P (λ L. startup m L)
  startup-runs out rest = startup_holds m P (λ e. out 1 (omega arith) (omega arith)) (λ e t. out 2 (omega arith) (omega arith)) (λ e t. rest t)

  module _ (s : Session) (bytes random area : List ℕ) where
    pub command-runs : AnyRefusal P s m area
        → ((c : Card) → least_area ≤ length area → length random ≡ 8 → read_card m ≡ some c → P (λ L. outcome_run (respond c s bytes random) m area L))
        → P (λ L. command m s bytes random area L)
    command-runs out rest =
        command_holds m P s bytes random area (λ e. out 1 (omega arith) (omega arith)) (λ e t. out 3 (omega arith) (omega arith))
        (λ e t u. out 4 (omega arith) (omega arith)) (λ e t u v. out 2 (omega arith) (omega arith)) (λ c t u v w. out 5 (omega arith) (omega arith))
        (λ c t u v w. rest c t u v)

    -- on a card in hand
    pub command-on : (c : Card) → read_card m ≡ some c → AnyRefusal P s m area
        → (least_area ≤ length area → length random ≡ 8 → P (λ L. outcome_run (respond c s bytes random) m area L))
        → P (λ L. command m s bytes random area L)
    command-on c e out rest =
        command-runs out (λ d t u q. let k : c ≡ d = cc in subst (λ (x : Card). P (λ L. outcome_run (respond x s bytes random) m area L)) k (rest t u))
