-- Document 01, "What a call can say": the reason of each answer, by lengths and bytes, in the order that decides; and which answer is
-- due. Assumes nothing.
use Rattle.std.specs.Prelude.{true, List, ◌∷◌, ◌++◌, ◌≡◌, ℕ, ◌≤◌, ◌<◌, length}
use Rattle.std.proofs.Math.Option.{none}
use Rattle.memory.specs.Reading.{read_card}
use Rattle.commands_spec.specs.Order.{Rule}
use Rattle.purse_spec.specs.Calls.{awaits}
use Rattle.purse_spec.specs.History.{Call, install, start, send, Situation, limit_of, limited, run}

-- ---- rules in a row, which leave the answer to `rest` where no reason holds

-- n is the answer of the first reason that holds
abbrev pub FirstReason : ((ℕ → Type 0) → ℕ → Type 0) → ℕ → Type 0
FirstReason rules = rules (λ n. ⊥)

-- no reason holds
abbrev pub NoReason : ((ℕ → Type 0) → ℕ → Type 0) → Type 0
NoReason rules = (n : ℕ) → FirstReason rules n → ⊥

-- ---- the reasons of the answers 1 to 6

-- installation data in range: "AID length, AID, log size, tries, keys", with "AID 5 to 16 bytes; log size 1 to 50; PIN tries 3 to 15;
-- administration key set, 48 bytes (S-ENC, S-MAC, DEK, 16 each)"
pub record InRange (d : List ℕ) : Type 0 where
  pub aid : List ℕ
  pub size : ℕ
  pub tries : ℕ
  pub enc : List ℕ
  pub mac : List ℕ
  pub dek : List ℕ
  pub is : d ≡ length aid ∷ aid ++ (size ∷ tries ∷ enc ++ (mac ++ dek))
  pub aids : (5 ≤ length aid) × (length aid ≤ 16)
  pub sizes : (1 ≤ size) × (size ≤ 50)
  pub most : (3 ≤ tries) × (tries ≤ 15)
  pub keys : (length enc ≡ 16) × (length mac ≡ 16) × (length dek ≡ 16)

-- "Order: 1, 3, 4, 8, 2, 5, 6, as far as a call has the argument", where 8 is the C host's; "Installation ignores what memory held (no 2
-- or 5); start-up never answers 5"
unfoldable pub reasons : Call → Situation → (ℕ → Type 0) → ℕ → Type 0
reasons (install d limit) st rest =
    Rule (length st.memory ≡ 4096 → ⊥) 1
    (Rule (InRange d → ⊥) 6
    rest)
reasons (start limit) st rest =
    Rule (length st.memory ≡ 4096 → ⊥) 1
    (Rule (read_card st.memory ≡ none) 2
    rest)
reasons (send bytes random area limit) st rest =
    Rule (length st.memory ≡ 4096 → ⊥) 1
    (Rule (length area < 32) 3
    (Rule (length random ≡ 8 → ⊥) 4
    (Rule (read_card st.memory ≡ none) 2
    (Rule (awaits st.memory ≡ true) 5
    rest))))

-- ---- the answer that is due

-- the stores that a call reports at limit 65,535, which cuts no run
unfoldable pub stores_of : Call → Situation → ℕ
stores_of x st = (run (limited 65535 x) st).count

-- where no reason holds: "7: cut: limit reached before the last store", else 0
pub data Ends (x : Call) (st : Situation) : ℕ → Type 0 where
  cut : limit_of x < stores_of x st → Ends x st 7
  finished : stores_of x st ≤ limit_of x → Ends x st 0

-- 1 to 6 by the first reason that holds, then 7 or 0
unfoldable pub Due : Call → Situation → ℕ → Type 0
Due x st = reasons x st (Ends x st)
