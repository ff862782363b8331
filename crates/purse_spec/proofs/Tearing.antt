-- Demand 3: "Take any readable card and any session, cut any command after any number of single-byte stores, and cut the start-ups
-- behind it wherever and as often as you like. Once one finishes, the card is as before the command or as demand 2 has it afterwards;
-- for VERIFY PIN it may also be as before with one try fewer." Assumes nothing.
use mathlib.Core.List.{List, ◌∷◌}
use mathlib.Core.Option.{some}
use mathlib.Core.Path.{◌≡◌, refl, ap, ◌∙◌}
use Prim.Native.Nat.{ℕ, ◌≤◌}
use native.Mathlib.Decide.{ℕ_discrete}
use native.Mathlib.Omega.{arith}
use lib.ListN.{length}
use Rattle.octets.specs.Bytes.{byte_at}
use Rattle.card.specs.Card.{Card}
use Rattle.memory.specs.Reading.{read_card}
use Rattle.session.specs.declared.Session.{Session}
use Rattle.commands_spec.specs.Respond.{respond, card_after}
use Rattle.commands_spec.proofs.Sizes.{Sound}
use Rattle.purse_spec.specs.Calls.{Run, refusal, performed}
use Rattle.purse_spec.specs.Commands.{outcome_run, command}
use Rattle.purse_spec.specs.History.{Call, send, Situation, OfBytes, run, next, after_calls, OnlyStarts}
use Rattle.purse_spec.proofs.Performed.{by_limit}
use Rattle.purse_spec.proofs.Runs.{command-on}
use Rattle.purse_spec.proofs.Performing.{Fewer, CutCard, before, fewer, performed-done, performed-cut}
use Rattle.purse_spec.proofs.Promised.{Typed, sound_of}
use Rattle.purse_spec.proofs.Starting.{starts_keep}

-- ---- the command

-- the card d behind a command on the card c, by the command's answer
pub record Left (c : Card) (s : Session) (bytes random : List ℕ) (answer : ℕ) (d : Card) : Type 0 where
  -- finished: as demand 2 has it
  pub finished : answer ≡ 0 → d ≡ card_after c s bytes random
  -- cut: as before, or for VERIFY PIN as before with one try fewer
  pub cut : answer ≡ 7 → CutCard c bytes d
  -- refused: as before
  pub refused : (answer ≡ 0 → ⊥) → (answer ≡ 7 → ⊥) → d ≡ c

-- the same whatever the answer: as before the command; as demand 2 has it afterwards; for VERIFY PIN, 94 20, as before with one try fewer
pub data Behind (c : Card) (s : Session) (bytes random : List ℕ) (d : Card) : Type 0 where
  as_before : d ≡ c → Behind c s bytes random d
  as_due : d ≡ card_after c s bytes random → Behind c s bytes random d
  one_fewer : byte_at bytes 0 ≡ 0x94 → byte_at bytes 1 ≡ 0x20 → Fewer c d → Behind c s bytes random d

cut-behind : {c d : Card} {s : Session} {bytes random : List ℕ} → CutCard c bytes d → Behind c s bytes random d
cut-behind (before e) = as_before e
cut-behind (fewer a b f) = one_fewer a b f

-- what memory reads as behind it
abbrev pub LeftIn : Card → Session → List ℕ → List ℕ → Run → Type 0
LeftIn c s bytes random r = (d : Card) × (read_card r.memory ≡ some d) × Left c s bytes random r.answer d

module _ (m : List ℕ) (c : Card) (s : Session) (bytes random area : List ℕ) (limit : ℕ) (e : read_card m ≡ some c) where
  refusal_left : (n : ℕ) → 1 ≤ n → n ≤ 6 → LeftIn c s bytes random (refusal n s m area)
  unfolding refusal
  refusal_left n g h = (c, e, record { finished = λ q. absurd (omega arith); cut = λ q. absurd (omega arith); refused = λ q r. refl })

  performed_left : Sound c s bytes random → LeftIn c s bytes random (outcome_run (respond c s bytes random) m area limit)
  unfolding performed
  performed_left i =
      by_limit (LeftIn c s bytes random) limit _ _ _
      (λ v.
      let r = performed-cut m c s bytes random e i limit v in
      (r.0, r.1, record { finished = λ q. absurd (omega arith); cut = λ q. r.2; refused = λ z k. absurd (k refl) }))
      (λ v.
      let r = performed-done m c s bytes random e i limit v in
      (card_after c s bytes random, r, record { finished = λ q. refl; cut = λ q. absurd (omega arith); refused = λ z k. absurd (z refl) }))

  -- a command alone, on a card in hand
  pub command_left : (length random ≡ 8 → Sound c s bytes random) → LeftIn c s bytes random (command m s bytes random area limit)
  command_left f =
      command-on m (λ (r : ℕ → Run). LeftIn c s bytes random (r limit)) s bytes random area c e refusal_left (λ t u. performed_left (f u))

-- ---- the rule

-- behind a command at any limit, and any start-ups at theirs, memory reads as a card, and as which by the command's answer
pub behind : (st : Situation) (c : Card) (bytes random area : List ℕ) (limit : ℕ) (starts : List Call)
    → (typed : Typed st) → (given : OfBytes (send bytes random area limit)) → (reads : read_card st.memory ≡ some c) → (only : OnlyStarts starts)
    → (d : Card) × (read_card (after_calls (send bytes random area limit ∷ starts) st).memory ≡ some d)
    × Left c st.session bytes random (run (send bytes random area limit) st).answer d
unfolding after_calls next run OfBytes
behind st c bytes random area limit starts typed given reads only =
    let m = st.memory in
    let s = st.session in
    let r =
    command_left m c s bytes random area limit reads (λ n. sound_of m c s bytes random typed.memory reads typed.session given.0 given.1 n)
    in
    (r.0, ap read_card (starts_keep starts (next (send bytes random area limit) st) only) ∙ r.1, r.2)

-- THE CUT RULE: a command torn after any number of its stores, and start-ups torn behind it wherever and as often as one likes
pub cut_rule : (st : Situation) (c : Card) (bytes random area : List ℕ) (limit : ℕ) (starts : List Call)
    → (typed : Typed st) → (given : OfBytes (send bytes random area limit)) → (reads : read_card st.memory ≡ some c) → (only : OnlyStarts starts)
    → (d : Card) × (read_card (after_calls (send bytes random area limit ∷ starts) st).memory ≡ some d) × Behind c st.session bytes random d
cut_rule st c bytes random area limit starts typed given reads only =
    let b = behind st c bytes random area limit starts typed given reads only in
    let l = b.2 in
    let n = (run (send bytes random area limit) st).answer in (
      b.0,
      b.1,
      elim (ℕ_discrete n 0) [
        | yes z ↦ as_due (l.finished z)
        | no z ↦ elim (ℕ_discrete n 7) [
          | yes k ↦ cut-behind (l.cut k)
          | no k ↦ as_before (l.refused z k)
        ]
      ],
    )
