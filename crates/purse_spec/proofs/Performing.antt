-- A command past its refusals, at any limit: finished, memory reads as the card that the command leaves; cut, as before, or for VERIFY
-- PIN as before with one try fewer. Assumes nothing.
use Rattle.std.specs.Prelude.{Ok}
use mathlib.Core.Bool.{true, false, false≢true}
use mathlib.Core.List.{List}
use mathlib.Core.Option.{some}
use mathlib.Core.Path.{◌≡◌, refl, sym, ap, ◌∙◌}
use Prim.Native.Nat.{ℕ, zero, suc, ◌+◌, ◌≤◌, ◌<◌}
use native.Mathlib.Decide.{ℕ_discrete}
use native.Mathlib.Omega.{arith}
use lib.ListN.{length, take}
use Rattle.octets.specs.Bytes.{AreBytes, byte_at}
use Rattle.stores.specs.Stores.{Store, leaves}
use Rattle.stores.proofs.Limits.{limit_enough}
use Rattle.card.specs.declared.head.Head.{Head}
use Rattle.card.specs.declared.log.Record.{Record}
use Rattle.card.specs.Card.{Card}
use Rattle.card.specs.Proper.{Proper}
use Rattle.memory.specs.Reading.{read_card}
use Rattle.card.specs.declared.change.Change.{Change}
use Rattle.card.specs.Updates.{with_state, with_balance, with_purse}
use Rattle.card.specs.Changes.{hot_change, head_after, log_after, changed, after}
use Rattle.session.specs.declared.Session.{Session}
use Rattle.apdu.specs.declared.instructions.Plain.TheVariants.{VerifyPin}
use Rattle.apdu.specs.declared.instructions.Instruction.TheVariants.{IsPlain}
use Rattle.commands_spec.specs.declared.outcome.Commits.{Commits}
use Rattle.commands_spec.specs.declared.outcome.Commits.TheVariants.{Unchanged, Hot, HotAndRecord, HotAndCold, HotTwice}
use Rattle.commands_spec.specs.declared.outcome.Outcome.{Outcome}
use Rattle.commands_spec.specs.Outcomes.{refused, done, tried, changes_of, commits_of}
use Rattle.commands_spec.specs.Words.{is_one, refusals}
use Rattle.commands_spec.specs.Respond.{named, respond, card_after}
use Rattle.commands_spec.proofs.Ways.{Way, refuses, mismatch, judges, answers, books, way, own_way, Kept, not_refused}
use Rattle.commands_spec.proofs.Cuts.{one_change, two_changes}
use Rattle.commands_spec.proofs.Sizes.{Sound}
use Rattle.commands_spec.proofs.Proper.{each_proper}
use Rattle.purse_spec.specs.Commands.{outcome_plan}
use Rattle.purse_spec.proofs.Names.{named-bytes, bytes-named}
use Rattle.purse_spec.proofs.Rows.{plans-done, plans-cut, plans_few, plans-bytes}

-- the same card with one try fewer
pub record Fewer (c d : Card) : Type 0 where
  pub is : d ≡ changed (hot_change (with_state (tried c.head.state) c.head)) c
  pub tries : d.head.state.tries + 1 ≡ c.head.state.tries

-- what a cut command leaves of a card: itself, or, where the command is VERIFY PIN 94 20, itself with one try fewer
pub data CutCard (c : Card) (bytes : List ℕ) (d : Card) : Type 0 where
  before : d ≡ c → CutCard c bytes d
  fewer : byte_at bytes 0 ≡ 0x94 → byte_at bytes 1 ≡ 0x20 → Fewer c d → CutCard c bytes d

-- balance, number and log are as before in both
pub cut_keeps : {c d : Card} {bytes : List ℕ} → CutCard c bytes d → Kept c d
unfolding changed head_after log_after with_state with_balance with_purse tried
cut_keeps (before e) = rw e (record { balance = refl; number = refl; log = refl })
cut_keeps (fewer p q f) = rw f.is (record { balance = refl; number = refl; log = refl })

-- a VERIFY PIN with 9000 had a try
had_try : (c : Card) (s : Session) (bytes : List ℕ) (o : Outcome) → Way c s bytes o → named bytes ≡ Ok (IsPlain VerifyPin) → o.status ≡ 0x9000
    → 0 < c.head.state.tries
unfolding refused done own_way is_one refusals
had_try c s bytes o (refuses w t j e) i f = absurd (not_refused c.head t w 0x9000 o j e f refl)
had_try c s bytes o (mismatch t i' e) i f = absurd (let z : o.status ≡ 0x6300 = rw e in omega arith)
had_try c s bytes o (judges right i' k e) i f = k
had_try c s bytes o (answers effect next t answer n q e) i f = absurd (false≢true (sym n ∙ ap own_way i))
had_try c s bytes o (books mac i' j e) i f = absurd (let z : ◌≡◌ {A = ℕ} 0 1 = cc in omega arith)

-- no command makes more than two changes
few_changes : (commits : Commits) (h : Head) (r : Record) → length (changes_of commits h r) ≤ 2
unfolding changes_of
few_changes Unchanged h r = omega arith
few_changes Hot h r = omega arith
few_changes HotAndRecord h r = omega arith
few_changes HotAndCold h r = omega arith
few_changes (HotTwice first) h r = omega arith

module _ (m : List ℕ) (c : Card) (s : Session) (bytes random : List ℕ) (e : read_card m ≡ some c) (i : Sound c s bytes random) where
  abbrev O : Outcome
  O = respond c s bytes random

  abbrev X : List Change
  X = commits_of O

  abbrev p : List Store
  p = outcome_plan O m

  -- no second change, VERIFY PIN with 9000 apart
  single : (named bytes ≡ Ok (IsPlain VerifyPin) → O.status ≡ 0x9000 → ⊥) → (n : ℕ) → suc n < length X → ⊥
  single z n h = let k = one_change c s bytes random z in omega arith

  -- which makes two
  between : named bytes ≡ Ok (IsPlain VerifyPin) → O.status ≡ 0x9000 → (n : ℕ) → suc n < length X → Fewer c (after (take (suc n) X) c)
  unfolding after changed head_after log_after with_state with_balance with_purse tried
  between v f zero h =
      let t = had_try c s bytes O (way c s bytes random) v f in
      rw (two_changes c s bytes random v f) (record { is = refl; tries = omega arith })
  between v f (suc n) h = absurd (let k = ap length (two_changes c s bytes random v f) in omega arith)

  -- after fewer than all of its changes
  short : (n : ℕ) → n < length X → CutCard c bytes (after (take n X) c)
  unfolding after
  short zero h = before refl
  short (suc n) h =
      elim (ℕ_discrete O.status 0x9000) [
        | yes f ↦ elim (ℕ_discrete (byte_at bytes 0) 0x94) [
          | yes a ↦ elim (ℕ_discrete (byte_at bytes 1) 0x20) [
            | yes b ↦ fewer a b (between (bytes-named bytes (Ok (IsPlain VerifyPin)) (a, b)) f n h)
            | no b ↦ absurd (single (λ v z. b (named-bytes bytes (Ok (IsPlain VerifyPin)) v).1) n h)
          ]
          | no a ↦ absurd (single (λ v z. a (named-bytes bytes (Ok (IsPlain VerifyPin)) v).0) n h)
        ]
        | no f ↦ absurd (single (λ v z. f z) n h)
      ]

  -- finished
  pub performed-done : (L : ℕ) → length p ≤ L → read_card (leaves p L m) ≡ some (card_after c s bytes random)
  unfolding outcome_plan card_after
  performed-done L h = ap read_card (limit_enough p L m h) ∙ plans-done X m c e (each_proper c s bytes random i)

  -- cut
  pub performed-cut : (L : ℕ) → L < length p → (d : Card) × (read_card (leaves p L m) ≡ some d) × CutCard c bytes d × Proper d
  unfolding outcome_plan
  performed-cut L h =
      let r = plans-cut X m c L e (each_proper c s bytes random i) h in
      (after (take r.0 X) c, r.2, short r.0 r.1, each_proper c s bytes random i r.0)

  -- a command's stores are few, so that it isn't cut at limit 65,535
  pub performed_few : length p ≤ 65535
  unfolding outcome_plan commits_of
  performed_few =
      let k = plans_few X m c (each_proper c s bytes random i) in
      omega (arith, few_changes O.commits O.head O.logged)

  -- memory of bytes stays so
  pub performed-bytes : (L : ℕ) → AreBytes m → AreBytes (leaves p L m)
  unfolding outcome_plan
  performed-bytes L f = plans-bytes X m c L f e (each_proper c s bytes random i)
