-- VERIFY PIN spends the try before it judges the PIN: its first commit, and its commits but for the verdict, don't depend on the data
-- that was sent. Assumes nothing.
use mathlib.Core.Bool.{Bool, true, false}
use mathlib.Core.List.{List}
use mathlib.Core.Path.{◌≡◌, refl}
use Prim.Native.Nat.{ℕ, ◌<◌}
use native.Mathlib.Omega.{arith}
use borrow.Author.Tests.{eqb-true}
use lib.Dec.{eqb}
use lib.ListN.{length, take, get_or}
use Rattle.std.specs.Prelude.{Result, Ok}
use Rattle.octets.specs.Choice.{pick}
use Rattle.octets.specs.Bytes.{byte_at}
use Rattle.card.specs.declared.log.Record.{Record}
use Rattle.card.specs.Log.{void}
use Rattle.card.specs.Card.{Card}
use Rattle.card.specs.Updates.{with_state, with_tries}
use Rattle.session.specs.declared.Session.{Session}
use Rattle.session.specs.Transitions.{ended}
use Rattle.apdu.specs.declared.parsing.Apdu.{Apdu}
use Rattle.apdu.specs.declared.instructions.Plain.TheVariants.{VerifyPin}
use Rattle.apdu.specs.declared.instructions.Instruction.{Instruction}
use Rattle.apdu.specs.declared.instructions.Instruction.TheVariants.{IsPlain}
use Rattle.apdu.specs.declared.refusals.Refusal.{Refusal}
use Rattle.apdu.specs.Parsing.{headed, parsed, data_of}
use Rattle.commands_spec.specs.declared.outcome.Commits.{Commits}
use Rattle.commands_spec.specs.declared.outcome.Commits.TheVariants.{Unchanged, Hot, HotAndRecord, HotAndCold, HotTwice}
use Rattle.commands_spec.specs.declared.outcome.Outcome.{Outcome}
use Rattle.commands_spec.specs.Outcomes.{refused, done, decided, changes_of, commits_of}
use Rattle.commands_spec.specs.VerifyPin.{judged, verify_pin_of}
use Rattle.commands_spec.specs.ReadRecord.{asked}
use Rattle.commands_spec.specs.Respond.{plain_of, named, on_instruction, on_parsed, respond_to, respond}
use Rattle.commands_spec.proofs.Steps.{parsed_holds}
use Rattle.commands_spec.proofs.Judgements.{verify_tries}

-- ---- two commands of one length that agree in their first five bytes

-- commands of one header and one length are parsed alike
parsed-same : (a b : List ℕ) → length a ≡ length b → ((k : ℕ) → k < 5 → byte_at a k ≡ byte_at b k) → parsed b ≡ parsed a
unfolding parsed
parsed-same a b n f =
    let b0 = f 0 (omega arith) in
    let b1 = f 1 (omega arith) in
    let b2 = f 2 (omega arith) in
    let b3 = f 3 (omega arith) in
    let b4 = f 4 (omega arith) in
    rw (n, b0, b1, b2, b3, b4)

-- both are refused alike, or both have their PIN judged with a try left: what holds of the one and of the other holds of the two outcomes
module _ (c : Card) (s : Session) (P : Outcome → Outcome → Type 0)
    (refusal : (t : Session) (w : ℕ) → P (refused c.head t w) (refused c.head t w))
    (judgement : (x y : Bool) → 0 < c.head.state.tries → P (judged x c.head s) (judged y c.head s)) where
  decided_pair : (w : ℕ) (t : Session) (o u : Outcome) → (w ≡ 0x9000 → P o u) → P (decided w c.head t o) (decided w c.head t u)
  unfolding decided
  decided_pair w t o u h = go (eqb w 0x9000) (λ e. h (eqb-true w 0x9000 e))
    where
      go : (b : Bool) → (b ≡ true → P o u) → P (pick b o (refused c.head t w)) (pick b u (refused c.head t w))
      go true k = k refl
      go false k = refusal t w

  verify_pair : (a b : List ℕ) → P (verify_pin_of c.head s a) (verify_pin_of c.head s b)
  unfolding verify_pin_of
  verify_pair a b = decided_pair _ (ended s) _ _ (λ e. judgement _ _ (verify_tries _ _ _ _ e))

  module _ (a b random : List ℕ) (q r : Record) where
    instruction_pair : (x : Apdu) (i : Result Instruction Refusal) → i ≡ Ok (IsPlain VerifyPin)
        → P (on_instruction i c.head q s x a random) (on_instruction i c.head r s x b random)
    unfolding on_instruction plain_of
    instruction_pair x i e = rw e (decided_pair _ (ended s) _ _ (λ h. verify_pair (data_of a x.lc) (data_of b x.lc)))

    parsed_pair : (n : ℕ) → named a ≡ Ok (IsPlain VerifyPin) → P (on_parsed (headed a n) c.head q s a random) (on_parsed (headed a n) c.head r s b random)
    unfolding on_parsed named
    parsed_pair n e = instruction_pair (record { cla = byte_at a 0; ins = byte_at a 1; p1 = byte_at a 2; p2 = byte_at a 3; lc = n }) (named a) e

  pub pin_pair : (a b random : List ℕ) → named a ≡ Ok (IsPlain VerifyPin) → length a ≡ length b → ((k : ℕ) → k < 5 → byte_at a k ≡ byte_at b k)
      → P (respond c s a random) (respond c s b random)
  unfolding respond respond_to on_parsed
  pin_pair a b random e n f =
      let q = get_or c.log (asked a) void in
      let r = get_or c.log (asked b) void in
      rw (parsed-same a b n f)
      (parsed_holds a (λ (x : Result Apdu Refusal). P (on_parsed x c.head q s a random) (on_parsed x c.head r s b random))
      (refusal _ _) (λ lc w. parsed_pair a b random q r lc e))

-- ---- the first commit

-- the commits without the verdict: a right PIN has one more behind the first
unfoldable pub blind : Commits → Commits
blind Unchanged = Unchanged
blind Hot = Hot
blind HotAndRecord = HotAndRecord
blind HotAndCold = HotAndCold
blind (HotTwice first) = Hot

-- the same first commit, and the same commits but for the verdict
pub record Alike (o u : Outcome) : Type 0 where
  pub commits : blind o.commits ≡ blind u.commits
  pub first : take 1 (commits_of o) ≡ take 1 (commits_of u)

judged_alike : (c : Card) (s : Session) (x y : Bool) → Alike (judged x c.head s) (judged y c.head s)
unfolding judged done blind commits_of changes_of with_state with_tries
judged_alike c s true true = record { commits = refl; first = refl }
judged_alike c s true false = record { commits = refl; first = refl }
judged_alike c s false true = record { commits = refl; first = refl }
judged_alike c s false false = record { commits = refl; first = refl }

-- is the same
pub pin-first_change : (c : Card) (s : Session) (a b random : List ℕ) → named a ≡ Ok (IsPlain VerifyPin) → length a ≡ length b
    → ((k : ℕ) → k < 5 → byte_at a k ≡ byte_at b k) → Alike (respond c s a random) (respond c s b random)
pin-first_change c s = pin_pair c s Alike (λ t w. record { commits = refl; first = refl }) (λ x y h. judged_alike c s x y)
