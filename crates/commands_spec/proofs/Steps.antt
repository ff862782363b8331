-- The ways through steps 1 to 6 of document 01's order: what holds of each refusal there, and of each command past them, holds of
-- what `respond` gives. Assumes nothing.
use mathlib.Core.Bool.{Bool, true, false, not, ◌||◌, false≢true}
use mathlib.Core.List.{List, [], ◌∷◌}
use mathlib.Core.Path.{◌≡◌, refl, ap, ◌∙◌}
use Prim.Native.Nat.{ℕ, ◌+◌, ◌-◌, ◌<◌, ◌≤◌}
use native.Mathlib.Omega.{arith}
use borrow.Author.Tests.{eqb-true, not-false}
use lib.Dec.{ltb, eqb}
use lib.ListN.{length, get_or}
use Rattle.std.specs.Prelude.{Result, Ok, Err}
use Rattle.octets.specs.Choice.{pick, refuse}
use Rattle.octets.specs.Bytes.{byte_at, part, same}
use Rattle.octets.proofs.Conditions.{and_both}
use Rattle.octets.proofs.Rules.{passed, pick_holds}
use Rattle.card.specs.declared.head.Head.{Head}
use Rattle.card.specs.declared.log.Record.{Record}
use Rattle.card.specs.Log.{void}
use Rattle.card.specs.Card.{Card}
use Rattle.session.specs.declared.Session.{Session}
use Rattle.session.specs.Transitions.{ended, closed, chained}
use Rattle.session.specs.Access.{is_open}
use Rattle.apdu.specs.declared.instructions.Plain.{Plain}
use Rattle.apdu.specs.declared.instructions.Signed.{Signed}
use Rattle.apdu.specs.declared.instructions.Instruction.{Instruction}
use Rattle.apdu.specs.declared.instructions.Instruction.TheVariants.{IsPlain, IsSigned}
use Rattle.apdu.specs.declared.parsing.Apdu.{Apdu}
use Rattle.apdu.specs.declared.refusals.Refusal.{Refusal}
use Rattle.apdu.specs.declared.refusals.Refusal.TheVariants.{WrongLength}
use Rattle.apdu.proofs.Table.{unknown}
use Rattle.apdu.proofs.Shapes.{header}
use Rattle.apdu.specs.Refusals.{refusal_word}
use Rattle.apdu.specs.Parsing.{headed, parsed, data_of}
use Rattle.apdu.specs.Parameters.{plain_parameters, signed_parameters, has_record}
use Rattle.apdu.specs.Lengths.{mac_size, plain_length, signed_length}
use Rattle.apdu.specs.Early.{is_select, early_status, plain_status, signed_status}
use Rattle.channel.specs.Channel.{cmac_of}
use Rattle.commands_spec.specs.declared.outcome.Outcome.{Outcome}
use Rattle.commands_spec.specs.Outcomes.{refused, decided}
use Rattle.commands_spec.specs.Words.{is_one, refusals}
use Rattle.commands_spec.specs.ReadRecord.{asked}
use Rattle.commands_spec.specs.Respond.{plain_of, signed_of, authorized, named, on_instruction, on_parsed, respond_to, respond}

-- ---- choices

-- a status word: 9000, or one of a list
abbrev pub Judged : List ℕ → ℕ → Type 0
Judged l w = is_one w (0x9000 ∷ l) ≡ true

-- what holds of the outcome past a command's rules, and of each refusal by a word of the list
pub decided_holds : (P : Outcome → Type 0) (l : List ℕ) (w : ℕ) (h : Head) (s : Session) (o : Outcome) → Judged l w → (w ≡ 0x9000 → P o)
    → (is_one w l ≡ true → P (refused h s w)) → P (decided w h s o)
unfolding decided is_one
decided_holds P l w h s o j f g = go (eqb w 0x9000) (λ e. f (eqb-true w 0x9000 e)) j
  where
    go : (b : Bool) → (b ≡ true → P o) → (b || is_one w l) ≡ true → P (pick b o (refused h s w))
    go true k q = k refl
    go false k q = g q

-- the same whatever the word
pub decided_either : (P : Outcome → Type 0) (w : ℕ) (h : Head) (s : Session) (o : Outcome) → (w ≡ 0x9000 → P o) → P (refused h s w)
    → P (decided w h s o)
unfolding decided
decided_either P w h s o f g = pick_holds P (eqb w 0x9000) _ _ (λ e. f (eqb-true w 0x9000 e)) (λ e. g)

-- a row of rules says words of the list if each rule does
pub rule : (l : List ℕ) (b : Bool) (w rest : ℕ) → Judged l w → Judged l rest → Judged l (refuse b w rest)
rule l true w rest p q = p
rule l false w rest p q = q

-- ---- the words of steps 1 to 5

-- all that steps 1 to 5 refuse with
abbrev pub early : List ℕ
early = 0x6700 ∷ 0x6985 ∷ 0x6A83 ∷ 0x6A86 ∷ 0x6D00 ∷ 0x6E00 ∷ []

-- a list that is a part of another
abbrev all_in : List ℕ → List ℕ → Type 0
all_in [] m = Unit {0}
all_in (x ∷ l) m = (is_one x m ≡ true) × all_in l m

in_both : (l m : List ℕ) → all_in l m → (w : ℕ) → is_one w l ≡ true → is_one w m ≡ true
unfolding is_one
in_both [] m a w e = absurd (false≢true e)
in_both (x ∷ l) m a w e = go (eqb w x) refl (in_both l m a.1 w) e
  where
    go : (b : Bool) → eqb w x ≡ b → (is_one w l ≡ true → is_one w m ≡ true) → (b || is_one w l) ≡ true → is_one w m ≡ true
    go true p f q = ap (λ (y : ℕ). is_one y m) (eqb-true w x p) ∙ a.0
    go false p f q = f q

-- each keeps the card
pub early_refusal : (w : ℕ) → is_one w early ≡ true → is_one w refusals ≡ true
unfolding is_one refusals
early_refusal = in_both early refusals (refl, (refl, (refl, (refl, (refl, (refl, tt))))))

-- ---- step 1

-- the length that Lc asks for
or_within : (n a : ℕ) → (eqb n (5 + a) || eqb n (6 + a)) ≡ true → 5 + a ≤ n
or_within n a e = go (eqb n (5 + a)) refl e
  where
    go : (b : Bool) → eqb n (5 + a) ≡ b → (b || eqb n (6 + a)) ≡ true → 5 + a ≤ n
    go true p q = omega (arith, eqb-true n (5 + a) p)
    go false p q = omega (arith, eqb-true n (6 + a) q)

-- what holds of a wrong length and of each header holds of what bytes are as a command
pub parsed_holds : (command : List ℕ) (P : Result Apdu Refusal → Type 0) → P (Err WrongLength) → ((lc : ℕ) → (0 < lc → 5 + lc ≤ length command) → P (headed command lc))
    → P (parsed command)
unfolding parsed
parsed_holds command P wrong f =
    pick_holds P (ltb (length command) 4) _ _ (λ e. wrong)
    (λ e. pick_holds P (ltb (length command) 6) _ _ (λ g. f 0 (λ z. omega arith))
    (λ g. pick_holds P (eqb (byte_at command 4) 0) _ _ (λ k. wrong)
    (λ k. pick_holds P (eqb (length command) (5 + byte_at command 4) || eqb (length command) (6 + byte_at command 4)) _ _
    (λ l. f (byte_at command 4) (λ z. or_within (length command) (byte_at command 4) l)) (λ l. wrong))))

-- ---- steps 3 to 5

-- every rule of steps 3 to 5 let pass
record Early (a b c d : Bool) : Type 0 where
  pub selected : a ≡ true
  pub parameters : b ≡ true
  pub logged : c ≡ true
  pub length : d ≡ true

early_judged : (a b c d : Bool) → Judged early (early_status a b c d)
unfolding early_status is_one
early_judged a b c d = search rule depth 24

early_passed : (a b c d : Bool) → early_status a b c d ≡ 0x9000 → Early a b c d
unfolding early_status
early_passed a b c d e =
    let p = passed (not a) 0x6985 _ 0x9000 e (λ z. omega arith) in
    let q = passed (not b) 0x6A86 _ 0x9000 p.1 (λ z. omega arith) in
    let r = passed (not c) 0x6A83 _ 0x9000 q.1 (λ z. omega arith) in
    let t = passed (not d) 0x6700 0x9000 0x9000 r.1 (λ z. omega arith) in
    record { selected = not-false a p.0; parameters = not-false b q.0; logged = not-false c r.0; length = not-false d t.0 }

-- ---- the ways

-- the C-MAC that step 6 asks for
abbrev pub mac_of : Session → List ℕ → ℕ → List ℕ
mac_of s command lc = cmac_of s.channel.mac s.channel.cmac command (5 + (lc - mac_size))

-- a plain command past step 5
pub record Passed (c : Card) (s : Session) (command : List ℕ) (p : Plain) (lc : ℕ) : Type 0 where
  pub names : named command ≡ Ok (IsPlain p)
  pub within : 0 < lc → 5 + lc ≤ length command
  pub selected : (is_select p || s.selected) ≡ true
  pub parameters : plain_parameters p (byte_at command 2) (byte_at command 3) ≡ true
  pub logged : has_record p (byte_at command 2) c.head.fixed.logsize ≡ true
  pub long : plain_length p lc ≡ true

-- a signed command past step 6
pub record Accepted (s : Session) (command : List ℕ) (g : Signed) (lc : ℕ) : Type 0 where
  pub names : named command ≡ Ok (IsSigned g)
  pub within : 0 < lc → 5 + lc ≤ length command
  pub selected : s.selected ≡ true
  pub parameters : signed_parameters g (byte_at command 2) (byte_at command 3) ≡ true
  pub long : signed_length g lc ≡ true
  pub opened : is_open s.channel.level ≡ true
  pub right : same (part command (5 + (lc - mac_size)) mac_size) (mac_of s command lc) ≡ true

module _ (c : Card) (s : Session) (command random : List ℕ) (P : Outcome → Type 0)
    (refusal : (w : ℕ) → is_one w early ≡ true → P (refused c.head (ended s) w))
    (unsigned : (g : Signed) → named command ≡ Ok (IsSigned g) → P (refused c.head (closed s) 0x6982))
    (plain : (p : Plain) (lc : ℕ) → Passed c s command p lc
    → P (plain_of p c.head (get_or c.log (asked command) void) s (header command lc) command (data_of command lc) random))
    (signed : (g : Signed) (lc : ℕ) → Accepted s command g lc
    → P (signed_of g c.head (chained (mac_of s command lc) s) (header command lc) (data_of command (lc - mac_size)))) where
  abbrev H : Head
  H = c.head

  abbrev R : Record
  R = get_or c.log (asked command) void

  authorized_holds : (g : Signed) (lc : ℕ) → named command ≡ Ok (IsSigned g) → (0 < lc → 5 + lc ≤ length command)
      → Early s.selected (signed_parameters g (byte_at command 2) (byte_at command 3)) true (signed_length g lc)
      → P (authorized g H s (header command lc) command)
  unfolding authorized
  authorized_holds g lc e w f =
      pick_holds P _ _ _
      (λ t.
      let b = and_both (is_open s.channel.level) _ t in
      signed g lc (record { names = e; within = w; selected = f.selected; parameters = f.parameters; long = f.length; opened = b.0; right = b.1 }))
      (λ t. unsigned g e)

  instruction_holds : (lc : ℕ) → (0 < lc → 5 + lc ≤ length command) → (i : Result Instruction Refusal) → named command ≡ i
      → P (on_instruction i H R s (header command lc) command random)
  unfolding named on_instruction plain_status signed_status is_one
  instruction_holds lc w (Ok (IsPlain p)) e =
      decided_holds P early _ H (ended s) _ (early_judged _ _ _ _)
      (λ t.
      let f = early_passed (is_select p || s.selected) (plain_parameters p (byte_at command 2) (byte_at command 3)) (has_record p (byte_at command 2) H.fixed.logsize) (plain_length p lc) t in
      plain p lc (record { names = e; within = w; selected = f.selected; parameters = f.parameters; logged = f.logged; long = f.length }))
      (λ j. refusal _ j)
  instruction_holds lc w (Ok (IsSigned g)) e =
      decided_holds P early _ H (ended s) _ (early_judged _ _ _ _)
      (λ t.
      let f = early_passed s.selected (signed_parameters g (byte_at command 2) (byte_at command 3)) true (signed_length g lc) t in
      authorized_holds g lc e w f)
      (λ j. refusal _ j)
  instruction_holds lc w (Err x) e =
      unknown (λ (y : Refusal). P (refused H (ended s) (refusal_word y))) (refusal 0x6E00 refl) (refusal 0x6D00 refl)
      (byte_at command 0) (byte_at command 1) x e

  abbrev Q : Result Apdu Refusal → Type 0
  Q x = P (on_parsed x H R s command random)

  headed_holds : (lc : ℕ) → (0 < lc → 5 + lc ≤ length command) → Q (headed command lc)
  unfolding on_parsed named
  headed_holds lc w = instruction_holds lc w (named command) refl

  wrong_holds : Q (Err WrongLength)
  unfolding on_parsed is_one
  wrong_holds = refusal 0x6700 refl

  -- what holds of every way through steps 1 to 6 holds of a command's outcome
  pub respond_holds : P (respond c s command random)
  unfolding respond respond_to
  respond_holds = parsed_holds command Q wrong_holds headed_holds
