-- Steps 1 to 5 of document 01's order over `respond`: which status word each refuses with, the command told by its bytes, and that a refusal
-- there changes nothing of card, selection, PIN flag and channel. Assumes nothing.
use mathlib.Core.Bool.{true}
use mathlib.Core.List.{List}
use mathlib.Core.Path.{◌≡◌, refl, subst}
use Prim.Native.Nat.{ℕ}
use native.Mathlib.Omega.{arith}
use borrow.Author.Tests.{le-ltb, lt-ltb, ne_eqb}
use lib.Dec.{ltb}
use lib.ListN.{length, get_or}
use Rattle.std.specs.Prelude.{Ok, Err}
use Rattle.octets.specs.Choice.{pick}
use Rattle.octets.specs.Bytes.{byte_at}
use Rattle.octets.specs.Words.{word}
use Rattle.octets.specs.Buffers.{content}
use Rattle.octets.proofs.Holding.{content-holding}
use Rattle.card.specs.Log.{void}
use Rattle.card.specs.Card.{Card}
use Rattle.session.specs.declared.Pending.TheVariants.{Nothing}
use Rattle.session.specs.declared.Session.{Session}
use Rattle.session.specs.Transitions.{ended}
use Rattle.apdu.specs.declared.parsing.Apdu.{Apdu}
use Rattle.apdu.specs.declared.instructions.Plain.{Plain}
use Rattle.apdu.specs.declared.instructions.Signed.{Signed}
use Rattle.apdu.specs.declared.instructions.Instruction.TheVariants.{IsPlain, IsSigned}
use Rattle.apdu.specs.declared.refusals.Refusal.TheVariants.{WrongLength, UnknownInstruction, UnknownClass}
use Rattle.apdu.specs.Parsing.{headed, parsed}
use Rattle.apdu.specs.Instructions.{instruction}
use Rattle.apdu.specs.Early.{plain_status, signed_status}
use Rattle.apdu.proofs.Table.{PlainCode, SignedCode, Class, PlainP1P2, SignedP1P2, Logged, PlainLc, SignedLc, instructions}
use Rattle.apdu.proofs.Shapes.{header, header_is, Shape, by_shape, parsed_bare, parsed_full}
use Rattle.apdu.proofs.Order.{Decides, Selected, one_word, plain-order, signed-order}
use Rattle.commands_spec.specs.declared.outcome.Outcome.{Outcome}
use Rattle.commands_spec.specs.declared.outcome.Commits.TheVariants.{Unchanged}
use Rattle.commands_spec.specs.Outcomes.{refused, decided}
use Rattle.commands_spec.specs.ReadRecord.{asked}
use Rattle.commands_spec.specs.Respond.{on_instruction, on_parsed, respond_to, respond}
use Rattle.commands_spec.proofs.ByBytes.{Formed, bare, filled, shape_formed}

-- how many bytes of data a command has: none where it is four or five bytes, else as many as byte 5 says
abbrev pub data_count : List ℕ → ℕ
data_count command = pick (ltb (length command) 6) 0 (byte_at command 4)

-- a refusal with a status word: that word alone as answer, the card, the selection, the PIN flag and the channel as before, nothing pending
pub record Refused (s : Session) (w : ℕ) (o : Outcome) : Type 0 where
  pub status : o.status ≡ w
  pub answer : content o.reply ≡ word w
  pub commits : o.commits ≡ Unchanged
  pub selected : o.session.selected ≡ s.selected
  pub verified : o.session.verified ≡ s.verified
  pub channel : o.session.channel ≡ s.channel
  pub pending : o.session.pending ≡ Nothing

-- what a command on a card in a session ends in where one of steps 1 to 5 refuses it
pub record FirstSteps (c : Card) (s : Session) (command : List ℕ) (o : Outcome) : Type 0 where
  -- 1. "otherwise 6700"
  pub length : (Formed command → ⊥) → Refused s 0x6700 o
  -- 2. "Unknown CLA 6E00"
  pub class : Formed command → (Class (byte_at command 0) → ⊥) → Refused s 0x6E00 o
  -- "unknown INS, or an INS not of that CLA, 6D00"
  pub instruction : Formed command → Class (byte_at command 0) → ((p : Plain) → PlainCode p (byte_at command 0) (byte_at command 1) → ⊥)
      → ((g : Signed) → SignedCode g (byte_at command 0) (byte_at command 1) → ⊥) → Refused s 0x6D00 o
  -- 3 to 5. the first that refuses: selection 6985, P1 and P2 6A86, READ RECORD's record 6A83, Lc 6700
  pub plain : Formed command → (p : Plain) → PlainCode p (byte_at command 0) (byte_at command 1) → (w : ℕ)
      → Decides (Selected p s.selected) (PlainP1P2 p (byte_at command 2) (byte_at command 3)) (Logged p (byte_at command 2) c.head.fixed.logsize) (PlainLc p (data_count command)) w
      → (w ≡ 0x9000 → ⊥) → Refused s w o
  pub signed : Formed command → (g : Signed) → SignedCode g (byte_at command 0) (byte_at command 1) → (w : ℕ)
      → Decides (s.selected ≡ true) (SignedP1P2 g (byte_at command 2) (byte_at command 3)) (Unit {0}) (SignedLc g (data_count command)) w
      → (w ≡ 0x9000 → ⊥) → Refused s w o

module _ (c : Card) (s : Session) (command random : List ℕ) where
  refuses : (w : ℕ) → Refused s w (refused c.head (ended s) w)
  unfolding refused ended
  refuses w =
      record { status = refl; answer = content-holding (word w); commits = refl; selected = refl; verified = refl; channel = refl; pending = refl }

  counted : Formed command → parsed command ≡ headed command (data_count command)
  counted (bare h k) = rw (lt-ltb (length command) 6 (omega arith)) (parsed_bare command h k)
  counted (filled h k l) = rw (le-ltb (length command) 6 (omega arith)) (parsed_full command h k l)

  unformed : (Formed command → ⊥) → parsed command ≡ Err WrongLength
  unformed n =
      (by_shape command).otherwise.1
      (λ a h. n (shape_formed s command a.lc (subst (λ (x : Apdu). Shape command x) (header_is command a (((by_shape command).command a).1 h)) h)))

  wrong_length : (Formed command → ⊥) → Refused s 0x6700 (respond c s command random)
  unfolding respond respond_to on_parsed
  wrong_length n = rw (unformed n) (refuses 0x6700)

  -- past step 1
  named : Formed command → respond c s command random
      ≡ on_instruction (instruction (byte_at command 0) (byte_at command 1)) c.head (get_or c.log (asked command) void) s (header command (data_count command)) command random
  unfolding respond respond_to on_parsed
  named f = rw (counted f)

  unknown_class : Formed command → (Class (byte_at command 0) → ⊥) → Refused s 0x6E00 (respond c s command random)
  unfolding on_instruction
  unknown_class f n = rw (named f, (instructions (Err UnknownClass) (byte_at command 0) (byte_at command 1)).1 n) (refuses 0x6E00)

  unknown_instruction : Formed command → Class (byte_at command 0) → ((p : Plain) → PlainCode p (byte_at command 0) (byte_at command 1) → ⊥)
      → ((g : Signed) → SignedCode g (byte_at command 0) (byte_at command 1) → ⊥) → Refused s 0x6D00 (respond c s command random)
  unfolding on_instruction
  unknown_instruction f k p g = rw (named f, (instructions (Err UnknownInstruction) (byte_at command 0) (byte_at command 1)).1 (k, p, g)) (refuses 0x6D00)

  plain-refused : Formed command → (p : Plain) → PlainCode p (byte_at command 0) (byte_at command 1) → (w : ℕ)
      → Decides (Selected p s.selected) (PlainP1P2 p (byte_at command 2) (byte_at command 3)) (Logged p (byte_at command 2) c.head.fixed.logsize) (PlainLc p (data_count command)) w
      → (w ≡ 0x9000 → ⊥) → Refused s w (respond c s command random)
  unfolding on_instruction decided
  plain-refused f p k w d n =
      let e : plain_status p s.selected (header command (data_count command)) c.head.fixed.logsize ≡ w =
      one_word (plain-order p s.selected (header command (data_count command)) c.head.fixed.logsize) d in
      rw (named f, (instructions (Ok (IsPlain p)) (byte_at command 0) (byte_at command 1)).1 k, e, ne_eqb w 0x9000 n) (refuses w)

  signed-refused : Formed command → (g : Signed) → SignedCode g (byte_at command 0) (byte_at command 1) → (w : ℕ)
      → Decides (s.selected ≡ true) (SignedP1P2 g (byte_at command 2) (byte_at command 3)) (Unit {0}) (SignedLc g (data_count command)) w
      → (w ≡ 0x9000 → ⊥) → Refused s w (respond c s command random)
  unfolding on_instruction decided
  signed-refused f g k w d n =
      let e : signed_status g s.selected (header command (data_count command)) ≡ w = one_word (signed-order g s.selected (header command (data_count command))) d in
      rw (named f, (instructions (Ok (IsSigned g)) (byte_at command 0) (byte_at command 1)).1 k, e, ne_eqb w 0x9000 n) (refuses w)

  -- for every card, session, command and random bytes
  pub first_steps : FirstSteps c s command (respond c s command random)
  first_steps = record { length = wrong_length; class = unknown_class; instruction = unknown_instruction; plain = plain-refused; signed = signed-refused }
