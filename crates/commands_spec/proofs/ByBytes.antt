-- The ways through steps 1 to 5 told by bytes: SELECT, EXTERNAL AUTHENTICATE behind its INITIALIZE UPDATE and the six signed commands past
-- these steps, with CLA, INS, P1, P2 and Lc as document 01 prints them; and every other command. Assumes nothing.
use mathlib.Core.Bool.{true}
use mathlib.Core.List.{List, [], ◌∷◌}
use mathlib.Core.Logic.{◌⊎◌, inl, inr}
use mathlib.Core.Path.{◌≡◌, refl, ap, ◌∙◌}
use Prim.Native.Nat.{ℕ, ◌+◌, ◌≤◌}
use native.Mathlib.Omega.{arith}
use borrow.Author.Tests.{eqb-true, eqb-false}
use lib.Dec.{eqb}
use lib.ListN.{length, get_or, length-append}
use Rattle.std.specs.Prelude.{Result, Ok, Err}
use Rattle.octets.specs.Bytes.{byte_at}
use Rattle.octets.proofs.Rules.{pick_holds}
use Rattle.card.specs.declared.head.Head.{Head}
use Rattle.card.specs.declared.log.Record.{Record}
use Rattle.card.specs.Log.{void}
use Rattle.card.specs.Card.{Card}
use Rattle.session.specs.declared.Set.{Set}
use Rattle.session.specs.declared.Pending.TheVariants.{Update}
use Rattle.session.specs.declared.Session.{Session}
use Rattle.session.specs.Transitions.{ended}
use Rattle.apdu.specs.declared.parsing.Apdu.{Apdu}
use Rattle.apdu.specs.declared.instructions.Plain.{Plain}
use Rattle.apdu.specs.declared.instructions.Plain.TheVariants.{Select, ExternalAuthenticate}
use Rattle.apdu.specs.declared.instructions.Signed.{Signed}
use Rattle.apdu.specs.declared.instructions.Signed.TheVariants.{PutKey, PinChange, StoreData, InitializeTransaction, CompleteTransaction, PutData}
use Rattle.apdu.specs.declared.instructions.Instruction.{Instruction}
use Rattle.apdu.specs.declared.instructions.Instruction.TheVariants.{IsPlain, IsSigned}
use Rattle.apdu.specs.declared.refusals.Refusal.{Refusal}
use Rattle.apdu.specs.Refusals.{refusal_word}
use Rattle.apdu.specs.Parsing.{headed, parsed, data_of}
use Rattle.apdu.specs.Instructions.{instruction}
use Rattle.apdu.specs.Early.{plain_status, signed_status}
use Rattle.apdu.proofs.Table.{SignedCode, PlainP1P2, SignedP1P2, Logged, PlainLc, SignedLc, instructions, unknown}
use Rattle.apdu.proofs.Shapes.{header, header_is, Shape, four, five, full, refused_length, by_shape, parsed_bare, parsed_full}
use Rattle.apdu.proofs.Order.{Decides, unselected, parameters, recorded, long, passed, Fits, Selected, fits, goes_on_lem, plain-order, signed-order}
use Rattle.commands_spec.specs.declared.outcome.Outcome.{Outcome}
use Rattle.commands_spec.specs.Outcomes.{refused, decided}
use Rattle.commands_spec.specs.Words.{is_one}
use Rattle.commands_spec.specs.ReadRecord.{asked}
use Rattle.commands_spec.specs.Respond.{plain_of, authorized, on_instruction, on_parsed, respond_to, respond}

-- ---- which commands, by their bytes and the session's fields

-- a command without data, four bytes or five; or with Lc, at least 1, that many bytes and at most one more
pub data Formed (command : List ℕ) : Type 0 where
  bare : 4 ≤ length command → length command ≤ 5 → Formed command
  filled : 1 ≤ byte_at command 4 → 5 + byte_at command 4 ≤ length command → length command ≤ 6 + byte_at command 4 → Formed command

-- SELECT past steps 1 to 5: 00 A4 04 00
pub record Selects (command : List ℕ) : Type 0 where
  pub cla : byte_at command 0 ≡ 0x00
  pub ins : byte_at command 1 ≡ 0xA4
  pub p1 : byte_at command 2 ≡ 0x04
  pub p2 : byte_at command 3 ≡ 0x00
  pub formed : Formed command

-- EXTERNAL AUTHENTICATE past steps 1 to 5, directly behind an INITIALIZE UPDATE under a set: 84 82, P1 01 or 11, P2 00, Lc 16
pub record Authenticates (s : Session) (command : List ℕ) (set : Set) : Type 0 where
  pub cla : byte_at command 0 ≡ 0x84
  pub ins : byte_at command 1 ≡ 0x82
  pub p1 : (byte_at command 2 ≡ 0x01) ⊎ (byte_at command 2 ≡ 0x11)
  pub p2 : byte_at command 3 ≡ 0x00
  pub lc : byte_at command 4 ≡ 16
  pub least : 21 ≤ length command
  pub most : length command ≤ 22
  pub selected : s.selected ≡ true
  pub pending : s.pending ≡ Update set

-- a signed command past steps 1 to 5: CLA, INS, P1, P2 and Lc as 01 prints them, a row for each of the six in the crate apdu's `Table`
pub record Signs (s : Session) (command : List ℕ) (g : Signed) : Type 0 where
  pub code : SignedCode g (byte_at command 0) (byte_at command 1)
  pub parameters : SignedP1P2 g (byte_at command 2) (byte_at command 3)
  pub lc : SignedLc g (byte_at command 4)
  pub least : 5 + byte_at command 4 ≤ length command
  pub most : length command ≤ 6 + byte_at command 4
  pub selected : s.selected ≡ true

-- none of these
pub record Untouched (s : Session) (command : List ℕ) : Type 0 where
  pub selects : Selects command → ⊥
  pub authenticates : (set : Set) → Authenticates s command set → ⊥
  pub signs : (g : Signed) → Signs s command g → ⊥

-- ---- the ways through steps 1 to 5

-- a signed command's Lc counts its C-MAC
pub signed-long : (g : Signed) (lc : ℕ) → SignedLc g lc → 8 ≤ lc
signed-long PutKey lc e = omega arith
signed-long PinChange lc (inl e) = omega arith
signed-long PinChange lc (inr e) = omega arith
signed-long StoreData lc e = e
signed-long InitializeTransaction lc e = omega arith
signed-long CompleteTransaction lc e = omega arith
signed-long PutData lc e = e

-- an instruction is one command's
pub one_plain : (i : Result Instruction Refusal) (p q : Plain) → i ≡ Ok (IsPlain p) → i ≡ Ok (IsPlain q) → p ≡ q
one_plain i p q e f = cc

one_signed : (i : Result Instruction Refusal) (g k : Signed) → i ≡ Ok (IsSigned g) → i ≡ Ok (IsSigned k) → g ≡ k
one_signed i g k e f = cc

-- and not both a plain and a signed one's
pub plain_or_signed : (i : Result Instruction Refusal) (p : Plain) (g : Signed) → i ≡ Ok (IsPlain p) → i ≡ Ok (IsSigned g) → ⊥
plain_or_signed i p g e f = let z : ◌≡◌ {A = ℕ} 0 1 = cc in omega arith

unknown_none : (i : Result Instruction Refusal) (k : Instruction) (x : Refusal) → i ≡ Ok k → i ≡ Err x → ⊥
unknown_none i k x e f = let z : ◌≡◌ {A = ℕ} 0 1 = cc in omega arith

module _ (s : Session) (command : List ℕ) where
  -- the instruction of the first two bytes
  abbrev pub I : Result Instruction Refusal
  I = instruction (byte_at command 0) (byte_at command 1)

  -- that of each of them
  pub select_names : Selects command → I ≡ Ok (IsPlain Select)
  select_names x = (instructions (Ok (IsPlain Select)) (byte_at command 0) (byte_at command 1)).1 (x.cla, x.ins)

  pub authenticate_names : (set : Set) → Authenticates s command set → I ≡ Ok (IsPlain ExternalAuthenticate)
  authenticate_names set x = (instructions (Ok (IsPlain ExternalAuthenticate)) (byte_at command 0) (byte_at command 1)).1 (x.cla, x.ins)

  pub sign_names : (g : Signed) → Signs s command g → I ≡ Ok (IsSigned g)
  sign_names g x = (instructions (Ok (IsSigned g)) (byte_at command 0) (byte_at command 1)).1 x.code

  -- a command that names none of them
  unnamed : (I ≡ Ok (IsPlain Select) → ⊥) → (I ≡ Ok (IsPlain ExternalAuthenticate) → ⊥) → ((g : Signed) → I ≡ Ok (IsSigned g) → ⊥) → Untouched s command
  unnamed a b d =
      record { selects = λ x. a (select_names x); authenticates = λ set x. b (authenticate_names set x); signs = λ g x. d g (sign_names g x) }

  -- each has the length that step 1 asks for
  formed_parsed : (x : Refusal) → Formed command → parsed command ≡ Err x → ⊥
  formed_parsed x (bare h k) e = let f = parsed_bare command h k in let z : ◌≡◌ {A = ℕ} 0 1 = cc in omega arith
  formed_parsed x (filled h k l) e = let f = parsed_full command h k l in let z : ◌≡◌ {A = ℕ} 0 1 = cc in omega arith

  signed_formed : (g : Signed) → Signs s command g → Formed command
  signed_formed g x = filled (omega (arith, signed-long g (byte_at command 4) x.lc)) x.least x.most

  authenticate_formed : (set : Set) → Authenticates s command set → Formed command
  authenticate_formed set x = let e : byte_at command 4 ≡ 16 = x.lc in filled (omega arith) (omega (arith, x.least)) (omega (arith, x.most))

  wrong_untouched : (y : Refusal) → parsed command ≡ Err y → Untouched s command
  wrong_untouched y e =
      record {
        selects = λ x. formed_parsed y x.formed e;
        authenticates = λ set x. formed_parsed y (authenticate_formed set x) e;
        signs = λ g x. formed_parsed y (signed_formed g x) e;
      }

  -- Lc is byte 5
  pub lc_is : (lc : ℕ) → parsed command ≡ headed command lc → 1 ≤ byte_at command 4 → 5 + byte_at command 4 ≤ length command → length command ≤ 6 + byte_at command 4
      → lc ≡ byte_at command 4
  lc_is lc e h k l =
      let f = parsed_full command h k l in
      let q : header command lc ≡ header command (byte_at command 4) = cc in
      ap (λ (a : Apdu). a.lc) q

  -- what a header with Lc says of the bytes
  pub shape_lc : (lc : ℕ) → Shape command (header command lc) → 1 ≤ lc → (byte_at command 4 ≡ lc) × (5 + lc ≤ length command) × (length command ≤ 6 + lc)
  shape_lc lc (four z e) h = absurd (omega arith)
  shape_lc lc (five z le e) h = absurd (omega arith)
  shape_lc lc (full body le h l m e) k =
      let n = ap length e in
      let j = length-append body le in
      (ap (λ (x : List ℕ). byte_at x 4) e, omega arith, omega arith)

  pub shape_formed : (lc : ℕ) → Shape command (header command lc) → Formed command
  shape_formed lc (four z e) = let n = ap length e in bare (omega arith) (omega arith)
  shape_formed lc (five z le e) = let n = ap length e in bare (omega arith) (omega arith)
  shape_formed lc (full body le h l m e) =
      let q = shape_lc lc (full body le h l m e) h in
      filled (omega (arith, q.0)) (omega (arith, q.0, q.1)) (omega (arith, q.0, q.2))

  unknown_untouched : (x : Refusal) → I ≡ Err x → Untouched s command
  unknown_untouched x u =
      unnamed (λ e. unknown_none I (IsPlain Select) x e u) (λ e. unknown_none I (IsPlain ExternalAuthenticate) x e u) (λ g e. unknown_none I (IsSigned g) x e u)

-- the status words of steps 1 to 5
abbrev pub early_words : List ℕ
early_words = 0x6700 ∷ 0x6985 ∷ 0x6A83 ∷ 0x6A86 ∷ 0x6D00 ∷ 0x6E00 ∷ []

early_word : {S P R L : Type 0} {w : ℕ} → Decides S P R L w → (w ≡ 0x9000 → ⊥) → is_one w early_words ≡ true
unfolding is_one
early_word (unselected n) h = refl
early_word (parameters s n) h = refl
early_word (recorded s p n) h = refl
early_word (long s p r n) h = refl
early_word (passed s p r l) h = absurd (h refl)

-- a plain command past step 5
pub record PlainPast (c : Card) (s : Session) (command : List ℕ) (p : Plain) (lc : ℕ) : Type 0 where
  pub names : instruction (byte_at command 0) (byte_at command 1) ≡ Ok (IsPlain p)
  pub formed : Shape command (header command lc)
  pub fit : Fits (Selected p s.selected) (PlainP1P2 p (byte_at command 2) (byte_at command 3)) (Logged p (byte_at command 2) c.head.fixed.logsize) (PlainLc p lc)

module _ (c : Card) (s : Session) (command random : List ℕ) (P : Outcome → Type 0)
    (refusal : (w : ℕ) → is_one w early_words ≡ true → Untouched s command → P (refused c.head (ended s) w))
    (plain : (p : Plain) (lc : ℕ) → PlainPast c s command p lc
    → P (plain_of p c.head (get_or c.log (asked command) void) s (header command lc) command (data_of command lc) random))
    (signed : (g : Signed) → Signs s command g → P (authorized g c.head s (header command (byte_at command 4)) command)) where
  abbrev H : Head
  H = c.head

  abbrev R : Record
  R = get_or c.log (asked command) void

  -- a plain command that steps 3 to 5 refuse is neither SELECT nor EXTERNAL AUTHENTICATE past them
  plain-refused : (p : Plain) (lc : ℕ) → I s command ≡ Ok (IsPlain p) → parsed command ≡ headed command lc
      → (plain_status p s.selected (header command lc) H.fixed.logsize ≡ 0x9000 → ⊥) → Untouched s command
  plain-refused p lc e f n =
      record {
        selects = λ x. go_select p (one_plain (I s command) p Select e (select_names s command x)) n x;
        authenticates = λ set x. go_authenticate p (one_plain (I s command) p ExternalAuthenticate e (authenticate_names s command set x)) n set x;
        signs = λ g x. plain_or_signed (I s command) p g e (sign_names s command g x);
      }
    where
      W : Plain → ℕ
      W p = plain_status p s.selected (header command lc) H.fixed.logsize

      go_select : (p : Plain) → p ≡ Select → (W p ≡ 0x9000 → ⊥) → Selects command → ⊥
      go_select p q m x =
          m (rw q (goes_on_lem (plain-order Select s.selected (header command lc) H.fixed.logsize)
          (record { selected = tt; parameters = (x.p1, x.p2); recorded = tt; length = tt })))

      go_authenticate : (p : Plain) → p ≡ ExternalAuthenticate → (W p ≡ 0x9000 → ⊥) → (set : Set) → Authenticates s command set → ⊥
      go_authenticate p q m set x =
          let b : byte_at command 4 ≡ 16 = x.lc in
          let l : lc ≡ 16 = lc_is s command lc f (omega arith) (omega (arith, x.least)) (omega (arith, x.most)) ∙ b in
          m (rw q (goes_on_lem (plain-order ExternalAuthenticate s.selected (header command lc) H.fixed.logsize)
          (record { selected = x.selected; parameters = (x.p1, x.p2); recorded = tt; length = l })))

  signed-refused : (g : Signed) (lc : ℕ) → I s command ≡ Ok (IsSigned g) → parsed command ≡ headed command lc
      → (signed_status g s.selected (header command lc) ≡ 0x9000 → ⊥) → Untouched s command
  signed-refused g lc e f n =
      record {
        selects = λ x. plain_or_signed (I s command) Select g (select_names s command x) e;
        authenticates = λ set x. plain_or_signed (I s command) ExternalAuthenticate g (authenticate_names s command set x) e;
        signs = λ k x. go k (one_signed (I s command) g k e (sign_names s command k x)) x;
      }
    where
      go : (k : Signed) → g ≡ k → Signs s command k → ⊥
      go k q x =
          let h = signed-long k (byte_at command 4) x.lc in
          let l : lc ≡ byte_at command 4 = lc_is s command lc f (omega arith) x.least x.most in
          n (rw (q, l) (goes_on_lem (signed-order k s.selected (header command (byte_at command 4)))
          (record { selected = x.selected; parameters = x.parameters; recorded = tt; length = x.lc })))

  signed_passed : (g : Signed) (lc : ℕ) → I s command ≡ Ok (IsSigned g) → parsed command ≡ headed command lc
      → signed_status g s.selected (header command lc) ≡ 0x9000 → P (authorized g H s (header command lc) command)
  signed_passed g lc e f w =
      let t = fits (signed-order g s.selected (header command lc)) w in
      let m : 8 ≤ lc = signed-long g lc t.length in
      let o = shape_lc s command lc (((by_shape command).command (header command lc)).0 f) (omega arith) in
      let q : byte_at command 4 ≡ lc = o.0 in
      rw (← q)
      (signed g (record {
        code = (instructions (Ok (IsSigned g)) (byte_at command 0) (byte_at command 1)).0 e;
        parameters = t.parameters;
        lc = rw q t.length;
        least = rw q o.1;
        most = rw q o.2;
        selected = t.selected;
      }))

  instruction_holds : (lc : ℕ) → parsed command ≡ headed command lc → (i : Result Instruction Refusal) → I s command ≡ i
      → P (on_instruction i H R s (header command lc) command random)
  unfolding on_instruction decided is_one
  instruction_holds lc f (Ok (IsPlain p)) e =
      pick_holds P (eqb (plain_status p s.selected (header command lc) H.fixed.logsize) 0x9000) _ _
      (λ t.
      plain p lc (record {
        names = e;
        formed = ((by_shape command).command (header command lc)).0 f;
        fit = fits (plain-order p s.selected (header command lc) H.fixed.logsize) (eqb-true _ _ t);
      }))
      (λ t.
      let n = eqb-false _ _ t in
      refusal _ (early_word (plain-order p s.selected (header command lc) H.fixed.logsize) n) (plain-refused p lc e f n))
  instruction_holds lc f (Ok (IsSigned g)) e =
      pick_holds P (eqb (signed_status g s.selected (header command lc)) 0x9000) _ _
      (λ t. signed_passed g lc e f (eqb-true _ _ t))
      (λ t.
      let n = eqb-false _ _ t in
      refusal _ (early_word (signed-order g s.selected (header command lc)) n) (signed-refused g lc e f n))
  instruction_holds lc f (Err x) e =
      let u = unknown_untouched s command x e in
      unknown (λ (y : Refusal). P (refused H (ended s) (refusal_word y))) (refusal 0x6E00 refl u) (refusal 0x6D00 refl u)
      (byte_at command 0) (byte_at command 1) x e

  parsed_holds : (x : Result Apdu Refusal) → parsed command ≡ x → P (on_parsed x H R s command random)
  unfolding on_parsed is_one
  parsed_holds (Ok a) e =
      let q = header_is command a e in
      rw q (instruction_holds a.lc (e ∙ ap Ok q) (I s command) refl)
  parsed_holds (Err x) e =
      refused_length (λ (y : Refusal). P (refused H (ended s) (refusal_word y))) (refusal 0x6700 refl (wrong_untouched s command x e)) command x e

  -- what holds of each way holds of a command's outcome
  pub past_holds : P (respond c s command random)
  unfolding respond respond_to
  past_holds = parsed_holds (parsed command) refl
