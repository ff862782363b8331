-- The twelve commands by their bytes, as document 01 prints them: CLA and INS, P1 and P2, Lc; and which bytes are no command's.
-- Assumes nothing.
use mathlib.Core.Bool.{Bool, true, false, ◌&&◌, ◌||◌}
use mathlib.Core.Logic.{◌↔◌, ◌⊎◌, inl, inr}
use mathlib.Core.Path.{◌≡◌, refl}
use Rattle.std.specs.Prelude.{Result, Ok, Err}
use Prim.Native.Nat.{ℕ, ◌≤◌}
use native.Mathlib.Omega.{arith}
use borrow.Author.Tests.{leb-true, le-leb, eqb-true, eqb-false, eq-eqb, ne_eqb}
use lib.Dec.{leb, eqb}
use Rattle.octets.proofs.Conditions.{and_both}
use Rattle.octets.proofs.Rules.{or_left, or_right, and_yes, pick_holds}
use Rattle.apdu.specs.declared.instructions.Plain.{Plain}
use Rattle.apdu.specs.declared.instructions.Plain.TheVariants.{Select, InitializeUpdate, ExternalAuthenticate, VerifyPin, GetData, ReadRecord}
use Rattle.apdu.specs.declared.instructions.Signed.{Signed}
use Rattle.apdu.specs.declared.instructions.Signed.TheVariants.{PutKey, PinChange, StoreData, InitializeTransaction, CompleteTransaction, PutData}
use Rattle.apdu.specs.declared.instructions.Instruction.{Instruction}
use Rattle.apdu.specs.declared.instructions.Instruction.TheVariants.{IsPlain, IsSigned}
use Rattle.apdu.specs.declared.refusals.Refusal.{Refusal}
use Rattle.apdu.specs.declared.refusals.Refusal.TheVariants.{UnknownInstruction, UnknownClass}
use Rattle.apdu.specs.Instructions.{of00, of80, of84, of94, instruction}
use Rattle.apdu.specs.Parameters.{are, is_set, is_tag, plain_parameters, signed_parameters, has_record}
use Rattle.apdu.specs.Lengths.{plain_length, signed_length}

-- ---- CLA and INS

-- the two bytes of each command without a C-MAC of step 6
abbrev pub PlainCode : Plain → ℕ → ℕ → Type 0
PlainCode Select cla ins = (cla ≡ 0x00) × (ins ≡ 0xA4)
PlainCode InitializeUpdate cla ins = (cla ≡ 0x80) × (ins ≡ 0x50)
PlainCode ExternalAuthenticate cla ins = (cla ≡ 0x84) × (ins ≡ 0x82)
PlainCode VerifyPin cla ins = (cla ≡ 0x94) × (ins ≡ 0x20)
PlainCode GetData cla ins = (cla ≡ 0x80) × (ins ≡ 0xCA)
PlainCode ReadRecord cla ins = (cla ≡ 0x00) × (ins ≡ 0xB2)

-- and of each signed one
abbrev pub SignedCode : Signed → ℕ → ℕ → Type 0
SignedCode PutKey cla ins = (cla ≡ 0x84) × (ins ≡ 0xD8)
SignedCode PinChange cla ins = (cla ≡ 0x84) × (ins ≡ 0x24)
SignedCode StoreData cla ins = (cla ≡ 0x84) × (ins ≡ 0xE2)
SignedCode InitializeTransaction cla ins = (cla ≡ 0x94) × (ins ≡ 0x44)
SignedCode CompleteTransaction cla ins = (cla ≡ 0x94) × (ins ≡ 0x46)
SignedCode PutData cla ins = (cla ≡ 0x84) × (ins ≡ 0xDA)

-- the known classes
pub data Class (cla : ℕ) : Type 0 where
  class00 : cla ≡ 0x00 → Class cla
  class80 : cla ≡ 0x80 → Class cla
  class84 : cla ≡ 0x84 → Class cla
  class94 : cla ≡ 0x94 → Class cla

-- the bytes of each command; "Unknown CLA", and "unknown INS, or an INS not of that CLA": a known CLA and no command's two bytes
abbrev pub Code : Result Instruction Refusal → ℕ → ℕ → Type 0
Code (Ok (IsPlain p)) cla ins = PlainCode p cla ins
Code (Ok (IsSigned g)) cla ins = SignedCode g cla ins
Code (Err UnknownClass) cla ins = Class cla → ⊥
Code (Err UnknownInstruction) cla ins = Class cla × ((p : Plain) → PlainCode p cla ins → ⊥) × ((g : Signed) → SignedCode g cla ins → ⊥)
Code (Err _) cla ins = ⊥

-- two bytes are those of the instruction that they name
coded : (i : Result Instruction Refusal) (cla ins : ℕ) → Code i cla ins → instruction cla ins ≡ i
unfolding instruction of00 of80 of84 of94
coded (Ok (IsPlain Select)) cla ins c = rw (c.0, c.1)
coded (Ok (IsPlain InitializeUpdate)) cla ins c = rw (c.0, c.1)
coded (Ok (IsPlain ExternalAuthenticate)) cla ins c = rw (c.0, c.1)
coded (Ok (IsPlain VerifyPin)) cla ins c = rw (c.0, c.1)
coded (Ok (IsPlain GetData)) cla ins c = rw (c.0, c.1)
coded (Ok (IsPlain ReadRecord)) cla ins c = rw (c.0, c.1)
coded (Ok (IsSigned PutKey)) cla ins c = rw (c.0, c.1)
coded (Ok (IsSigned PinChange)) cla ins c = rw (c.0, c.1)
coded (Ok (IsSigned StoreData)) cla ins c = rw (c.0, c.1)
coded (Ok (IsSigned InitializeTransaction)) cla ins c = rw (c.0, c.1)
coded (Ok (IsSigned CompleteTransaction)) cla ins c = rw (c.0, c.1)
coded (Ok (IsSigned PutData)) cla ins c = rw (c.0, c.1)
coded (Err UnknownClass) cla ins n =
    rw (ne_eqb cla 0x00 (λ e. n (class00 e)), ne_eqb cla 0x80 (λ e. n (class80 e)), ne_eqb cla 0x84 (λ e. n (class84 e)), ne_eqb cla 0x94 (λ e. n (class94 e)))
coded (Err UnknownInstruction) cla ins (class00 e, p, g) =
    rw (e, ne_eqb ins 0xA4 (λ f. p Select (e, f)), ne_eqb ins 0xB2 (λ f. p ReadRecord (e, f)))
coded (Err UnknownInstruction) cla ins (class80 e, p, g) =
    rw (e, ne_eqb ins 0x50 (λ f. p InitializeUpdate (e, f)), ne_eqb ins 0xCA (λ f. p GetData (e, f)))
coded (Err UnknownInstruction) cla ins (class84 e, p, g) =
    rw (e, ne_eqb ins 0x82 (λ f. p ExternalAuthenticate (e, f)), ne_eqb ins 0xD8 (λ f. g PutKey (e, f)), ne_eqb ins 0x24 (λ f. g PinChange (e, f)), ne_eqb ins 0xE2 (λ f. g StoreData (e, f)), ne_eqb ins 0xDA (λ f. g PutData (e, f)))
coded (Err UnknownInstruction) cla ins (class94 e, p, g) =
    rw (e, ne_eqb ins 0x20 (λ f. p VerifyPin (e, f)), ne_eqb ins 0x44 (λ f. g InitializeTransaction (e, f)), ne_eqb ins 0x46 (λ f. g CompleteTransaction (e, f)))
coded (Err _) cla ins n = absurd n

-- what the tests of a row tell: a command's two bytes, a known class, no known class
abbrev Told : ℕ → ℕ → Result Instruction Refusal → Type 0
Told cla ins (Ok (IsPlain p)) = PlainCode p cla ins
Told cla ins (Ok (IsSigned g)) = SignedCode g cla ins
Told cla ins (Err UnknownClass) = Class cla → ⊥
Told cla ins (Err UnknownInstruction) = Class cla
Told cla ins (Err _) = ⊥

no_class : (cla : ℕ) → eqb cla 0x00 ≡ false → eqb cla 0x80 ≡ false → eqb cla 0x84 ≡ false → eqb cla 0x94 ≡ false → Class cla → ⊥
no_class cla a b c d (class00 e) = eqb-false cla 0x00 a e
no_class cla a b c d (class80 e) = eqb-false cla 0x80 b e
no_class cla a b c d (class84 e) = eqb-false cla 0x84 c e
no_class cla a b c d (class94 e) = eqb-false cla 0x94 d e

told : (cla ins : ℕ) → Told cla ins (instruction cla ins)
unfolding instruction of00 of80 of84 of94
told cla ins =
    pick_holds (Told cla ins) (eqb cla 0x00) _ _
    (λ c.
    pick_holds (Told cla ins) (eqb ins 0xA4) _ _ (λ e. (eqb-true _ _ c, eqb-true _ _ e))
    (λ n. pick_holds (Told cla ins) (eqb ins 0xB2) _ _ (λ e. (eqb-true _ _ c, eqb-true _ _ e)) (λ e. class00 (eqb-true _ _ c))))
    (λ n0. pick_holds (Told cla ins) (eqb cla 0x80) _ _
    (λ c.
    pick_holds (Told cla ins) (eqb ins 0x50) _ _ (λ e. (eqb-true _ _ c, eqb-true _ _ e))
    (λ n. pick_holds (Told cla ins) (eqb ins 0xCA) _ _ (λ e. (eqb-true _ _ c, eqb-true _ _ e)) (λ e. class80 (eqb-true _ _ c))))
    (λ n1. pick_holds (Told cla ins) (eqb cla 0x84) _ _
    (λ c.
    pick_holds (Told cla ins) (eqb ins 0x82) _ _ (λ e. (eqb-true _ _ c, eqb-true _ _ e))
    (λ n. pick_holds (Told cla ins) (eqb ins 0xD8) _ _ (λ e. (eqb-true _ _ c, eqb-true _ _ e))
    (λ n. pick_holds (Told cla ins) (eqb ins 0x24) _ _ (λ e. (eqb-true _ _ c, eqb-true _ _ e))
    (λ n. pick_holds (Told cla ins) (eqb ins 0xE2) _ _ (λ e. (eqb-true _ _ c, eqb-true _ _ e))
    (λ n. pick_holds (Told cla ins) (eqb ins 0xDA) _ _ (λ e. (eqb-true _ _ c, eqb-true _ _ e)) (λ e. class84 (eqb-true _ _ c)))))))
    (λ n2. pick_holds (Told cla ins) (eqb cla 0x94) _ _
    (λ c.
    pick_holds (Told cla ins) (eqb ins 0x20) _ _ (λ e. (eqb-true _ _ c, eqb-true _ _ e))
    (λ n. pick_holds (Told cla ins) (eqb ins 0x44) _ _ (λ e. (eqb-true _ _ c, eqb-true _ _ e))
    (λ n. pick_holds (Told cla ins) (eqb ins 0x46) _ _ (λ e. (eqb-true _ _ c, eqb-true _ _ e)) (λ e. class94 (eqb-true _ _ c)))))
    (λ n3. no_class cla n0 n1 n2 n3))))

plain_known : (p : Plain) (i : Result Instruction Refusal) → i ≡ Ok (IsPlain p) → i ≡ Err UnknownInstruction → ⊥
plain_known p i e f = let z : ◌≡◌ {A = ℕ} 0 1 = cc in omega arith

signed_known : (g : Signed) (i : Result Instruction Refusal) → i ≡ Ok (IsSigned g) → i ≡ Err UnknownInstruction → ⊥
signed_known g i e f = let z : ◌≡◌ {A = ℕ} 0 1 = cc in omega arith

code : (i : Result Instruction Refusal) (cla ins : ℕ) → instruction cla ins ≡ i → Code i cla ins
code (Ok (IsPlain p)) cla ins e = rw e at (told cla ins)
code (Ok (IsSigned g)) cla ins e = rw e at (told cla ins)
code (Err UnknownClass) cla ins e = rw e at (told cla ins)
code (Err UnknownInstruction) cla ins e =
    let k : Class cla = rw e at (told cla ins) in
    (k, λ p c. plain_known p (instruction cla ins) (coded (Ok (IsPlain p)) cla ins c) e, λ g c. signed_known g (instruction cla ins) (coded (Ok (IsSigned g)) cla ins c) e)
code (Err _) cla ins e = rw e at (told cla ins)

-- step 2: each command by its two bytes and by no others; every other pair is unknown, by its CLA or by its INS
pub instructions : (i : Result Instruction Refusal) (cla ins : ℕ) → (instruction cla ins ≡ i) ↔ Code i cla ins
instructions i cla ins = (code i cla ins, coded i cla ins)

-- a refusal of step 2 is one of these two
pub unknown : (P : Refusal → Type 0) → P UnknownClass → P UnknownInstruction → (cla ins : ℕ) (r : Refusal) → instruction cla ins ≡ Err r → P r
unknown P c i cla ins UnknownClass e = c
unknown P c i cla ins UnknownInstruction e = i
unknown P c i cla ins _ e = absurd (rw e at (told cla ins))

-- ---- P1 and P2

-- a tag of "What the card keeps"
pub data Tag (t : ℕ) : Type 0 where
  parameter : 0x01 ≤ t → t ≤ 0x07 → Tag t
  variable : 0x14 ≤ t → t ≤ 0x17 → Tag t

-- P1 and P2 of each command without a C-MAC of step 6; READ RECORD's P1 has a rule of its own
abbrev pub PlainP1P2 : Plain → ℕ → ℕ → Type 0
PlainP1P2 Select p1 p2 = (p1 ≡ 0x04) × (p2 ≡ 0x00)
PlainP1P2 InitializeUpdate p1 p2 = (1 ≤ p1) × (p1 ≤ 3) × (p2 ≡ 0x00)
PlainP1P2 ExternalAuthenticate p1 p2 = ((p1 ≡ 0x01) ⊎ (p1 ≡ 0x11)) × (p2 ≡ 0x00)
PlainP1P2 VerifyPin p1 p2 = (p1 ≡ 0x00) × (p2 ≡ 0x00)
PlainP1P2 GetData p1 p2 = (p1 ≡ 0x02) × Tag p2
PlainP1P2 ReadRecord p1 p2 = p2 ≡ 0x04

-- and of each signed one
abbrev pub SignedP1P2 : Signed → ℕ → ℕ → Type 0
SignedP1P2 PutKey p1 p2 = (p1 ≡ 0x00) × (1 ≤ p2) × (p2 ≤ 3)
SignedP1P2 PinChange p1 p2 = (p1 ≡ 0x00) × (p2 ≡ 0x00)
SignedP1P2 StoreData p1 p2 = (p1 ≡ 0x80) × (p2 ≡ 0x00)
SignedP1P2 InitializeTransaction p1 p2 = (p1 ≤ 0x02) × (p2 ≡ 0x00)
SignedP1P2 CompleteTransaction p1 p2 = (p1 ≡ 0x00) × (p2 ≡ 0x00)
SignedP1P2 PutData p1 p2 = (p1 ≡ 0x02) × Tag p2

-- one of two
one_of : (a b : Bool) → (a || b) ≡ true → (a ≡ true) ⊎ (b ≡ true)
one_of true b e = inl refl
one_of false b e = inr e

pair : (p1 p2 x y : ℕ) → (are p1 p2 x y ≡ true) ↔ ((p1 ≡ x) × (p2 ≡ y))
unfolding are
pair p1 p2 x y = (
  (λ e. let b = and_both (eqb p1 x) (eqb p2 y) e in (eqb-true p1 x b.0, eqb-true p2 y b.1)),
  (λ c. and_yes (eqb p1 x) (eqb p2 y) (eq-eqb p1 x c.0) (eq-eqb p2 y c.1)),
)

between : (a n b : ℕ) → ((leb a n && leb n b) ≡ true) ↔ ((a ≤ n) × (n ≤ b))
between a n b = (
  (λ e. let h = and_both (leb a n) (leb n b) e in (leb-true a n h.0, leb-true n b h.1)),
  (λ c. and_yes (leb a n) (leb n b) (le-leb a n c.0) (le-leb n b c.1)),
)

set_is : (n : ℕ) → (is_set n ≡ true) ↔ ((1 ≤ n) × (n ≤ 3))
unfolding is_set
set_is n = between 1 n 3

tag_told : (t : ℕ) → ((leb 0x01 t && leb t 0x07) ≡ true) ⊎ ((leb 0x14 t && leb t 0x17) ≡ true) → Tag t
tag_told t (inl e) = let h = (between 0x01 t 0x07).0 e in parameter h.0 h.1
tag_told t (inr e) = let h = (between 0x14 t 0x17).0 e in variable h.0 h.1

tag-tests : (t : ℕ) → Tag t → is_tag t ≡ true
unfolding is_tag
tag-tests t (parameter a b) = or_left (leb 0x01 t && leb t 0x07) (leb 0x14 t && leb t 0x17) ((between 0x01 t 0x07).1 (a, b))
tag-tests t (variable a b) = or_right (leb 0x01 t && leb t 0x07) (leb 0x14 t && leb t 0x17) ((between 0x14 t 0x17).1 (a, b))

-- "unknown tags too"
pub tags : (t : ℕ) → (is_tag t ≡ true) ↔ Tag t
unfolding is_tag
tags t = ((λ e. tag_told t (one_of _ _ e)), tag-tests t)

either_told : (n a b : ℕ) → (eqb n a ≡ true) ⊎ (eqb n b ≡ true) → (n ≡ a) ⊎ (n ≡ b)
either_told n a b (inl e) = inl (eqb-true n a e)
either_told n a b (inr e) = inr (eqb-true n b e)

either_tests : (n a b : ℕ) → (n ≡ a) ⊎ (n ≡ b) → (eqb n a || eqb n b) ≡ true
either_tests n a b (inl e) = or_left (eqb n a) (eqb n b) (eq-eqb n a e)
either_tests n a b (inr e) = or_right (eqb n a) (eqb n b) (eq-eqb n b e)

either : (n a b : ℕ) → ((eqb n a || eqb n b) ≡ true) ↔ ((n ≡ a) ⊎ (n ≡ b))
either n a b = ((λ e. either_told n a b (one_of _ _ e)), either_tests n a b)

equal : (n a : ℕ) → (eqb n a ≡ true) ↔ (n ≡ a)
equal n a = (eqb-true n a, eq-eqb n a)

-- step 4 of each command without a C-MAC of step 6
pub plain_parameters_lem : (p : Plain) (p1 p2 : ℕ) → (plain_parameters p p1 p2 ≡ true) ↔ PlainP1P2 p p1 p2
unfolding plain_parameters
plain_parameters_lem Select p1 p2 = pair p1 p2 0x04 0x00
plain_parameters_lem InitializeUpdate p1 p2 = (
  (λ e. let b = and_both _ _ e in let n = (set_is p1).0 b.1 in (n.0, n.1, eqb-true _ _ b.0)),
  (λ c. and_yes _ _ (eq-eqb _ _ c.2) ((set_is p1).1 (c.0, c.1))),
)
plain_parameters_lem ExternalAuthenticate p1 p2 = (
  (λ e. let b = and_both _ _ e in ((either p1 0x01 0x11).0 b.1, eqb-true _ _ b.0)),
  (λ c. and_yes _ _ (eq-eqb _ _ c.1) ((either p1 0x01 0x11).1 c.0)),
)
plain_parameters_lem VerifyPin p1 p2 = pair p1 p2 0x00 0x00
plain_parameters_lem GetData p1 p2 =
    ((λ e. let b = and_both _ _ e in (eqb-true _ _ b.0, (tags p2).0 b.1)), (λ c. and_yes _ _ (eq-eqb _ _ c.0) ((tags p2).1 c.1)))
plain_parameters_lem ReadRecord p1 p2 = equal p2 0x04

-- and of each signed one
pub signed_parameters_lem : (g : Signed) (p1 p2 : ℕ) → (signed_parameters g p1 p2 ≡ true) ↔ SignedP1P2 g p1 p2
unfolding signed_parameters
signed_parameters_lem PutKey p1 p2 = (
  (λ e. let b = and_both _ _ e in let n = (set_is p2).0 b.1 in (eqb-true _ _ b.0, n.0, n.1)),
  (λ c. and_yes _ _ (eq-eqb _ _ c.0) ((set_is p2).1 (c.1, c.2))),
)
signed_parameters_lem PinChange p1 p2 = pair p1 p2 0x00 0x00
signed_parameters_lem StoreData p1 p2 = pair p1 p2 0x80 0x00
signed_parameters_lem InitializeTransaction p1 p2 =
    ((λ e. let b = and_both _ _ e in (leb-true _ _ b.1, eqb-true _ _ b.0)), (λ c. and_yes _ _ (eq-eqb _ _ c.1) (le-leb _ _ c.0)))
signed_parameters_lem CompleteTransaction p1 p2 = pair p1 p2 0x00 0x00
signed_parameters_lem PutData p1 p2 =
    ((λ e. let b = and_both _ _ e in (eqb-true _ _ b.0, (tags p2).0 b.1)), (λ c. and_yes _ _ (eq-eqb _ _ c.0) ((tags p2).1 c.1)))

-- "P1 1 to log size .. Other P1: 6A83", of READ RECORD alone
abbrev pub Logged : Plain → ℕ → ℕ → Type 0
Logged Select p1 logsize = Unit {0}
Logged InitializeUpdate p1 logsize = Unit {0}
Logged ExternalAuthenticate p1 logsize = Unit {0}
Logged VerifyPin p1 logsize = Unit {0}
Logged GetData p1 logsize = Unit {0}
Logged ReadRecord p1 logsize = (1 ≤ p1) × (p1 ≤ logsize)

-- the rest of step 4
pub records : (p : Plain) (p1 logsize : ℕ) → (has_record p p1 logsize ≡ true) ↔ Logged p p1 logsize
unfolding has_record
records Select p1 logsize = ((λ e. tt), (λ u. refl))
records InitializeUpdate p1 logsize = ((λ e. tt), (λ u. refl))
records ExternalAuthenticate p1 logsize = ((λ e. tt), (λ u. refl))
records VerifyPin p1 logsize = ((λ e. tt), (λ u. refl))
records GetData p1 logsize = ((λ e. tt), (λ u. refl))
records ReadRecord p1 logsize = between 1 p1 logsize

-- ---- Lc

-- Lc of each command without a C-MAC of step 6: SELECT any, EXTERNAL AUTHENTICATE's cryptogram and C-MAC, none for those that read
abbrev pub PlainLc : Plain → ℕ → Type 0
PlainLc Select lc = Unit {0}
PlainLc InitializeUpdate lc = lc ≡ 8
PlainLc ExternalAuthenticate lc = lc ≡ 16
PlainLc VerifyPin lc = lc ≡ 8
PlainLc GetData lc = lc ≡ 0
PlainLc ReadRecord lc = lc ≡ 0

-- and of each signed one, with the eight bytes of the C-MAC: three keys, a PIN or nothing, TLVs, currency and amount, context, a value
abbrev pub SignedLc : Signed → ℕ → Type 0
SignedLc PutKey lc = lc ≡ 56
SignedLc PinChange lc = (lc ≡ 8) ⊎ (lc ≡ 16)
SignedLc StoreData lc = 8 ≤ lc
SignedLc InitializeTransaction lc = lc ≡ 12
SignedLc CompleteTransaction lc = lc ≡ 24
SignedLc PutData lc = 8 ≤ lc

-- step 5 of each command without a C-MAC of step 6
pub plain_lengths : (p : Plain) (lc : ℕ) → (plain_length p lc ≡ true) ↔ PlainLc p lc
unfolding plain_length
plain_lengths Select lc = ((λ e. tt), (λ u. refl))
plain_lengths InitializeUpdate lc = equal lc 8
plain_lengths ExternalAuthenticate lc = equal lc 16
plain_lengths VerifyPin lc = equal lc 8
plain_lengths GetData lc = equal lc 0
plain_lengths ReadRecord lc = equal lc 0

-- and of each signed one
pub signed_lengths : (g : Signed) (lc : ℕ) → (signed_length g lc ≡ true) ↔ SignedLc g lc
unfolding signed_length
signed_lengths PutKey lc = equal lc 56
signed_lengths PinChange lc = either lc 8 16
signed_lengths StoreData lc = (leb-true 8 lc, le-leb 8 lc)
signed_lengths InitializeTransaction lc = equal lc 12
signed_lengths CompleteTransaction lc = equal lc 24
signed_lengths PutData lc = (leb-true 8 lc, le-leb 8 lc)
