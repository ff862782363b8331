-- Steps 3 to 5 in document 01's order: "Not selected (SELECT excepted): 6985"; "P1 or P2: 6A86 (unknown tags too); then READ RECORD's
-- 6A83"; "Lc: 6700". Each word exactly where its step is the first that refuses. Assumes nothing.
use mathlib.Core.Bool.{Bool, true, false, ◌||◌, false≢true}
use mathlib.Core.Logic.{◌↔◌}
use mathlib.Core.Path.{◌≡◌, refl}
use Prim.Native.Nat.{ℕ}
use native.Mathlib.Omega.{arith}
use Rattle.apdu.specs.declared.parsing.Apdu.{Apdu}
use Rattle.apdu.specs.declared.instructions.Plain.{Plain}
use Rattle.apdu.specs.declared.instructions.Plain.TheVariants.{Select, InitializeUpdate, ExternalAuthenticate, VerifyPin, GetData, ReadRecord}
use Rattle.apdu.specs.declared.instructions.Signed.{Signed}
use Rattle.apdu.specs.Parameters.{plain_parameters, signed_parameters, has_record}
use Rattle.apdu.specs.Lengths.{plain_length, signed_length}
use Rattle.apdu.specs.Early.{is_select, early_status, plain_status, signed_status}
use Rattle.apdu.proofs.Table.{PlainP1P2, SignedP1P2, Logged, PlainLc, SignedLc, plain_parameters_lem, signed_parameters_lem, records, plain_lengths, signed_lengths}

-- the status word of a command that is selected or may be, has the right P1 and P2, the record that it asks for, and the right Lc; or not
pub data Decides (Selected Parameters Recorded Long : Type 0) : ℕ → Type 0 where
  unselected : (Selected → ⊥) → Decides Selected Parameters Recorded Long 0x6985
  parameters : Selected → (Parameters → ⊥) → Decides Selected Parameters Recorded Long 0x6A86
  recorded : Selected → Parameters → (Recorded → ⊥) → Decides Selected Parameters Recorded Long 0x6A83
  long : Selected → Parameters → Recorded → (Long → ⊥) → Decides Selected Parameters Recorded Long 0x6700
  passed : Selected → Parameters → Recorded → Long → Decides Selected Parameters Recorded Long 0x9000

-- all four hold
pub record Fits (Selected Parameters Recorded Long : Type 0) : Type 0 where
  pub selected : Selected
  pub parameters : Parameters
  pub recorded : Recorded
  pub length : Long

module _ {S P R L : Type 0} where
  -- so 9000 goes on exactly where all four hold
  pub fits : {w : ℕ} → Decides S P R L w → w ≡ 0x9000 → Fits S P R L
  fits (unselected n) e = absurd (omega arith)
  fits (parameters s n) e = absurd (omega arith)
  fits (recorded s p n) e = absurd (omega arith)
  fits (long s p r n) e = absurd (omega arith)
  fits (passed s p r l) e = record { selected = s; parameters = p; recorded = r; length = l }

  pub goes_on_lem : {w : ℕ} → Decides S P R L w → Fits S P R L → w ≡ 0x9000
  goes_on_lem (unselected n) f = absurd (n f.selected)
  goes_on_lem (parameters s n) f = absurd (n f.parameters)
  goes_on_lem (recorded s p n) f = absurd (n f.recorded)
  goes_on_lem (long s p r n) f = absurd (n f.length)
  goes_on_lem (passed s p r l) f = refl

  -- and no two words are
  pub one_word : {w v : ℕ} → Decides S P R L w → Decides S P R L v → w ≡ v
  one_word (unselected a) (unselected x) = refl
  one_word (unselected a) (parameters x y) = absurd (a x)
  one_word (unselected a) (recorded x y z) = absurd (a x)
  one_word (unselected a) (long x y z v) = absurd (a x)
  one_word (unselected a) (passed x y z v) = absurd (a x)
  one_word (parameters a b) (unselected x) = absurd (x a)
  one_word (parameters a b) (parameters x y) = refl
  one_word (parameters a b) (recorded x y z) = absurd (b y)
  one_word (parameters a b) (long x y z v) = absurd (b y)
  one_word (parameters a b) (passed x y z v) = absurd (b y)
  one_word (recorded a b c) (unselected x) = absurd (x a)
  one_word (recorded a b c) (parameters x y) = absurd (y b)
  one_word (recorded a b c) (recorded x y z) = refl
  one_word (recorded a b c) (long x y z v) = absurd (c z)
  one_word (recorded a b c) (passed x y z v) = absurd (c z)
  one_word (long a b c d) (unselected x) = absurd (x a)
  one_word (long a b c d) (parameters x y) = absurd (y b)
  one_word (long a b c d) (recorded x y z) = absurd (z c)
  one_word (long a b c d) (long x y z v) = refl
  one_word (long a b c d) (passed x y z v) = absurd (d v)
  one_word (passed a b c d) (unselected x) = absurd (x a)
  one_word (passed a b c d) (parameters x y) = absurd (y b)
  one_word (passed a b c d) (recorded x y z) = absurd (z c)
  one_word (passed a b c d) (long x y z v) = absurd (v d)
  one_word (passed a b c d) (passed x y z v) = refl

  decides : (a b c d : Bool) → (a ≡ true) ↔ S → (b ≡ true) ↔ P → (c ≡ true) ↔ R → (d ≡ true) ↔ L → Decides S P R L (early_status a b c d)
  unfolding early_status
  decides false b c d s p r l = unselected (λ x. false≢true (s.1 x))
  decides true false c d s p r l = parameters (s.0 refl) (λ x. false≢true (p.1 x))
  decides true true false d s p r l = recorded (s.0 refl) (p.0 refl) (λ x. false≢true (r.1 x))
  decides true true true false s p r l = long (s.0 refl) (p.0 refl) (r.0 refl) (λ x. false≢true (l.1 x))
  decides true true true true s p r l = passed (s.0 refl) (p.0 refl) (r.0 refl) (l.0 refl)

-- "SELECT excepted"
abbrev pub Selected : Plain → Bool → Type 0
Selected Select selected = Unit {0}
Selected InitializeUpdate selected = selected ≡ true
Selected ExternalAuthenticate selected = selected ≡ true
Selected VerifyPin selected = selected ≡ true
Selected GetData selected = selected ≡ true
Selected ReadRecord selected = selected ≡ true

may : (p : Plain) (selected : Bool) → ((is_select p || selected) ≡ true) ↔ Selected p selected
unfolding is_select
may Select selected = ((λ e. tt), (λ u. refl))
may InitializeUpdate selected = ((λ e. e), (λ e. e))
may ExternalAuthenticate selected = ((λ e. e), (λ e. e))
may VerifyPin selected = ((λ e. e), (λ e. e))
may GetData selected = ((λ e. e), (λ e. e))
may ReadRecord selected = ((λ e. e), (λ e. e))

-- a command without a C-MAC of step 6
pub plain-order : (p : Plain) (selected : Bool) (a : Apdu) (logsize : ℕ)
    → Decides (Selected p selected) (PlainP1P2 p a.p1 a.p2) (Logged p a.p1 logsize) (PlainLc p a.lc) (plain_status p selected a logsize)
unfolding plain_status
plain-order p selected a logsize =
    decides (is_select p || selected) (plain_parameters p a.p1 a.p2) (has_record p a.p1 logsize) (plain_length p a.lc)
    (may p selected) (plain_parameters_lem p a.p1 a.p2) (records p a.p1 logsize) (plain_lengths p a.lc)

-- a signed one
pub signed-order : (g : Signed) (selected : Bool) (a : Apdu)
    → Decides (selected ≡ true) (SignedP1P2 g a.p1 a.p2) (Unit {0}) (SignedLc g a.lc) (signed_status g selected a)
unfolding signed_status
signed-order g selected a =
    decides selected (signed_parameters g a.p1 a.p2) true (signed_length g a.lc)
    ((λ e. e), (λ e. e)) (signed_parameters_lem g a.p1 a.p2) ((λ e. tt), (λ u. refl)) (signed_lengths g a.lc)
