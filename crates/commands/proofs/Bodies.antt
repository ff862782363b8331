-- The data of a command that passed steps 1 to 5: as long as its length test says, and within its bytes. Assumes nothing.
use Prim.Native.Nat.{ℕ, ◌+◌, ◌-◌, ◌≤◌, ◌<◌}
use mathlib.Core.Bool.{Bool, true, false, ◌||◌}
use mathlib.Core.List.{List}
use mathlib.Core.Path.{◌≡◌, refl, sym}
use native.Mathlib.Omega.{arith}
use native.Mathlib.Decide.{dec_le}
use native.Mathlib.Nat.{lt_of_not-le}
use borrow.Author.Tests.{eqb-true, leb-true}
use lib.Dec.{eqb}
use lib.ListN.{length}
use Rattle.octets.specs.Bytes.{part, field}
use Rattle.octets.proofs.Parts.{field-part}
use Rattle.apdu.specs.declared.parsing.Apdu.{Apdu}
use Rattle.std.specs.Prelude.{Ok}
use Rattle.apdu.specs.declared.instructions.Plain.{Plain}
use Rattle.apdu.specs.declared.instructions.Plain.TheVariants.{Select, InitializeUpdate, ExternalAuthenticate, VerifyPin, GetData, ReadRecord}
use Rattle.apdu.specs.declared.instructions.Signed.{Signed}
use Rattle.apdu.specs.declared.instructions.Signed.TheVariants.{PutKey, PinChange, StoreData, InitializeTransaction, CompleteTransaction, PutData}
use Rattle.apdu.specs.Parsing.{parsed, data_of}
use Rattle.apdu.specs.Lengths.{plain_length, signed_length, mac_size}
use Rattle.apdu.specs.Early.{early_status, plain_status, signed_status}
use Rattle.apdu.proofs.Shapes.{data_within}

-- a row of rules that lets pass has the length right
pub early_length : (s p l n : Bool) → early_status s p l n ≡ 0x9000 → n ≡ true
unfolding early_status
early_length true true true true e = refl
early_length true true true false e = absurd (omega (arith, e))
early_length true true false n e = absurd (omega (arith, e))
early_length true false l n e = absurd (omega (arith, e))
early_length false p l n e = absurd (omega (arith, e))

pub plain-length : (p : Plain) (b : Bool) (a : Apdu) (n : ℕ) → plain_status p b a n ≡ 0x9000 → plain_length p a.lc ≡ true
unfolding plain_status
plain-length p b a n e = early_length _ _ _ _ e

pub signed-length : (g : Signed) (b : Bool) (a : Apdu) → signed_status g b a ≡ 0x9000 → signed_length g a.lc ≡ true
unfolding signed_status
signed-length g b a e = early_length _ _ _ _ e

-- ---- what the length tests say of Lc

-- of a command without a C-MAC
abbrev pub PlainSize : Plain → ℕ → Type 0
PlainSize Select n = Unit {0}
PlainSize InitializeUpdate n = n ≡ 8
PlainSize ExternalAuthenticate n = n ≡ 16
PlainSize VerifyPin n = n ≡ 8
PlainSize GetData n = Unit {0}
PlainSize ReadRecord n = Unit {0}

pub plain_size : (p : Plain) (n : ℕ) → plain_length p n ≡ true → PlainSize p n
unfolding plain_length
plain_size Select n e = tt
plain_size InitializeUpdate n e = eqb-true n 8 e
plain_size ExternalAuthenticate n e = eqb-true n 16 e
plain_size VerifyPin n e = eqb-true n 8 e
plain_size GetData n e = tt
plain_size ReadRecord n e = tt

-- of one with a C-MAC
abbrev pub SignedSize : Signed → ℕ → Type 0
SignedSize PutKey n = n ≡ 48 + mac_size
SignedSize PinChange n = (n ≡ mac_size → ⊥) → n ≡ 8 + mac_size
SignedSize StoreData n = mac_size ≤ n
SignedSize InitializeTransaction n = n ≡ 4 + mac_size
SignedSize CompleteTransaction n = n ≡ 16 + mac_size
SignedSize PutData n = mac_size ≤ n

one_of : (a b : Bool) (n k m : ℕ) → (a ≡ true → n ≡ k) → (b ≡ true → n ≡ m) → (a || b) ≡ true → (n ≡ k → ⊥) → n ≡ m
one_of true b n k m f g e h = absurd (h (f refl))
one_of false b n k m f g e h = g e

pub signed-size : (g : Signed) (n : ℕ) → signed_length g n ≡ true → SignedSize g n
unfolding signed_length
signed-size PutKey n e = eqb-true n 56 e
signed-size PinChange n e = one_of (eqb n 8) (eqb n 16) n 8 16 (eqb-true n 8) (eqb-true n 16) e
signed-size StoreData n e = leb-true 8 n e
signed-size InitializeTransaction n e = eqb-true n 12 e
signed-size CompleteTransaction n e = eqb-true n 24 e
signed-size PutData n e = leb-true 8 n e

-- a signed command has its C-MAC
pub signed-least : (g : Signed) (n : ℕ) → signed_length g n ≡ true → mac_size ≤ n
signed-least g n e = least g (signed-size g n e)
  where
    least : (x : Signed) → SignedSize x n → mac_size ≤ n
    least PutKey h = omega (arith, h)
    least PinChange h = elim (dec_le 8 n) [ yes p ↦ p | no p ↦ absurd (omega (arith, h (λ q. omega (arith, q, lt_of_not-le p)), lt_of_not-le p)) ]
    least StoreData h = h
    least InitializeTransaction h = omega (arith, h)
    least CompleteTransaction h = omega (arith, h)
    least PutData h = h

-- ---- the data

module _ (c : List ℕ) (a : Apdu) (e : parsed c ≡ Ok a) where
  -- all of it, of a fixed length
  pub plain_body : (n : ℕ) → 0 < n → a.lc ≡ n → field c 5 n ≡ data_of c a.lc
  plain_body n p q = let z : n ≡ a.lc = sym q in rw z (field-part c 5 a.lc (data_within c a e (omega (arith, p, q))))

  -- what comes before the C-MAC
  pub signed_body : (n : ℕ) → a.lc ≡ n + mac_size → field c 5 n ≡ data_of c (a.lc - mac_size)
  signed_body n q =
      let z : a.lc - mac_size ≡ n = omega (arith, q) in
      rw z (field-part c 5 n (omega (arith, q, data_within c a e (omega (arith, q)))))

  -- it ends within the command, and the C-MAC with it
  pub mac-within : mac_size ≤ a.lc → 5 + (a.lc - mac_size) + mac_size ≤ length c
  mac-within h = omega (arith, h, data_within c a e (omega (arith, h)))

  -- the C-MAC itself
  pub mac-sent : mac_size ≤ a.lc → field c (5 + (a.lc - mac_size)) mac_size ≡ part c (5 + (a.lc - mac_size)) mac_size
  mac-sent h = field-part c (5 + (a.lc - mac_size)) mac_size (mac-within h)
