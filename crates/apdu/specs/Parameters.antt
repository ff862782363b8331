-- Step 4 of document 01's order: "P1 or P2: 6A86 (unknown tags too); then READ RECORD's 6A83". Assumes nothing.
use Rattle.std.specs.Prelude.{Bool, true, ◌&&◌, ◌||◌, ℕ, leb, eqb}
use Rattle.apdu.specs.declared.instructions.Plain.{Plain}
use Rattle.apdu.specs.declared.instructions.Plain.TheVariants.{Select, InitializeUpdate, ExternalAuthenticate}
use Rattle.apdu.specs.declared.instructions.Plain.TheVariants.{VerifyPin, GetData, ReadRecord}
use Rattle.apdu.specs.declared.instructions.Signed.{Signed}
use Rattle.apdu.specs.declared.instructions.Signed.TheVariants.{PutKey, PinChange, StoreData}
use Rattle.apdu.specs.declared.instructions.Signed.TheVariants.{InitializeTransaction, CompleteTransaction, PutData}

-- P1 and P2 are x and y
unfoldable pub are : ℕ → ℕ → ℕ → ℕ → Bool
are p1 p2 x y = eqb p1 x && eqb p2 y

-- "set 1–3"
unfoldable pub is_set : ℕ → Bool
is_set n = leb 1 n && leb n 3

-- the tags of "What the card keeps"
unfoldable pub is_tag : ℕ → Bool
is_tag t = (leb 0x01 t && leb t 0x07) || (leb 0x14 t && leb t 0x17)

-- whether P1 and P2 are right for a command without a C-MAC
unfoldable pub plain_parameters : Plain → ℕ → ℕ → Bool
plain_parameters Select p1 p2 = are p1 p2 0x04 0x00
plain_parameters InitializeUpdate p1 p2 = eqb p2 0x00 && is_set p1
plain_parameters ExternalAuthenticate p1 p2 = eqb p2 0x00 && (eqb p1 0x01 || eqb p1 0x11)
plain_parameters VerifyPin p1 p2 = are p1 p2 0x00 0x00
plain_parameters GetData p1 p2 = eqb p1 0x02 && is_tag p2
plain_parameters ReadRecord p1 p2 = eqb p2 0x04

-- whether P1 and P2 are right for a command with a C-MAC
unfoldable pub signed_parameters : Signed → ℕ → ℕ → Bool
signed_parameters PutKey p1 p2 = eqb p1 0x00 && is_set p2
signed_parameters PinChange p1 p2 = are p1 p2 0x00 0x00
signed_parameters StoreData p1 p2 = are p1 p2 0x80 0x00
signed_parameters InitializeTransaction p1 p2 = eqb p2 0x00 && leb p1 0x02
signed_parameters CompleteTransaction p1 p2 = are p1 p2 0x00 0x00
signed_parameters PutData p1 p2 = eqb p1 0x02 && is_tag p2

-- READ RECORD: "P1 1 to log size .. Other P1: 6A83"
unfoldable pub has_record : Plain → ℕ → ℕ → Bool
has_record Select p1 logsize = true
has_record InitializeUpdate p1 logsize = true
has_record ExternalAuthenticate p1 logsize = true
has_record VerifyPin p1 logsize = true
has_record GetData p1 logsize = true
has_record ReadRecord p1 logsize = leb 1 p1 && leb p1 logsize
