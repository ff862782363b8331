-- Step 5 of document 01's order, "Lc: 6700": "Lc wrong for fixed-length data, none included, or under 8 where signed: 6700".
-- Assumes nothing.
use Rattle.std.specs.Prelude.{Bool, true, ◌||◌, ℕ, ◌+◌, leb, eqb}
use Rattle.apdu.specs.declared.instructions.Plain.{Plain}
use Rattle.apdu.specs.declared.instructions.Plain.TheVariants.{Select, InitializeUpdate, ExternalAuthenticate}
use Rattle.apdu.specs.declared.instructions.Plain.TheVariants.{VerifyPin, GetData, ReadRecord}
use Rattle.apdu.specs.declared.instructions.Signed.{Signed}
use Rattle.apdu.specs.declared.instructions.Signed.TheVariants.{PutKey, PinChange, StoreData}
use Rattle.apdu.specs.declared.instructions.Signed.TheVariants.{InitializeTransaction, CompleteTransaction, PutData}

-- a C-MAC's bytes, the last of a signed command's data
abbrev pub mac_size : ℕ
mac_size = 8

-- whether Lc is right for a command without a C-MAC
unfoldable pub plain_length : Plain → ℕ → Bool
plain_length Select lc = true
plain_length InitializeUpdate lc = eqb lc 8
plain_length ExternalAuthenticate lc = eqb lc (8 + mac_size)
plain_length VerifyPin lc = eqb lc 8
plain_length GetData lc = eqb lc 0
plain_length ReadRecord lc = eqb lc 0

-- whether Lc, which counts the C-MAC, is right for a command with one
unfoldable pub signed_length : Signed → ℕ → Bool
signed_length PutKey lc = eqb lc (48 + mac_size)
signed_length PinChange lc = eqb lc mac_size || eqb lc (8 + mac_size)
signed_length StoreData lc = leb mac_size lc
signed_length InitializeTransaction lc = eqb lc (4 + mac_size)
signed_length CompleteTransaction lc = eqb lc (16 + mac_size)
signed_length PutData lc = leb mac_size lc
