-- Steps 3 to 5 of document 01's order as rows of rules: "Not selected (SELECT excepted): 6985"; P1 and P2, then READ RECORD's 6A83; Lc.
-- Assumes nothing.
use Rattle.std.specs.Prelude.{Bool, true, false, not, ◌||◌, ℕ}
use Rattle.octets.specs.Choice.{refuse}
use Rattle.apdu.specs.declared.parsing.Apdu.{Apdu}
use Rattle.apdu.specs.declared.instructions.Plain.{Plain}
use Rattle.apdu.specs.declared.instructions.Plain.TheVariants.{Select, InitializeUpdate, ExternalAuthenticate}
use Rattle.apdu.specs.declared.instructions.Plain.TheVariants.{VerifyPin, GetData, ReadRecord}
use Rattle.apdu.specs.declared.instructions.Signed.{Signed}
use Rattle.apdu.specs.Parameters.{plain_parameters, signed_parameters, has_record}
use Rattle.apdu.specs.Lengths.{plain_length, signed_length}

-- whether a command is SELECT, the one that needs no selection
unfoldable pub is_select : Plain → Bool
is_select Select = true
is_select InitializeUpdate = false
is_select ExternalAuthenticate = false
is_select VerifyPin = false
is_select GetData = false
is_select ReadRecord = false

-- the row of rules
unfoldable pub early_status : Bool → Bool → Bool → Bool → ℕ
early_status selected parameters logged length =
    refuse (not selected) 0x6985
    (refuse (not parameters) 0x6A86
    (refuse (not logged) 0x6A83
    (refuse (not length) 0x6700
    0x9000)))

-- steps 3 to 5 of a command without a C-MAC, on a card with a log of logsize records
unfoldable pub plain_status : Plain → Bool → Apdu → ℕ → ℕ
plain_status p selected a logsize =
    early_status (is_select p || selected) (plain_parameters p a.p1 a.p2) (has_record p a.p1 logsize) (plain_length p a.lc)

-- steps 3 to 5 of a command with a C-MAC
unfoldable pub signed_status : Signed → Bool → Apdu → ℕ
signed_status g selected a = early_status selected (signed_parameters g a.p1 a.p2) true (signed_length g a.lc)
