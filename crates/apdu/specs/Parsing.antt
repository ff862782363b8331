-- Step 1 of document 01's order: "Under 4 bytes: 6700. Four bytes: no data. Five: Le only. Else byte 5 is Lc, 1 to 255, and the
-- length is 5+Lc or 6+Lc; otherwise 6700. Le is ignored." Assumes nothing.
use Rattle.std.specs.Prelude.{◌||◌, List, ℕ, ◌+◌, ltb, eqb, length, Result, Ok, Err}
use Rattle.octets.specs.Choice.{pick}
use Rattle.octets.specs.Bytes.{byte_at, part}
use Rattle.apdu.specs.declared.parsing.Apdu.{Apdu}
use Rattle.apdu.specs.declared.refusals.Refusal.{Refusal}
use Rattle.apdu.specs.declared.refusals.Refusal.TheVariants.{WrongLength}

-- the command whose header leads the bytes, with lc bytes of data
abbrev pub headed : List ℕ → ℕ → Result Apdu Refusal
headed c lc = Ok (record { cla = byte_at c 0; ins = byte_at c 1; p1 = byte_at c 2; p2 = byte_at c 3; lc = lc })

-- what bytes are as a command
unfoldable pub parsed : List ℕ → Result Apdu Refusal
parsed c =
    pick (ltb (length c) 4) (Err WrongLength)
    (pick (ltb (length c) 6) (headed c 0)
    (pick (eqb (byte_at c 4) 0) (Err WrongLength)
    (pick (eqb (length c) (5 + byte_at c 4) || eqb (length c) (6 + byte_at c 4)) (headed c (byte_at c 4))
    (Err WrongLength))))

-- the data of a command
abbrev pub data_of : List ℕ → ℕ → List ℕ
data_of c lc = part c 5 lc
