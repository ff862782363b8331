-- Step 2 of document 01's order: "Unknown CLA 6E00; unknown INS, or an INS not of that CLA, 6D00", and the heads of "The twelve
-- commands". Assumes nothing.
use Rattle.std.specs.Prelude.{ℕ, eqb, Result, Ok, Err}
use Rattle.octets.specs.Choice.{pick}
use Rattle.apdu.specs.declared.instructions.Plain.TheVariants.{Select, InitializeUpdate, ExternalAuthenticate}
use Rattle.apdu.specs.declared.instructions.Plain.TheVariants.{VerifyPin, GetData, ReadRecord}
use Rattle.apdu.specs.declared.instructions.Signed.TheVariants.{PutKey, PinChange, StoreData}
use Rattle.apdu.specs.declared.instructions.Signed.TheVariants.{InitializeTransaction, CompleteTransaction, PutData}
use Rattle.apdu.specs.declared.instructions.Instruction.{Instruction}
use Rattle.apdu.specs.declared.instructions.Instruction.TheVariants.{IsPlain, IsSigned}
use Rattle.apdu.specs.declared.refusals.Refusal.{Refusal}
use Rattle.apdu.specs.declared.refusals.Refusal.TheVariants.{UnknownInstruction, UnknownClass}

-- the instructions of class 00
unfoldable pub of00 : ℕ → Result Instruction Refusal
of00 ins = pick (eqb ins 0xA4) (Ok (IsPlain Select)) (pick (eqb ins 0xB2) (Ok (IsPlain ReadRecord)) (Err UnknownInstruction))

-- of class 80
unfoldable pub of80 : ℕ → Result Instruction Refusal
of80 ins = pick (eqb ins 0x50) (Ok (IsPlain InitializeUpdate)) (pick (eqb ins 0xCA) (Ok (IsPlain GetData)) (Err UnknownInstruction))

-- of class 84
unfoldable pub of84 : ℕ → Result Instruction Refusal
of84 ins =
    pick (eqb ins 0x82) (Ok (IsPlain ExternalAuthenticate))
    (pick (eqb ins 0xD8) (Ok (IsSigned PutKey))
    (pick (eqb ins 0x24) (Ok (IsSigned PinChange))
    (pick (eqb ins 0xE2) (Ok (IsSigned StoreData))
    (pick (eqb ins 0xDA) (Ok (IsSigned PutData))
    (Err UnknownInstruction)))))

-- of class 94
unfoldable pub of94 : ℕ → Result Instruction Refusal
of94 ins =
    pick (eqb ins 0x20) (Ok (IsPlain VerifyPin))
    (pick (eqb ins 0x44) (Ok (IsSigned InitializeTransaction))
    (pick (eqb ins 0x46) (Ok (IsSigned CompleteTransaction))
    (Err UnknownInstruction)))

-- the instruction of a class and an instruction byte
unfoldable pub instruction : ℕ → ℕ → Result Instruction Refusal
instruction cla ins =
    pick (eqb cla 0x00) (of00 ins)
    (pick (eqb cla 0x80) (of80 ins)
    (pick (eqb cla 0x84) (of84 ins)
    (pick (eqb cla 0x94) (of94 ins)
    (Err UnknownClass))))
