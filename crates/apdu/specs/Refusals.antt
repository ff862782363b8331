-- The status words of document 01 that refuse, and the one that doesn't, 9000. Assumes nothing.
use Rattle.std.specs.Prelude.{ℕ, Result, Ok, Err}
use Rattle.apdu.specs.declared.refusals.Refusal.{Refusal}
use Rattle.apdu.specs.declared.refusals.Refusal.TheVariants.{NotAuthenticated, WrongLength, SecurityNotSatisfied, NoTriesLeft, ConditionsNotSatisfied}
use Rattle.apdu.specs.declared.refusals.Refusal.TheVariants.{WrongData, FeatureMissing, UnknownApplication, UnknownRecord, DataPastEnd, WrongParameters}
use Rattle.apdu.specs.declared.refusals.Refusal.TheVariants.{UndefinedKeySet, UnknownInstruction, UnknownClass}
use Rattle.apdu.specs.declared.refusals.Refusal.TheVariants.{NumberAtMaximum, WrongCurrency, AmountNotAboveZero, DebitAboveLimit, CreditAboveLimit}

-- the status word of each refusal
abbrev pub refusal_word : Refusal → ℕ
refusal_word NotAuthenticated = 0x6300
refusal_word WrongLength = 0x6700
refusal_word SecurityNotSatisfied = 0x6982
refusal_word NoTriesLeft = 0x6983
refusal_word ConditionsNotSatisfied = 0x6985
refusal_word WrongData = 0x6A80
refusal_word FeatureMissing = 0x6A81
refusal_word UnknownApplication = 0x6A82
refusal_word UnknownRecord = 0x6A83
refusal_word DataPastEnd = 0x6A85
refusal_word WrongParameters = 0x6A86
refusal_word UndefinedKeySet = 0x6A88
refusal_word UnknownInstruction = 0x6D00
refusal_word UnknownClass = 0x6E00
refusal_word NumberAtMaximum = 0x9410
refusal_word WrongCurrency = 0x9411
refusal_word AmountNotAboveZero = 0x9412
refusal_word DebitAboveLimit = 0x9413
refusal_word CreditAboveLimit = 0x9414

-- the status word of a step: its refusal's, or 9000
abbrev pub status_of : {A : Type 0} → Result A Refusal → ℕ
status_of (Ok a) = 0x9000
status_of (Err r) = refusal_word r
