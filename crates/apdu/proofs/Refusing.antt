-- The status words that refuse and 9000: a step's word is 9000 exactly where nothing refused. Assumes nothing.
use mathlib.Core.Bool.{false}
use mathlib.Core.Path.{◌≡◌, refl}
use borrow.Author.Tests.{eqb-false}
use lib.Dec.{eqb}
use Rattle.std.specs.Prelude.{Result, Ok, Err}
use Rattle.apdu.specs.declared.refusals.Refusal.{Refusal}
use Rattle.apdu.specs.declared.refusals.Refusal.TheVariants.{NotAuthenticated, WrongLength, SecurityNotSatisfied, NoTriesLeft, ConditionsNotSatisfied}
use Rattle.apdu.specs.declared.refusals.Refusal.TheVariants.{WrongData, FeatureMissing, UnknownApplication, UnknownRecord, DataPastEnd, WrongParameters}
use Rattle.apdu.specs.declared.refusals.Refusal.TheVariants.{UndefinedKeySet, UnknownInstruction, UnknownClass}
use Rattle.apdu.specs.declared.refusals.Refusal.TheVariants.{NumberAtMaximum, WrongCurrency, AmountNotAboveZero, DebitAboveLimit, CreditAboveLimit}
use Rattle.apdu.specs.Refusals.{refusal_word, status_of}

-- no refusal's word is 9000
pub word_refuses : (r : Refusal) → eqb (refusal_word r) 0x9000 ≡ false
word_refuses NotAuthenticated = refl
word_refuses WrongLength = refl
word_refuses SecurityNotSatisfied = refl
word_refuses NoTriesLeft = refl
word_refuses ConditionsNotSatisfied = refl
word_refuses WrongData = refl
word_refuses FeatureMissing = refl
word_refuses UnknownApplication = refl
word_refuses UnknownRecord = refl
word_refuses DataPastEnd = refl
word_refuses WrongParameters = refl
word_refuses UndefinedKeySet = refl
word_refuses UnknownInstruction = refl
word_refuses UnknownClass = refl
word_refuses NumberAtMaximum = refl
word_refuses WrongCurrency = refl
word_refuses AmountNotAboveZero = refl
word_refuses DebitAboveLimit = refl
word_refuses CreditAboveLimit = refl

-- with 9000 nothing refused
pub passed_step : {A : Type 0} (x : Result A Refusal) → status_of x ≡ 0x9000 → (a : A) × (x ≡ Ok a)
passed_step (Ok a) e = (a, refl)
passed_step (Err r) e = absurd (eqb-false (refusal_word r) 0x9000 (word_refuses r) e)
