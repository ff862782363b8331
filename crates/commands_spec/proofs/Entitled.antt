-- Who may start which transaction: a key set and the PIN flag are entitled exactly where the rule says so. Assumes nothing.
use mathlib.Core.Bool.{Bool, true, false, false≢true}
use mathlib.Core.Path.{◌≡◌, refl}
use Prim.Native.Nat.{ℕ, zero, suc, ◌≤◌}
use native.Mathlib.Omega.{arith}
use lib.Dec.{leb}
use Rattle.session.specs.declared.Set.{Set}
use Rattle.session.specs.declared.Set.TheVariants.{Debit, Credit, Admin}
use Rattle.session.specs.Access.{access_of}
use Rattle.commands_spec.specs.InitializeTransaction.{entitled}
use Rattle.commands_spec.specs.Allowed.{Entitled, debit, cash_credit, cash_admin, bank-credit, bank-admin}

-- P1 is one of the three, and the rule is kept
pub entitled-passes : (p1 : ℕ) (set : Set) (flag : Bool) → Entitled p1 set flag → (leb p1 0x02 ≡ true) × (entitled p1 (access_of set) flag ≡ true)
unfolding entitled access_of
entitled-passes p1 set flag (debit Debit f) = (refl, refl)
entitled-passes p1 set flag (debit Credit f) = (refl, refl)
entitled-passes p1 set flag (debit Admin f) = (refl, refl)
entitled-passes p1 set flag (cash_credit f) = (refl, refl)
entitled-passes p1 set flag (cash_admin f) = (refl, refl)
entitled-passes p1 set flag bank-credit = (refl, refl)
entitled-passes p1 set flag bank-admin = (refl, refl)

-- where it is kept for one of the three kinds, they are entitled
pub entitled_by : (p1 : ℕ) (set : Set) (flag : Bool) → p1 ≤ 2 → entitled p1 (access_of set) flag ≡ true → Entitled p1 set flag
unfolding entitled access_of
entitled_by zero set flag h e = debit set flag
entitled_by (suc zero) Debit flag h e = absurd (false≢true e)
entitled_by (suc zero) Credit flag h e = cash_credit flag
entitled_by (suc zero) Admin flag h e = cash_admin flag
entitled_by (suc (suc zero)) Debit true h e = absurd (false≢true e)
entitled_by (suc (suc zero)) Credit true h e = bank-credit
entitled_by (suc (suc zero)) Admin true h e = bank-admin
entitled_by (suc (suc zero)) set false h e = absurd (false≢true e)
entitled_by (suc (suc (suc n))) set flag h e = absurd (omega arith)
