-- Document 02, request 1: "From now on P1 02 needs the PIN flag set, and access CREDIT or higher." Assumes nothing.
use mathlib.Core.Bool.{Bool, true}
use mathlib.Core.List.{List}
use mathlib.Core.Path.{◌≡◌, refl}
use Prim.Native.Nat.{ℕ}
use native.Mathlib.Omega.{arith}
use Rattle.octets.specs.Bytes.{byte_at}
use Rattle.card.specs.Card.{Card}
use Rattle.session.specs.declared.Set.{Set}
use Rattle.session.specs.declared.Level.TheVariants.{Rmac}
use Rattle.session.specs.declared.Session.{Session}
use Rattle.commands_spec.specs.Respond.{respond}
use Rattle.commands_spec.specs.Allowed.{Entitled, debit, cash_credit, cash_admin, bank-credit, bank-admin}
use Rattle.commands_spec.specs.Order.{AtLeastCredit, credit_rmac, admin_rmac}
use Rattle.commands_spec.proofs.OnlyGranted.{only_granted}

-- the flag, and a channel of set 2 or 3
bank : (p1 : ℕ) (set : Set) (flag : Bool) → Entitled p1 set flag → p1 ≡ 0x02 → (flag ≡ true) × AtLeastCredit (Rmac set)
bank p1 set flag (debit other f) e = absurd (omega arith)
bank p1 set flag (cash_credit f) e = absurd (omega arith)
bank p1 set flag (cash_admin f) e = absurd (omega arith)
bank p1 set flag bank-credit e = (refl, credit_rmac)
bank p1 set flag bank-admin e = (refl, admin_rmac)

-- on every card, in every session and for every command: where INITIALIZE TRANSACTION with P1 02 answers 9000, the flag was set and the
-- channel was opened by set 2 or 3
pub bank-credit_needs_pin : (c : Card) (s : Session) (command random : List ℕ) → byte_at command 0 ≡ 0x94 → byte_at command 1 ≡ 0x44
    → byte_at command 2 ≡ 0x02 → (respond c s command random).status ≡ 0x9000 → (s.verified ≡ true) × AtLeastCredit s.channel.level
bank-credit_needs_pin c s command random b0 b1 b2 e =
    let g = only_granted c s command random b0 b1 e in
    rw g.level (bank (byte_at command 2) g.set s.verified g.entitled b2)
