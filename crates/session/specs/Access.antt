-- Access: document 01, "PUBLIC, DEBIT (set 1), CREDIT (set 2), .. ADMIN (set 3), each including those below", and the security level. 01's
-- CREDIT-IDENT (set 2 and PIN validated) is no access any more: by request 1 of document 02 a bank credit needs CREDIT and the PIN flag,
-- in commands_spec's `InitializeTransaction.entitled`, and nothing else asked for it. Assumes nothing.
use Rattle.std.specs.Prelude.{Bool, true, false, ℕ}
use Rattle.session.specs.declared.access.Access.{Access}
use Rattle.session.specs.declared.access.Access.TheVariants as levels
use Rattle.session.specs.declared.Set.{Set}
use Rattle.session.specs.declared.Set.TheVariants.{Debit, Credit, Admin}
use Rattle.session.specs.declared.Level.{Level}
use Rattle.session.specs.declared.Level.TheVariants.{Closed, Mac, Rmac}

-- the access levels in 01's order
abbrev pub PUBLIC : ℕ
PUBLIC = 0

-- set 1
abbrev pub DEBIT : ℕ
DEBIT = 1

-- set 2
abbrev pub CREDIT : ℕ
CREDIT = 2

-- set 3
abbrev pub ADMIN : ℕ
ADMIN = 3

-- the number of an access level of the code
abbrev pub rank : Access → ℕ
rank levels.Public = PUBLIC
rank levels.Debit = DEBIT
rank levels.Credit = CREDIT
rank levels.Admin = ADMIN

-- what a key set gives
unfoldable pub access_of : Set → ℕ
access_of Debit = DEBIT
access_of Credit = CREDIT
access_of Admin = ADMIN

-- what a channel gives
unfoldable pub access : Level → ℕ
access Closed = PUBLIC
access (Mac set) = access_of set
access (Rmac set) = access_of set

-- whether there is a channel
unfoldable pub is_open : Level → Bool
is_open Closed = false
is_open (Mac set) = true
is_open (Rmac set) = true

-- whether its answers carry an R-MAC
unfoldable pub has_rmac : Level → Bool
has_rmac Closed = false
has_rmac (Mac set) = false
has_rmac (Rmac set) = true
