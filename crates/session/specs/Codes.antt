-- The numbers of key sets, of a channel's level and of what is pending, and the amount that is pending. Document 01: "Key sets: 1 debit,
-- 2 credit, 3 administration"; document 02, request 4: "the key set that opened the channel"; the others are the packed session's. Assumes
-- nothing.
use Rattle.std.specs.Prelude.{ℕ, ◌+◌, ◌-◌, ltb, eqb}
use Rattle.octets.specs.Choice.{pick}
use Rattle.session.specs.declared.Set.{Set}
use Rattle.session.specs.declared.Set.TheVariants.{Debit, Credit, Admin}
use Rattle.session.specs.declared.Level.{Level}
use Rattle.session.specs.declared.Level.TheVariants.{Closed, Mac, Rmac}
use Rattle.session.specs.declared.Pending.{Pending}
use Rattle.session.specs.declared.Pending.TheVariants.{Nothing, Update, Debiting, Crediting}

-- the number of a key set
unfoldable pub set_number : Set → ℕ
set_number Debit = 1
set_number Credit = 2
set_number Admin = 3

-- the key set of a number; the third for any but 1 and 2
unfoldable pub set_of : ℕ → Set
set_of n = pick (eqb n 1) Debit (pick (eqb n 2) Credit Admin)

-- the number of the key set that opened a channel, 0 where there is none
unfoldable pub opened_by : Level → ℕ
opened_by Closed = 0
opened_by (Mac set) = set_number set
opened_by (Rmac set) = set_number set

-- the number of a channel's level and key set, 00 where there is none
unfoldable pub level_number : Level → ℕ
level_number Closed = 0x00
level_number (Mac set) = set_number set
level_number (Rmac set) = 0x10 + set_number set

-- and back
unfoldable pub level_of : ℕ → Level
level_of n = pick (eqb n 0x00) Closed (pick (ltb n 0x10) (Mac (set_of n)) (Rmac (set_of (n - 0x10))))

-- the number of what is pending
unfoldable pub pending_number : Pending → ℕ
pending_number Nothing = 0
pending_number (Update set) = set_number set
pending_number (Debiting amount) = 4
pending_number (Crediting amount) = 5

-- the amount that is pending, 0 where none is
unfoldable pub amount_of : Pending → ℕ
amount_of Nothing = 0
amount_of (Update set) = 0
amount_of (Debiting amount) = amount
amount_of (Crediting amount) = amount

-- what is pending, by its number and amount
unfoldable pub pending_of : ℕ → ℕ → Pending
pending_of n amount =
    pick (eqb n 0) Nothing (pick (ltb n 4) (Update (set_of n)) (pick (eqb n 4) (Debiting amount) (Crediting amount)))
