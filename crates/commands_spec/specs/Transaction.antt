-- The sums of a transaction: document 01, "Sums to prove (P), and slips". An amount is a signed number of two bytes; sums are of
-- unbounded numbers, so that none wraps. Assumes nothing.
use Rattle.std.specs.Prelude.{Bool, ◌||◌, ℕ, ◌+◌, ◌-◌, ◌%◌, ◌^◌, leb, eqb}
use Rattle.octets.specs.Choice.{pick}

-- "amount not above 0": 0000, and 8000 to FFFF, which are negative
unfoldable pub not_above_zero : ℕ → Bool
not_above_zero amount = eqb amount 0x0000 || leb 0x8000 amount

-- the balance after a debit or a credit
unfoldable pub new_balance : Bool → ℕ → ℕ → ℕ
new_balance debit amount balance = pick debit (balance - amount) (balance + amount)

-- the new balance stays between zero and the maximum balance
unfoldable pub keeps_limits : Bool → ℕ → ℕ → ℕ → Bool
keeps_limits debit amount balance maxbalance = pick debit (leb amount balance) (leb (balance + amount) maxbalance)

-- the amount as the log has it, "a debit negative", in two's complement
unfoldable pub log_amount : Bool → ℕ → ℕ
log_amount debit amount = pick debit ((2 ^ 16 - amount) % 2 ^ 16) amount
