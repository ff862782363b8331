-- The numbers of flags, key sets, levels and what is pending: each reads back as what it is the number of, and is a byte. Assumes nothing.
use Prim.Native.Nat.{ℕ, ◌≤◌, ◌<◌}
use mathlib.Core.Bool.{Bool}
use mathlib.Core.Path.{◌≡◌}
use native.Mathlib.Omega.{arith}
use borrow.Author.Rules.{rules}
use lib.Dec.{eqb}
use Rattle.session.specs.declared.Set.{Set}
use Rattle.session.specs.declared.Level.{Level}
use Rattle.session.specs.declared.Pending.{Pending}
use Rattle.octets.specs.Tests.{flag_byte}
use Rattle.session.specs.Codes.{set_number, set_of, level_number, level_of, pending_number, amount_of, pending_of}

-- ---- read back

pub flag_read : (b : Bool) → eqb (flag_byte b) 1 ≡ b
flag_read b = search rules

pub set_read : (set : Set) → set_of (set_number set) ≡ set
unfolding set_of set_number
set_read set = search rules

pub level_read : (level : Level) → level_of (level_number level) ≡ level
unfolding level_of level_number set_of set_number
level_read level = search rules

pub pending_read : (pending : Pending) → pending_of (pending_number pending) (amount_of pending) ≡ pending
unfolding pending_of pending_number amount_of set_of set_number
pending_read pending = search rules

-- ---- small

pub set_small : (set : Set) → set_number set < 4
unfolding set_number
set_small set = search (rules, arith)

pub set-least : (set : Set) → 1 ≤ set_number set
unfolding set_number
set-least set = search (rules, arith)

pub level_small : (level : Level) → level_number level < 256
unfolding level_number set_number
level_small level = search (rules, arith)

pub pending_small : (pending : Pending) → pending_number pending < 256
unfolding pending_number set_number
pending_small pending = search (rules, arith)

-- an amount that is read is one of two bytes
pub amount_small : (n amount : ℕ) → amount < 65536 → amount_of (pending_of n amount) < 65536
unfolding pending_of amount_of
amount_small n amount h = search (rules, arith)
