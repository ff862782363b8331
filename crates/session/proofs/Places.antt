-- The packed session byte by byte, as the head of `Packing` prints it: the mark, the flags, the numbers of level, key set and what is
-- pending, the keys and chains at their places. Assumes nothing.
use mathlib.Core.Bool.{Bool}
use mathlib.Core.List.{List}
use mathlib.Core.Path.{◌≡◌, refl, ◌∙◌}
use Prim.Native.Nat.{ℕ}
use borrow.Author.Rules.{rules}
use lib.ListN.{length}
use Rattle.octets.specs.Choice.{pick}
use Rattle.octets.specs.Bytes.{byte_at}
use Rattle.octets.specs.Words.{word_at}
use Rattle.octets.proofs.Numbers.{word_read}
use Rattle.session.specs.declared.Set.TheVariants.{Debit, Credit, Admin}
use Rattle.session.specs.declared.Level.{Level}
use Rattle.session.specs.declared.Level.TheVariants.{Closed, Mac, Rmac}
use Rattle.session.specs.declared.Pending.{Pending}
use Rattle.session.specs.declared.Pending.TheVariants.{Nothing, Update, Debiting, Crediting}
use Rattle.session.specs.declared.Session.{Session}
use Rattle.octets.specs.Tests.{flag_byte}
use Rattle.session.specs.Codes.{set_number, set_of, level_number, pending_number, amount_of}
use Rattle.session.specs.Packing.{packed}
use Rattle.session.proofs.Sizes.{Sized}
use Rattle.session.proofs.Reading.{Keyed, packed_octets, keyed}

-- ---- the numbers

-- "Key sets: 1 debit, 2 credit, 3 administration"
pub record Sets : Type 0 where
  pub debit : (set_number Debit ≡ 1) × (set_of 1 ≡ Debit)
  pub credit : (set_number Credit ≡ 2) × (set_of 2 ≡ Credit)
  pub admin : (set_number Admin ≡ 3) × (set_of 3 ≡ Admin)

-- so they are, both ways
pub sets_numbered : Sets
unfolding set_number set_of
sets_numbered = record { debit = (refl, refl); credit = (refl, refl); admin = (refl, refl) }

-- level 01 is the set's number, level 11 that with 10 before it, no channel 00
abbrev pub level_byte : Level → ℕ
level_byte Closed = 0x00
level_byte (Mac Debit) = 0x01
level_byte (Mac Credit) = 0x02
level_byte (Mac Admin) = 0x03
level_byte (Rmac Debit) = 0x11
level_byte (Rmac Credit) = 0x12
level_byte (Rmac Admin) = 0x13

-- what is pending: nothing 00, INITIALIZE UPDATE the set's number, a debit 04, a credit 05
abbrev pub pending_byte : Pending → ℕ
pending_byte Nothing = 0x00
pending_byte (Update Debit) = 0x01
pending_byte (Update Credit) = 0x02
pending_byte (Update Admin) = 0x03
pending_byte (Debiting amount) = 0x04
pending_byte (Crediting amount) = 0x05

-- the amount that is pending, 0 where none is
abbrev pub amount_word : Pending → ℕ
amount_word Nothing = 0
amount_word (Update set) = 0
amount_word (Debiting amount) = amount
amount_word (Crediting amount) = amount

level_is : (level : Level) → level_number level ≡ level_byte level
unfolding level_number set_number
level_is level = search rules

pending_is : (pending : Pending) → pending_number pending ≡ pending_byte pending
unfolding pending_number set_number
pending_is pending = search rules

amount-is : (pending : Pending) → amount_of pending ≡ amount_word pending
unfolding amount_of
amount-is pending = search rules

-- ---- the places

-- the 128 bytes l of a session s
pub record Places (s : Session) (l : List ℕ) : Type 0 where
  pub long : length l ≡ 128
  pub mark : byte_at l 0 ≡ 0x01
  pub selected : byte_at l 1 ≡ pick s.selected 0x01 0x00
  pub verified : byte_at l 2 ≡ pick s.verified 0x01 0x00
  pub level : byte_at l 3 ≡ level_byte s.channel.level
  pub pending : byte_at l 4 ≡ pending_byte s.pending
  pub amount : word_at l 5 ≡ amount_word s.pending
  pub zero : byte_at l 7 ≡ 0x00
  -- 8 ENC, 24 MAC, 40 last C-MAC, 48 last R-MAC; 56 the offer's ENC, 72 MAC, 88 host cryptogram; 96 zeros
  pub keys : Keyed s l

flag_is : (b : Bool) → flag_byte b ≡ pick b 0x01 0x00
flag_is b = search rules

-- every session's packing is so
pub packed-places : {s : Session} → Sized s → Places s (packed s)
unfolding packed
packed-places {s} h =
    record {
      long = (packed_octets h).size;
      mark = refl;
      selected = flag_is s.selected;
      verified = flag_is s.verified;
      level = level_is s.channel.level;
      pending = pending_is s.pending;
      amount = word_read (amount_of s.pending) ∙ amount-is s.pending;
      zero = refl;
      keys = keyed h;
    }
