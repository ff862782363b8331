-- Where a card lies in the 4,096 bytes; docs/LAYOUT.md has the table. Assumes nothing.
--   0 magic, which names this layout; 1 root; 2 the fixed part; 64 and 128 the copies of block H; 256 and 1,024 the copies of
--   block C; 2,048 the ring of log records, one slot more than the log's size.
-- Root bit 0 says which copy of H is live, bit 1 which copy of C. A change writes into what is not live, and turns the root last.
use Rattle.std.specs.Prelude.{Bool, cond, List, [], ◌∷◌, ℕ, suc, ◌+◌, ◌-◌, ◌*◌, ◌/◌, ◌%◌, leb}
use Rattle.octets.specs.Choice.{pick}
use Rattle.card.specs.Log.{record_size}

-- 01: "4,096-byte card memory"
abbrev pub memory_size : ℕ
memory_size = 4096

-- the byte that names this layout
abbrev pub magic : ℕ
magic = 0xD2

-- those that named layouts before it: D1 had records of 24 bytes
abbrev pub older_magics : List ℕ
older_magics = 0xD1 ∷ []

-- where the root is
abbrev pub root_at : ℕ
root_at = 1

-- where the fixed part starts
abbrev pub fixed_at : ℕ
fixed_at = 2

-- where the live copy of H starts under a root
abbrev pub hot_at : ℕ → ℕ
hot_at root = 64 + 64 * (root % 2)

-- the same of C
abbrev pub cold_at : ℕ → ℕ
cold_at root = 256 + 768 * (root / 2 % 2)

-- where the ring starts
abbrev pub ring_at : ℕ
ring_at = 2048

-- the root under which the other copy of H is live, and the other copy of C where that was written
abbrev pub next_root : Bool → ℕ → ℕ
next_root cold root = pick cold (1 - root / 2 % 2) (root / 2 % 2) * 2 + (1 - root % 2)

-- of a ring of size + 1 slots, the slot of the record that k newer ones follow; k = size is the spare slot
unfoldable pub slot : ℕ → ℕ → ℕ → ℕ
slot size newest k = cond (leb k newest) (newest - k) (newest + suc size - k)

-- where a slot starts
abbrev pub slot_at : ℕ → ℕ
slot_at j = ring_at + record_size * j
