-- The card that memory reads as: document 01, "Readable", and document 02, request 4: "Memory written before this change is read as no
-- card." The reading depends on the 4,096 bytes alone. Assumes nothing.
use Rattle.std.specs.Prelude as std
use Rattle.std.specs.Prelude.{Bool, List, [], ◌∷◌, ◌++◌, ℕ, zero, suc, ltb, leb, eqb, length}
use Rattle.std.proofs.Math.Option.{Option, none, some}
use Rattle.octets.specs.Choice.{pick}
use Rattle.octets.specs.Tests.{all_true}
use Rattle.octets.specs.Bytes.{byte_at, part}
use Rattle.card.specs.declared.head.Head.{Head}
use Rattle.card.specs.declared.log.Record.{Record}
use Rattle.card.specs.Log.{record_size, void, record_in}
use Rattle.card.specs.Card.{Card}
use Rattle.card.specs.Proper.{proper_tests, log_ok}
use Rattle.memory.specs.Layout.{memory_size, magic, root_at, fixed_at, hot_at, cold_at, slot, slot_at}
use Rattle.memory.specs.Structs.{fixed_size, fixed_in, hot_size, newest_in, filled_in, cold_size, head_of}

-- ---- the live parts of memory

-- the root byte
abbrev pub root_of : List ℕ → ℕ
root_of m = byte_at m root_at

-- the fixed part
abbrev pub fixed_of : List ℕ → List ℕ
fixed_of m = part m fixed_at fixed_size

-- the live copy of H
abbrev pub hot_of : List ℕ → List ℕ
hot_of m = part m (hot_at (root_of m)) hot_size

-- the live copy of C
abbrev pub cold_of : List ℕ → List ℕ
cold_of m = part m (cold_at (root_of m)) cold_size

-- ---- what they say

-- the head that memory says
unfoldable pub head_in : List ℕ → Head
head_in m = head_of (fixed_of m) (hot_of m) (cold_of m)

-- the log's size
abbrev pub size_in : List ℕ → ℕ
size_in m = (fixed_in (fixed_of m)).logsize

-- the record that k newer ones follow
unfoldable pub record_at : List ℕ → ℕ → Record
record_at m k =
    pick (ltb k (filled_in (hot_of m)))
    (record_in (part m (slot_at (slot (size_in m) (newest_in (hot_of m)) k)) record_size))
    void

-- f 0, f 1, .., n of them
abbrev pub rows : {A : Type 0} → ℕ → (ℕ → A) → List A
rows zero f = []
rows (suc n) f = f 0 ∷ rows n (λ k. f (suc k))

-- the log that memory says
unfoldable pub log_in : List ℕ → List Record
log_in m = rows (size_in m) (record_at m)

-- ---- the reading

-- magic, root, newest slot and number of records are possible values; the log passes its test
unfoldable pub formed_tests : List ℕ → List Bool
formed_tests m =
    eqb (length m) memory_size ∷ eqb (byte_at m 0) magic ∷ ltb (root_of m) 4
    ∷ leb (newest_in (hot_of m)) (head_in m).fixed.logsize
    ∷ leb (filled_in (hot_of m)) (head_in m).fixed.logsize
    ∷ log_ok (head_in m).purse.parameters.personalized (log_in m) ∷ []

-- memory reads as a card
unfoldable pub readable : List ℕ → Bool
readable m = all_true (formed_tests m ++ proper_tests (head_in m))

-- no card, or a card
unfoldable pub read_card : List ℕ → Option Card
read_card m = pick (readable m) (some (record { head = head_in m; log = log_in m })) none

-- what the code hands back: the head of the card, if there is one
unfoldable pub reading : List ℕ → std.Option Head
reading m = pick (readable m) (std.Some (head_in m)) std.None
