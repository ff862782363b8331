-- How a card changes in memory. A change stores into what is not live, and the root last, so that a cut run reads as before and
-- a finished one as the changed card. Assumes nothing.
use Rattle.std.specs.Prelude.{Bool, true, Some, is_some, unwrap_or, option_map, List, [], ◌∷◌, ◌++◌, ◌≡◌, ℕ, suc, ◌+◌, ◌-◌, ltb, length, get_or}
use Rattle.octets.specs.Choice.{pick}
use Rattle.octets.specs.Bytes.{zeros}
use Rattle.stores.specs.Stores.{Store, applied, writes}
use Rattle.stores.specs.Fields.{joined}
use Rattle.card.specs.declared.head.Aid.{Aid}
use Rattle.card.specs.declared.head.Fixed.{Fixed}
use Rattle.card.specs.declared.head.Keys.{Keys}
use Rattle.card.specs.declared.head.State.{State}
use Rattle.card.specs.declared.head.Head.{Head}
use Rattle.card.specs.declared.log.Record.{Record}
use Rattle.card.specs.declared.change.Change.{Change}
use Rattle.card.specs.Log.{record_size, void, record_bytes}
use Rattle.card.specs.Card.{Card, fresh_head}
use Rattle.memory.specs.Layout.{memory_size, magic, root_at, fixed_at, hot_at, cold_at, ring_at, next_root, slot, slot_at}
use Rattle.memory.specs.Structs.{fixed_size, fixed_bytes, hot_size, hot_bytes, newest_in, filled_in, cold_size, cold_bytes}
use Rattle.memory.specs.Reading.{root_of, hot_of, size_in, rows}

-- ---- what a change writes

-- the spare slot, which becomes the newest
abbrev pub spare : List ℕ → ℕ
spare m = slot (size_in m) (newest_in (hot_of m)) (size_in m)

-- one record more, at most the log's size
abbrev pub grown : ℕ → ℕ → ℕ
grown size filled = pick (ltb filled size) (filled + 1) filled

-- the newest slot afterwards
abbrev pub newest_after : Bool → List ℕ → ℕ
newest_after logs m = pick logs (spare m) (newest_in (hot_of m))

-- how many records were made afterwards
abbrev pub filled_after : Bool → List ℕ → ℕ
filled_after logs m = pick logs (grown (size_in m) (filled_in (hot_of m))) (filled_in (hot_of m))

-- block H of a state and a balance, with a log record or without
unfoldable pub hot_after : State → ℕ → Bool → List ℕ → List ℕ
hot_after s balance logs m = hot_bytes s (newest_after logs m) (filled_after logs m) balance

-- block H
abbrev pub hot_piece : Change → List ℕ → List ℕ
hot_piece x m = hot_after x.head.state x.head.purse.balance (is_some x.logged) m

-- the log record, where it logs
abbrev pub record_piece : Change → List ℕ
record_piece x = unwrap_or (option_map record_bytes x.logged) []

-- block C, where it is written
abbrev pub cold_piece : Change → List ℕ
cold_piece x = pick x.cold (cold_bytes x.head) []

-- the bytes of a change fill their places, as those of the structs do
pub record Fills (x : Change) : Type 0 where
  pub logged : (r : Record) → x.logged ≡ Some r → length (record_bytes r) ≡ record_size
  pub cold : x.cold ≡ true → length (cold_bytes x.head) ≡ cold_size

-- ---- its stores

-- the root, a single store
abbrev pub root_store : ℕ → List Store
root_store root = record { at = root_at; value = root } ∷ []

-- H's other copy, the spare slot, C's other copy, and then the root, which makes them live
unfoldable pub plan : Change → List ℕ → List Store
plan x m =
    let root = next_root x.cold (root_of m) in
    writes (hot_at root) (hot_piece x m) ++ writes (slot_at (spare m)) (record_piece x) ++ writes (cold_at root) (cold_piece x) ++ root_store root

-- how many stores a change has
abbrev pub store_count : Change → ℕ
store_count x = hot_size + pick (is_some x.logged) record_size 0 + pick x.cold cold_size 0 + 1

-- ---- a whole card, H and C in their first copies: the magic byte goes first and comes last

-- the magic byte off, the root, the fixed part and H
abbrev pub front_plan : List ℕ → List ℕ → List Store
front_plan fixed hot = record { at = 0; value = 0 } ∷ root_store 0 ++ writes fixed_at fixed ++ writes (hot_at 0) hot

-- then C and the slots, and the magic byte on
unfoldable pub image_plan : List ℕ → List ℕ → List ℕ → List ℕ → List Store
image_plan fixed hot cold slots =
    front_plan fixed hot ++ writes (cold_at 0) cold ++ writes ring_at slots ++ record { at = 0; value = magic } ∷ []

-- the same of a head, with the newest slot and the number of records
unfoldable pub head_plan : Head → ℕ → ℕ → List ℕ → List Store
head_plan h newest filled slots =
    image_plan (fixed_bytes h.purse.aid h.fixed) (hot_bytes h.state newest filled h.purse.balance) (cold_bytes h) slots

-- installation makes a fresh card on any memory; it writes no record
unfoldable pub install_plan : Fixed → Aid → Keys → List Store
install_plan fixed aid admin = head_plan (fresh_head fixed aid admin) 0 0 []

-- how many stores installation has: magic, root, fixed part, H, C, magic
abbrev pub install_count : ℕ
install_count = 1 + 1 + fixed_size + hot_size + cold_size + 1

-- the slots of a log, the newest record in the last one
unfoldable pub slot_bytes : ℕ → List Record → List ℕ
slot_bytes size log = joined (rows (suc size) (λ j. record_bytes (get_or log (size - j) void)))

-- a memory for a card
unfoldable pub image : Card → List ℕ
image c =
    let size = c.head.fixed.logsize in
    applied (head_plan c.head size size (slot_bytes size c.log)) (zeros memory_size)
