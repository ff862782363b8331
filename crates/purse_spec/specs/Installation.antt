-- Installation: document 01, "What the card keeps": "AID 5 to 16 bytes; log size 1 to 50; PIN tries 3 to 15; administration key set, 48
-- bytes (S-ENC, S-MAC, DEK, 16 each)", in the bench file's order: AID length, AID, log size, tries, keys. Assumes nothing.
use Rattle.std.specs.Prelude.{Bool, not, ◌&&◌, List, [], ℕ, ◌+◌, leb, eqb, length}
use Rattle.octets.specs.Choice.{pick}
use Rattle.octets.specs.Bytes.{byte_at, part, field}
use Rattle.card.specs.declared.head.Aid.{Aid}
use Rattle.card.specs.declared.head.Fixed.{Fixed}
use Rattle.card.specs.declared.head.Keys.{Keys}
use Rattle.card.specs.Keys.{keys_in}
use Rattle.memory.specs.Layout.{memory_size}
use Rattle.memory.specs.Changes.{install_plan}
use Rattle.session.specs.Transitions.{unselected}
use Rattle.purse_spec.specs.Calls.{Run, refusal, performed}

-- "a number out of range, too short or too long"
unfoldable pub data_ok : List ℕ → Bool
data_ok d =
    let n = byte_at d 0 in
    leb 5 n && leb n 16 && eqb (length d) (n + 51)
    && leb 1 (byte_at d (n + 1)) && leb (byte_at d (n + 1)) 50
    && leb 3 (byte_at d (n + 2)) && leb (byte_at d (n + 2)) 15

-- the AID that the data give, zeros after it
unfoldable pub data_aid : List ℕ → Aid
data_aid d = let n = byte_at d 0 in record { size = n; bytes = field (part d 1 n) 0 16 }

-- log size and tries
unfoldable pub data_fixed : List ℕ → Fixed
data_fixed d = let n = byte_at d 0 in record { logsize = byte_at d (n + 1); maxtries = byte_at d (n + 2) }

-- key set 3
unfoldable pub data_keys : List ℕ → Keys
data_keys d = keys_in (field d (byte_at d 0 + 3) 48)

-- 1, then 6; "Installation ignores what memory held"
unfoldable pub installation : List ℕ → List ℕ → ℕ → Run
installation m d limit =
    pick (not (eqb (length m) memory_size)) (refusal 1 unselected m [])
    (pick (not (data_ok d)) (refusal 6 unselected m [])
    (performed (install_plan (data_fixed d) (data_aid d) (data_keys d)) limit m unselected [] []))
