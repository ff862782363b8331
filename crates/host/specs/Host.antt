-- The purse of a host program written in C: document 01, "through numbers and byte areas; there the session lies in a 128-byte area", and
-- answer 8, "C host only: session area is not 128 bytes or reads as no session". Assumes nothing.
use Rattle.std.specs.Prelude.{not, List, [], ℕ, ◌+◌, ◌*◌, ltb, eqb, length}
use Rattle.std.proofs.Math.Option.{Option, none, some}
use Rattle.octets.specs.Choice.{pick}
use Rattle.octets.specs.Bytes.{zeros}
use Rattle.memory.specs.Layout.{memory_size}
use Rattle.session.specs.declared.Session.{Session}
use Rattle.session.specs.Packing.{packed, unpacked}
use Rattle.purse_spec.specs.Calls.{Run}
use Rattle.purse_spec.specs.Installation.{installation}
use Rattle.purse_spec.specs.Startup.{startup}
use Rattle.purse_spec.specs.Commands.{least_area, command}

-- "session area is not 128 bytes"
abbrev pub session_size : ℕ
session_size = 128

-- what a call gives: a number, and its areas; where it has no response area, that is empty
pub record Handed : Type 0 where
  pub number : ℕ
  pub memory : List ℕ
  pub session : List ℕ
  pub response : List ℕ

-- of these
abbrev pub handed : ℕ → List ℕ → List ℕ → List ℕ → Handed
handed n m area response = record { number = n; memory = m; session = area; response = response }

-- the number: the answer in its lowest byte, the response's length in the next, the reported stores above
unfoldable pub number : ℕ → ℕ → ℕ → ℕ
number answer size count = answer + 256 * size + 65536 * count

-- the session area afterwards: the session that is handed back, on 7 "all zeros", else what it was
unfoldable pub area_after : ℕ → Session → List ℕ → List ℕ
area_after answer s area = pick (eqb answer 0) (packed s) (pick (eqb answer 7) (zeros session_size) area)

-- a run of the purse, and the session area before it
unfoldable pub outcome : Run → List ℕ → Handed
outcome r area =
    handed (number r.answer r.length r.count) r.memory (area_after r.answer r.session area) r.response

-- "Order: 1, .. 8": "Installation and start-up test only that area's length"
unfoldable pub length_tested : List ℕ → List ℕ → Run → Handed
length_tested m area r =
    pick (not (eqb (length m) memory_size)) (handed (number 1 0 0) m area [])
    (pick (not (eqb (length area) session_size)) (handed (number 8 0 0) m area [])
    (outcome r area))

-- an installation
unfoldable pub install_call : List ℕ → List ℕ → List ℕ → ℕ → Handed
install_call m area d limit = length_tested m area (installation m d limit)

-- a start-up
unfoldable pub start_call : List ℕ → List ℕ → ℕ → Handed
start_call m area limit = length_tested m area (startup m limit)

-- a command under the session that its area reads as; 8 where it reads as none, which no area of another length does
unfoldable pub in_session : Option Session → List ℕ → List ℕ → List ℕ → List ℕ → List ℕ → ℕ → Handed
in_session none m area bytes random response limit = handed (number 8 0 0) m area response
in_session (some s) m area bytes random response limit = outcome (command m s bytes random response limit) area

-- "Order: 1, 3, 4, 8", then the command
unfoldable pub command_call : List ℕ → List ℕ → List ℕ → List ℕ → List ℕ → ℕ → Handed
command_call m area bytes random response limit =
    pick (not (eqb (length m) memory_size)) (handed (number 1 0 0) m area response)
    (pick (ltb (length response) least_area) (handed (number 3 0 0) m area response)
    (pick (not (eqb (length random) 8)) (handed (number 4 0 0) m area response)
    (in_session (unpacked area) m area bytes random response limit)))
