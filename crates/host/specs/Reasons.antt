-- Document 01, "What a call can say", of a C host's calls: the reason of each answer, by lengths and bytes, in the order that decides.
-- Assumes nothing.
use Rattle.std.specs.Prelude.{true, List, ◌⊎◌, ◌≡◌, ℕ, ◌<◌, length}
use Rattle.std.proofs.Math.Option.{none}
use Rattle.memory.specs.Reading.{read_card}
use Rattle.session.specs.Packing.{unpacked}
use Rattle.commands_spec.specs.Order.{Rule}
use Rattle.purse_spec.specs.Calls.{awaits}
use Rattle.purse_spec.specs.History.{Call, install, start, send}
use Rattle.purse_spec.specs.Reasons.{InRange}
use Rattle.host.specs.Host.{Handed, install_call, start_call, command_call}

-- what a call gives on memory and a session area
unfoldable pub hosted : Call → List ℕ → List ℕ → Handed
hosted (install d limit) m area = install_call m area d limit
hosted (start limit) m area = start_call m area limit
hosted (send bytes random response limit) m area = command_call m area bytes random response limit

-- 1, 3, 4 and "8: session area is not 128 bytes or reads as no session"; "Installation and start-up test only that area's length"
unfoldable pub area_reasons : Call → List ℕ → List ℕ → (ℕ → Type 0) → ℕ → Type 0
area_reasons (install d limit) m area rest =
    Rule (length m ≡ 4096 → ⊥) 1
    (Rule (length area ≡ 128 → ⊥) 8
    rest)
area_reasons (start limit) m area rest =
    Rule (length m ≡ 4096 → ⊥) 1
    (Rule (length area ≡ 128 → ⊥) 8
    rest)
area_reasons (send bytes random response limit) m area rest =
    Rule (length m ≡ 4096 → ⊥) 1
    (Rule (length response < 32) 3
    (Rule (length random ≡ 8 → ⊥) 4
    (Rule ((length area ≡ 128 → ⊥) ⊎ (unpacked area ≡ none)) 8
    rest)))

-- 2, 5 and 6
unfoldable pub card_reasons : Call → List ℕ → (ℕ → Type 0) → ℕ → Type 0
card_reasons (install d limit) m rest =
    Rule (InRange d → ⊥) 6
    rest
card_reasons (start limit) m rest =
    Rule (read_card m ≡ none) 2
    rest
card_reasons (send bytes random response limit) m rest =
    Rule (read_card m ≡ none) 2
    (Rule (awaits m ≡ true) 5
    rest)

-- "Order: 1, 3, 4, 8, 2, 5, 6, as far as a call has the argument"
unfoldable pub host_reasons : Call → List ℕ → List ℕ → (ℕ → Type 0) → ℕ → Type 0
host_reasons x m area rest = area_reasons x m area (card_reasons x m rest)
