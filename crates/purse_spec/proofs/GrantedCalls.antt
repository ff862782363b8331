-- Demand 2 on memory: what `respond` answers with 9000 the call answers with 0 and 9000, on any memory that reads as that card and at limit
-- 65,535 or above. So each law of commands_spec that a command is not refused holds of the purse's calls. Assumes nothing.
use mathlib.Core.List.{List}
use mathlib.Core.Option.{some}
use mathlib.Core.Path.{◌≡◌, ◌∙◌}
use Prim.Native.Nat.{ℕ, ◌+◌, ◌-◌, ◌*◌, ◌≤◌}
use lib.ListN.{length}
use Rattle.octets.specs.Bytes.{byte_at}
use Rattle.card.specs.Card.{Card}
use Rattle.memory.specs.Reading.{read_card}
use Rattle.commands_spec.specs.Respond.{respond}
use Rattle.purse_spec.specs.Calls.{Run}
use Rattle.purse_spec.specs.History.{send, Situation, OfBytes, run}
use Rattle.purse_spec.proofs.Promised.{Typed}
use Rattle.purse_spec.proofs.DemandTwo.{demand_two}

-- a call that is done, with 9000 as the last two bytes of its response
pub record GrantedCall (r : Run) : Type 0 where
  pub answer : r.answer ≡ 0
  pub status : 256 * byte_at r.response (r.length - 2) + byte_at r.response (r.length - 1) ≡ 0x9000

pub granted_on-memory : (st : Situation) (c : Card) (bytes random area : List ℕ) (limit : ℕ) → (typed : Typed st) → (given : OfBytes (send bytes random area limit))
    → (reads : read_card st.memory ≡ some c) → (room : 32 ≤ length area) → (drawn : length random ≡ 8) → (uncut : 65535 ≤ limit)
    → (granted : (respond c st.session bytes random).status ≡ 0x9000)
    → GrantedCall (run (send bytes random area limit) st)
granted_on-memory st c bytes random area limit t f e a b k w =
    let m = demand_two st c bytes random area limit t f e a b k in
    record { answer = m.answer; status = m.status ∙ w }
