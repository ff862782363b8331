-- Start-up: it makes no store, since no memory awaits one. Assumes nothing.
use Rattle.std.specs.Prelude.{not, List, [], ℕ, eqb, length}
use Rattle.octets.specs.Choice.{pick}
use Rattle.memory.specs.Layout.{memory_size}
use Rattle.memory.specs.Reading.{readable}
use Rattle.session.specs.Transitions.{unselected}
use Rattle.purse_spec.specs.Calls.{Run, refusal, performed}

-- 1, then 2; "Start-up never answers 5"
unfoldable pub startup : List ℕ → ℕ → Run
startup m limit =
    pick (not (eqb (length m) memory_size)) (refusal 1 unselected m [])
    (pick (not (readable m)) (refusal 2 unselected m [])
    (performed [] limit m unselected [] []))
