-- Start-up, by its tests. Assumes nothing.
use Prim.Native.Nat.{ℕ}
use mathlib.Core.Bool.{Bool, true, false, not}
use mathlib.Core.List.{List, []}
use mathlib.Core.Path.{◌≡◌}
use Rattle.std.specs.Prelude.{Some, None, is_none}
use lib.Dec.{eqb}
use lib.ListN.{length}
use Rattle.octets.specs.Choice.{pick}
use Rattle.memory.specs.Layout.{memory_size}
use Rattle.memory.specs.Reading.{readable, head_in, reading}
use Rattle.session.specs.declared.Session.{Session}
use Rattle.session.specs.Transitions.{unselected}
use Rattle.purse_spec.specs.Calls.{Run, refusal}
use Rattle.purse_spec.specs.Startup.{startup}
use Rattle.purse_spec.proofs.Performed.{performed-nothing}
use Rattle.purse.specs.declared.calls.Answer.{Answer}
use Rattle.purse.specs.declared.calls.Called.{Called}
use Rattle.purse.specs.Called.{number_of, Gives, storeless}
use Rattle.purse.proofs.Outcomes.{refusal_gives}

-- what start-up gives, by its answer
pub start_by : (m : List ℕ) (limit : ℕ) (r : Called Answer) (a : Answer) (s : Session) → r ≡ storeless a s → s ≡ unselected
    → number_of a ≡ pick (not (eqb (length m) memory_size)) 1 (pick (is_none (reading m)) 2 0) → Gives (startup m limit) r m []
unfolding startup reading refusal
start_by m limit r a s q u e = rw (q, u, performed-nothing) (go (eqb (length m) memory_size) (readable m) e)
  where
    refused : ℕ → Run
    refused n = refusal n unselected m []

    go : (b c : Bool) → number_of a ≡ pick (not b) 1 (pick (is_none (pick c (Some (head_in m)) None)) 2 0)
        → Gives (pick (not b) (refused 1) (pick (not c) (refused 2) (refused 0))) (storeless a unselected) m []
    go true true p = refusal_gives a 0 unselected m [] p
    go true false p = refusal_gives a 2 unselected m [] p
    go false c p = refusal_gives a 1 unselected m [] p
