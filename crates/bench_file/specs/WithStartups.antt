-- The calls of a bench file as a list of demand 3: where a call that is no start-up follows a torn one, a start-up is put between.
-- It makes no store and ends the session, which after answer 7 is the unselected one in any case. Assumes nothing.
use Rattle.std.specs.Prelude.{Bool, true, false, not, ◌&&◌, List, [], ◌∷◌, ◌≡◌}
use Rattle.octets.specs.Choice.{pick}
use Rattle.purse_spec.specs.History.{Call, start, Situation, is_start, is_install, next}
use Rattle.bench_file.specs.Lines.{Bench, ran, moved}

-- the state of demand 3 that the bench starts with
unfoldable pub state_of : Bench → Situation
state_of b = record { memory = b.memory; session = b.session; cut = false }

-- the bench behind a list of calls
unfoldable pub moved_all : List Call → Bench → Bench
moved_all [] b = b
moved_all (c ∷ cs) b = moved_all cs (moved c b)

-- "has no cut installation"
unfoldable pub NoneCut : List Call → Bench → Type 0
NoneCut [] b = Unit {0}
NoneCut (c ∷ cs) b = (is_install c ≡ true → (ran c b).answer ≡ 7 → ⊥) × NoneCut cs (moved c b)

-- the start-up that is put in
unfoldable pub inserted : Call
inserted = start 0xFFFF

-- "Start-ups alone follow each cut until one finishes": whether one is missing
unfoldable pub missing : Call → Situation → Bool
missing c st = st.cut && not (is_start c)

-- the calls, with the start-ups that are missing
unfoldable pub with_startups : List Call → Situation → List Call
with_startups [] st = []
with_startups (c ∷ cs) st =
    pick (missing c st) (inserted ∷ c ∷ with_startups cs (next c (next inserted st)))
    (c ∷ with_startups cs (next c st))

-- a file that "starts with a finished installation" and has no torn one
unfoldable pub StartsInstalled : List Call → Bench → Type 0
StartsInstalled [] b = ⊥
StartsInstalled (c ∷ cs) b = (is_install c ≡ true) × ((ran c b).answer ≡ 0) × NoneCut cs (moved c b)
