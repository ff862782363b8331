-- A cut change reads as before. Assumes nothing.
use mathlib.Core.Path.{◌≡◌, refl, ◌∙◌}
use mathlib.Core.List.{List, ◌++◌}
use mathlib.Core.Option.{some}
use Prim.Native.Nat.{ℕ, ◌<◌}
use lib.ListN.{length}
use Rattle.stores.specs.Stores.{leaves}
use Rattle.stores.proofs.Cut.{cut_reads_before}
use Rattle.card.specs.declared.change.Change.{Change}
use Rattle.card.specs.Card.{Card}
use Rattle.memory.specs.Layout.{next_root}
use Rattle.memory.specs.Reading.{root_of, read_card}
use Rattle.memory.specs.Changes.{Fills, root_store, plan}
use Rattle.memory.proofs.Seen.{Seen, view, Dead, kept, read_same, reads}
use Rattle.memory.proofs.Live.{body, plan_body, sound, body_dead}

cut_view : (x : Change) (m : List ℕ) (c : Card) → Fills x → read_card m ≡ some c → (L : ℕ) → L < length (plan x m)
    → view (leaves (plan x m) L m) ≡ view m
cut_view x m c w e L h =
    let r = root_store (next_root x.cold (root_of m)) in
    let k : L < length (body x m ++ r) = rw plan_body at h in
    rw (plan_body x m)
    (cut_reads_before Seen view Dead kept (body x m) r L m (body_dead m (sound m c (reads m c e)) x w) refl k)

-- a change, cut at any store, leaves the card as it was
pub change_cut : (x : Change) (m : List ℕ) (c : Card) → Fills x → read_card m ≡ some c → (L : ℕ) → L < length (plan x m)
    → read_card (leaves (plan x m) L m) ≡ some c
change_cut x m c w e L h = read_same m (leaves (plan x m) L m) (cut_view x m c w e L h) ∙ e
