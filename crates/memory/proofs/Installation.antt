-- Installation: a cut one reads as before or as no card, a finished one as the fresh card. Assumes nothing.
use mathlib.Core.Path.{◌≡◌, refl, ap, ◌∙◌}
use mathlib.Core.Logic.{◌≢◌, ◌⊎◌, inl, inr}
use mathlib.Core.List.{List, [], ◌∷◌, ◌++◌}
use mathlib.Core.Option.{none, some}
use Prim.Native.Nat.{ℕ, zero, suc, ◌≤◌, ◌<◌}
use native.Mathlib.Omega.{arith}
use borrow.Author.Tests.{le-ltb}
use lib.ListN.{length, take, set, length-append}
use lib.Seq.{take-append-le, get_or-set_same}
use Rattle.stores.specs.Stores.{Store, applied, writes, leaves, OnlyAt}
use Rattle.stores.proofs.Plans.{only-append, only-writes, only-take}
use Rattle.stores.proofs.Parts.{byte_applied}
use Rattle.card.specs.declared.head.Aid.{Aid}
use Rattle.card.specs.declared.head.Fixed.{Fixed}
use Rattle.card.specs.declared.head.Keys.{Keys}
use Rattle.card.specs.Log.{void}
use Rattle.card.specs.Card.{fresh_head, fresh}
use Rattle.card.proofs.FreshCard.{Installable, fresh_proper}
use Rattle.memory.specs.Layout.{memory_size, magic, fixed_at, hot_at, cold_at, ring_at}
use Rattle.memory.specs.Structs.{fixed_bytes, hot_bytes}
use Rattle.memory.specs.Reading.{rows, read_card}
use Rattle.memory.specs.Changes.{root_store, image_plan, head_plan, install_plan}
use Rattle.memory.proofs.Ring.{rows_ext, rows_same}
use Rattle.memory.proofs.Seen.{size_of}
use Rattle.memory.proofs.Cards.{read_none}
use Rattle.memory.proofs.Images.{size_is, image_reads}

-- ---- cut

-- the magic byte goes first and comes last
off_on : (body : List Store) (L : ℕ) (m : List ℕ) → 0 < length m → OnlyAt (λ a. 0 ≢ a) body
    → L < length (record { at = 0; value = 0 } ∷ (body ++ record { at = 0; value = magic } ∷ []))
    → (read_card (leaves (record { at = 0; value = 0 } ∷ (body ++ record { at = 0; value = magic } ∷ [])) L m) ≡ read_card m)
    ⊎ (read_card (leaves (record { at = 0; value = 0 } ∷ (body ++ record { at = 0; value = magic } ∷ [])) L m) ≡ none)
unfolding applied leaves
off_on body zero m h a k = inl refl
off_on body (suc L) m h a k =
    let n : L ≤ length body = omega (arith, length-append body (record { at = 0; value = magic } ∷ [])) in
    inr
    (rw (take-append-le L body (record { at = 0; value = magic } ∷ []))
    (read_none (applied (take L body) (set m 0 0))
    (λ e. let z = byte_applied (take L body) (set m 0 0) 0 (only-take (λ j. 0 ≢ j) L body a) ∙ get_or-set_same m 0 0 0 h in omega arith)))

image-cut : (fixed hot cold slots : List ℕ) (L : ℕ) (m : List ℕ) → 0 < length m → L < length (image_plan fixed hot cold slots)
    → (read_card (leaves (image_plan fixed hot cold slots) L m) ≡ read_card m) ⊎ (read_card (leaves (image_plan fixed hot cold slots) L m) ≡ none)
unfolding image_plan
image-cut fixed hot cold slots L m h k =
    let P : ℕ → Type 0 = λ a. 0 ≢ a in
    off_on (root_store 0 ++ writes fixed_at fixed ++ writes (hot_at 0) hot ++ writes (cold_at 0) cold ++ writes ring_at slots) L m h
    (only-append P (root_store 0 ++ writes fixed_at fixed ++ writes (hot_at 0) hot ++ writes (cold_at 0) cold) (writes ring_at slots)
    (only-append P (root_store 0 ++ writes fixed_at fixed ++ writes (hot_at 0) hot) (writes (cold_at 0) cold)
    (only-append P (root_store 0 ++ writes fixed_at fixed) (writes (hot_at 0) hot)
    (only-append P (root_store 0) (writes fixed_at fixed) (omega arith, tt) (only-writes P fixed_at fixed (λ i a b. omega arith)))
    (only-writes P (hot_at 0) hot (λ i a b. omega arith)))
    (only-writes P (cold_at 0) cold (λ i a b. omega arith)))
    (only-writes P ring_at slots (λ i a b. omega arith)))
    k

-- a cut installation reads as before, or as no card
pub install-cut : (fixed : Fixed) (aid : Aid) (admin : Keys) (m : List ℕ) → length m ≡ memory_size → (L : ℕ)
    → L < length (install_plan fixed aid admin)
    → (read_card (leaves (install_plan fixed aid admin) L m) ≡ read_card m) ⊎ (read_card (leaves (install_plan fixed aid admin) L m) ≡ none)
unfolding install_plan head_plan
install-cut fixed aid admin m e L h = image-cut _ _ _ [] L m (omega arith) h

-- a finished installation reads as the fresh card, whatever memory held
pub install-done : (fixed : Fixed) (aid : Aid) (admin : Keys) → Installable fixed aid admin → (m : List ℕ) → length m ≡ memory_size
    → read_card (applied (install_plan fixed aid admin) m) ≡ some (fresh fixed aid admin)
unfolding install_plan fresh fresh_head hot_bytes
install-done fixed aid admin q m e =
    let c = fresh fixed aid admin in
    let p = fresh_proper fixed aid admin q in
    image_reads c p 0 0 [] m (omega arith) e (omega arith) (omega arith)
    (rows_ext (size_of (fixed_bytes aid fixed)) _ (λ k. void) (λ k l. rw (le-ltb k 0 (omega arith)))
    ∙ ap (λ (n : ℕ). rows n (λ k. void)) (size_is c p 0 0 [] m (omega arith) e)
    ∙ rows_same fixed.logsize void)
