-- What the stores of the code come to: the plans of a change and of the installation. Assumes nothing.
use mathlib.Core.Path.{◌≡◌, sym, ap, ◌∙◌, subst}
use mathlib.Core.List.{List, [], ◌∷◌, ◌++◌, append-nil}
use Prim.Native.Nat.{ℕ}
use Rattle.stores.specs.declared.Writer.{Writer}
use Rattle.stores.specs.Stores.{Store, writes}
use Rattle.stores.specs.Writing.{Makes}
use Rattle.stores.proofs.Sequence.{made_more}
use Rattle.card.specs.declared.head.Aid.{Aid}
use Rattle.card.specs.declared.head.Fixed.{Fixed}
use Rattle.card.specs.declared.head.Keys.{Keys}
use Rattle.card.specs.declared.head.Head.{Head}
use Rattle.card.specs.declared.change.Change.{Change}
use Rattle.card.specs.Card.{fresh_head}
use Rattle.memory.specs.Layout.{magic, fixed_at, hot_at, cold_at, next_root, slot_at}
use Rattle.memory.specs.Structs.{fixed_bytes, hot_bytes, cold_bytes}
use Rattle.memory.specs.Reading.{root_of}
use Rattle.memory.specs.Changes.{spare, hot_piece, record_piece, cold_piece, plan, front_plan, image_plan, head_plan, install_plan}

-- the four stores of a commit
pub committed : (x : Change) (m : List ℕ) {w w₁ w₂ w₃ w₄ : Writer} (next h s c : ℕ) (hot entry cold : List ℕ) → next ≡ next_root x.cold (root_of m)
    → h ≡ hot_at next → s ≡ slot_at (spare m) → c ≡ cold_at next → hot ≡ hot_piece x m → entry ≡ record_piece x → cold ≡ cold_piece x
    → Makes (writes h hot) w w₁ → Makes (writes s entry) w₁ w₂ → Makes (writes c cold) w₂ w₃ → Makes (writes 1 (next ∷ [])) w₃ w₄
    → Makes (plan x m) w w₄
unfolding plan writes
committed x m {w} {w₁} {w₂} {w₃} {w₄} next h s c hot entry cold en eh es ec ehot eentry ecold p q r t =
    let e : writes h hot ++ writes s entry ++ writes c cold ++ writes 1 (next ∷ []) ≡ plan x m =
    λ i. writes ((eh ∙ ap hot_at en) i) (ehot i) ++ writes (es i) (eentry i) ++ writes ((ec ∙ ap cold_at en) i) (ecold i) ++ writes 1 (en i ∷ [])
    in
    subst (λ (z : List Store). Makes z w w₄) e (made_more (made_more (made_more p q) r) t)

-- the six of an installation
pub installed : (f : Fixed) (aid : Aid) (k : Keys) {w w₁ w₂ w₃ w₄ w₅ w₆ : Writer} (head : Head) (h c : ℕ) (fixed hot cold : List ℕ)
    → head ≡ fresh_head f aid k → fixed ≡ fixed_bytes aid f → hot ≡ hot_bytes head.state 0 0 0 → cold ≡ cold_bytes head → h ≡ hot_at 0 → c ≡ cold_at 0
    → Makes (writes 0 (0 ∷ [])) w w₁ → Makes (writes 1 (0 ∷ [])) w₁ w₂ → Makes (writes fixed_at fixed) w₂ w₃ → Makes (writes h hot) w₃ w₄
    → Makes (writes c cold) w₄ w₅ → Makes (writes 0 (magic ∷ [])) w₅ w₆ → Makes (install_plan f aid k) w w₆
unfolding install_plan head_plan image_plan fresh_head writes
installed f aid k {w} {w₁} {w₂} {w₃} {w₄} {w₅} {w₆} head h c fixed hot cold ehead efixed ehot ecold eh ec p q r s t u =
    let front = writes 0 (0 ∷ 0 ∷ []) in
    let body : List Store = front_plan (fixed_bytes aid f) (hot_bytes (fresh_head f aid k).state 0 0 0) ++ writes (cold_at 0) (cold_bytes (fresh_head f aid k)) in
    let e : front ++ writes fixed_at fixed ++ writes h hot ++ writes c cold ++ writes 0 (magic ∷ []) ≡ install_plan f aid k =
    (λ i. front ++ writes fixed_at (efixed i) ++ writes (eh i) ((ehot ∙ ap (λ (x : Head). hot_bytes x.state 0 0 0) ehead) i)
    ++ writes (ec i) ((ecold ∙ ap cold_bytes ehead) i) ++ writes 0 (magic ∷ []))
    ∙ ap (λ (z : List Store). z ++ writes 0 (magic ∷ [])) (sym (append-nil body))
    in
    subst (λ (z : List Store). Makes z w w₆) e (made_more (made_more (made_more (made_more (made_more p q) r) s) t) u)
