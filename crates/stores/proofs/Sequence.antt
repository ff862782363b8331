-- Plans in a row under one limit, and the stores as the code makes them: each writer goes on with the room that the one before has left.
-- Assumes nothing.
use Prim.Native.Nat.{ℕ, zero, suc, ◌+◌, ◌-◌, ◌≤◌, ◌<◌}
use mathlib.Core.Path.{◌≡◌, refl, sym, ap, ◌∙◌}
use mathlib.Core.Logic.{◌≢◌}
use mathlib.Core.List.{List, [], ◌∷◌, ◌++◌}
use native.Mathlib.Decide.{dec_le}
use native.Mathlib.Nat.{sub-zero, suc-sub-suc, zero-sub, lt_of_not-le}
use Rattle.std.proofs.lemmas.List.{take_more}
use native.Mathlib.Omega.{arith}
use lib.ListN.{length, get_or, take, set, length-append}
use lib.Seq.{take_all, take-nil, take-append-le, length-take-le}
use Rattle.stores.specs.Stores.{Store, applied, writes, leaves}
use Rattle.stores.specs.declared.Writer.{Writer}
use Rattle.stores.specs.Writing.{Makes}
use Rattle.stores.proofs.Plans.{writes-append}
use Rattle.stores.proofs.Limits.{limit_zero, limit_enough}

-- two plans in a row
pub leaves-append : (p q : List Store) (L : ℕ) (m : List ℕ) → leaves (p ++ q) L m ≡ leaves q (L - length p) (leaves p L m)
unfolding applied leaves
leaves-append [] q L m = rw (sub-zero, take-nil {A = Store} L)
leaves-append (s ∷ p) q zero m = rw zero-sub
leaves-append (s ∷ p) q (suc L) m = rw suc-sub-suc (leaves-append p q L (set m s.at s.value))

-- a limit falls in the first plan
pub leaves-first : (p q : List Store) (L : ℕ) (m : List ℕ) → L ≤ length p → leaves (p ++ q) L m ≡ leaves p L m
unfolding leaves
leaves-first p q L m h = rw (take-append-le L p q)

-- or in the second, which starts from what the first left
pub leaves-second : (p q : List Store) (L : ℕ) (m : List ℕ) → length p ≤ L → leaves (p ++ q) L m ≡ leaves q (L - length p) (applied p m)
leaves-second p q L m h = leaves-append p q L m ∙ ap (leaves q (L - length p)) (limit_enough p L m h)

-- the second plan may be made of the memory that the first left: where the first is cut, the second has no room
pub leaves-row : (p : List Store) (q : List ℕ → List Store) (L : ℕ) (m : List ℕ)
    → leaves (q (leaves p L m)) (L - length p) (leaves p L m) ≡ leaves (p ++ q (applied p m)) L m
leaves-row p q L m =
    elim (dec_le (length p) L) [
      | yes h ↦ rw (limit_enough p L m h) (sym (leaves-second p (q (applied p m)) L m h))
      | no h ↦
          let e : L - length p ≡ 0 = omega (arith, lt_of_not-le h) in
          rw e (limit_zero (q (leaves p L m)) (leaves p L m) ∙ sym (leaves-first p (q (applied p m)) L m (omega (arith, lt_of_not-le h))))
    ]

-- ---- as the code makes them

pub made_nothing : (w : Writer) → Makes [] w w
unfolding applied leaves
made_nothing w = record { same_memory = refl; room = omega arith; left = rw (take-nil {A = Store} w.room) }

-- without room no plan makes a store
pub made_out : (p : List Store) (w : Writer) → w.room ≡ 0 → Makes p w w
made_out p w e = record { same_memory = refl; room = omega arith; left = rw e (sym (limit_zero p w.memory.now)) }

-- one plan more
pub made_more : {p q : List Store} {w w₁ w₂ : Writer} → Makes p w w₁ → Makes q w₁ w₂ → Makes (p ++ q) w w₂
made_more {p} {q} {w} {w₁} {w₂} a b =
    record {
      same_memory = b.same_memory ∙ a.same_memory;
      room = (let x = a.room in let y = b.room in omega (arith, length-append p q));
      left = b.left ∙ rw (a.room, a.left) (sym (leaves-append p q w.room w.memory.now));
    }

-- one store
pub made_one : (a v : ℕ) {w w₁ : Writer} → w.room ≢ 0 → w₁.memory.ghost_name ≡ w.memory.ghost_name → w₁.room ≡ w.room - 1
    → w₁.memory.now ≡ set w.memory.now a v → Makes (writes a (v ∷ [])) w w₁
unfolding applied writes leaves
made_one a v {w} {w₁} h n r e =
    record { same_memory = n; room = r; left = e ∙ rw (take_all w.room (writes a (v ∷ [])) (omega arith)) }

-- one byte more
pub made_byte : (bytes : List ℕ) (i a : ℕ) {w w₁ w₂ : Writer} → i < length bytes
    → Makes (writes a (take i bytes)) w w₁ → Makes (writes (a + i) (get_or bytes i 0 ∷ [])) w₁ w₂ → Makes (writes a (take (i + 1) bytes)) w w₂
made_byte bytes i a {w} {w₁} {w₂} h m n = rw (take_more bytes i 0 h, writes-append, length-take-le i bytes (omega arith)) (made_more m n)
