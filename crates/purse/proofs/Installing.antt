-- Installation, by its tests. Assumes nothing.
use Prim.Native.Nat.{ℕ, ◌+◌, ◌-◌}
use mathlib.Core.Bool.{Bool, true, false}
use mathlib.Core.List.{List, []}
use mathlib.Core.Path.{◌≡◌, refl, sym, ◌∙◌}
use native.Mathlib.Omega.{arith}
use borrow.Author.Tests.{eq-eqb, ne_eqb}
use Rattle.std.specs.Prelude.{Some, None}
use lib.Dec.{eqb, ltb}
use lib.ListN.{length, take, drop}
use Rattle.octets.specs.Choice.{pick}
use Rattle.octets.specs.Bytes.{field, paste}
use Rattle.octets.proofs.Parts.{field-part}
use Rattle.stores.specs.Stores.{Store, leaves}
use Rattle.memory.specs.Layout.{memory_size}
use Rattle.memory.specs.Changes.{install_plan}
use Rattle.session.specs.Transitions.{unselected}
use Rattle.purse_spec.specs.Installation.{data_ok, data_fixed, data_aid, data_keys, installation}
use Rattle.purse.specs.declared.calls.Called.{Called}
use Rattle.purse.specs.declared.calls.Answer.{Answer}
use Rattle.purse.specs.declared.calls.Answer.TheVariants.{MemoryLength, InstallationData}
use Rattle.purse.specs.declared.installation.Data.{Data}
use Rattle.purse.specs.Called.{Gives, storeless, under_limit}
use Rattle.purse.proofs.Outcomes.{refusal_gives, performed_gives}

-- the keys are all that is left behind the tries
pub keys_last : (d : List ℕ) (n : ℕ) → length d ≡ n + 51 → take (length d - (n + 3)) (drop (n + 3) d) ≡ field d (n + 3) 48
keys_last d n e =
    let z : length d - (n + 3) ≡ 48 = omega (arith, e) in
    rw z (sym (field-part d (n + 3) 48 (omega (arith, e))))

-- what the data say
abbrev pub data_of : List ℕ → Data
data_of d = record { fixed = data_fixed d; aid = data_aid d; admin = data_keys d }

module _ (m d : List ℕ) (limit : ℕ) where
  pub install_sized : (length m ≡ memory_size → ⊥) → Gives (installation m d limit) (storeless MemoryLength unselected) m []
  unfolding installation
  install_sized h = let t : eqb (length m) memory_size ≡ false = ne_eqb _ _ h in rw t (refusal_gives MemoryLength 1 unselected m [] refl)

  pub install_data : length m ≡ memory_size → None ≡ pick (data_ok d) (Some (data_of d)) None
      → Gives (installation m d limit) (storeless InstallationData unselected) m []
  unfolding installation
  install_data h e =
      let t : eqb (length m) memory_size ≡ true = eq-eqb _ _ h in
      let f : data_ok d ≡ false = refused (data_ok d) e in
      rw (t, f) (refusal_gives InstallationData 6 unselected m [] refl)
    where
      refused : (b : Bool) → None ≡ pick b (Some (data_of d)) None → b ≡ false
      refused true p = cc
      refused false p = refl

  -- the stores of what the data say
  abbrev pub stores_of : Data → List Store
  stores_of x = install_plan x.fixed x.aid x.admin

  pub install_run : (x : Data) (n : ℕ) (m' : List ℕ) (r : Called Answer) → length m ≡ memory_size → Some x ≡ pick (data_ok d) (Some (data_of d)) None
      → n ≡ length (stores_of x) → m' ≡ leaves (stores_of x) limit m → r ≡ under_limit n limit 0 unselected → Gives (installation m d limit) r m' []
  unfolding installation paste
  install_run x n m' r h f i j e =
      let t : eqb (length m) memory_size ≡ true = eq-eqb _ _ h in
      let g = taken (data_ok d) f in
      rw (t, g.0)
      (performed_gives (stores_of (data_of d)) limit m unselected [] [] n 0 m' [] r (i ∙ (λ k. length (stores_of (g.1 k)))) refl (j ∙ (λ k. leaves (stores_of (g.1 k)) limit m))
      (none (ltb limit n)) e)
    where
      taken : (b : Bool) → Some x ≡ pick b (Some (data_of d)) None → (b ≡ true) × (x ≡ data_of d)
      taken true p = (refl, cc)
      taken false p = cc

      none : (b : Bool) → ◌≡◌ {A = List ℕ} [] (pick b [] [])
      none true = refl
      none false = refl
