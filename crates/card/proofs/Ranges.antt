-- Rows of tests joined, and what single tests of a card say. Assumes nothing.
use mathlib.Core.Path.{◌≡◌, refl}
use mathlib.Core.Bool.{Bool, true, false, ◌||◌, false≢true}
use mathlib.Core.List.{List, [], ◌∷◌, ◌++◌}
use Prim.Native.Nat.{ℕ, ◌≤◌, ◌<◌}
use native.Mathlib.Omega.{arith}
use borrow.Author.Tests.{leb-true}
use lib.Dec.{leb, eqb}
use lib.ListN.{drop}
use Rattle.octets.specs.Bytes.{all_zero}
use Rattle.octets.specs.Tests.{all_true}
use Rattle.octets.proofs.Conditions.{each}
use Rattle.card.specs.declared.head.Head.{Head}
use Rattle.card.specs.Proper.{fixed_tests, aid_ok, agent_ok, parameter_tests, purse_tests, state_tests, proper_tests}

pub all_append : (a b : List Bool) → all_true a ≡ true → all_true b ≡ true → all_true (a ++ b) ≡ true
all_append [] b p q = q
all_append (true ∷ a) b p q = all_append a b p q
all_append (false ∷ a) b p q = absurd (false≢true p)

pub all_left : (a b : List Bool) → all_true (a ++ b) ≡ true → all_true a ≡ true
all_left [] b p = refl
all_left (true ∷ a) b p = all_left a b p
all_left (false ∷ a) b p = absurd (false≢true p)

pub all_right : (a b : List Bool) → all_true (a ++ b) ≡ true → all_true b ≡ true
all_right [] b p = p
all_right (true ∷ a) b p = all_right a b p
all_right (false ∷ a) b p = absurd (false≢true p)

-- the log's size is 1 to 50
pub record Size (n : ℕ) : Type 0 where
  pub some : 1 ≤ n
  pub most : n ≤ 50

-- the numbers are below what their bytes hold
pub record Numbers (h : Head) : Type 0 where
  pub logsize : h.fixed.logsize < 256
  pub maxtries : h.fixed.maxtries < 256
  pub aid : h.purse.aid.size < 256
  pub maxbalance : h.purse.parameters.maxbalance < 65536
  pub maxdebit : h.purse.parameters.maxdebit < 65536
  pub agent : h.purse.parameters.agent.size < 256
  pub balance : h.purse.balance < 65536
  pub number : h.state.number < 65536
  pub tries : h.state.tries < 256

module _ (h : Head) (e : all_true (proper_tests h) ≡ true) where
  fixed_all : all_true (fixed_tests h.fixed) ≡ true
  unfolding proper_tests
  fixed_all = (each (proper_tests h) e).0

  purse-all : all_true (purse_tests h.purse) ≡ true
  unfolding proper_tests
  purse-all = (each (proper_tests h) e).1.0

  state-all : all_true (state_tests h) ≡ true
  unfolding proper_tests
  state-all = (each (proper_tests h) e).1.1.1.0

  pub size_range : Size h.fixed.logsize
  unfolding fixed_tests
  size_range = let t = each (fixed_tests h.fixed) fixed_all in record { some = leb-true _ _ t.0; most = leb-true _ _ t.1.0 }

  pub numbers : h.shared.maxnumber < 65536 → Numbers h
  unfolding fixed_tests aid_ok parameter_tests purse_tests agent_ok state_tests
  numbers q =
      let f = each (fixed_tests h.fixed) fixed_all in
      let u = each (purse_tests h.purse) purse-all in
      let i = h.purse.aid in
      let d = each (leb 5 i.size ∷ leb i.size 16 ∷ all_zero (drop i.size i.bytes) ∷ []) u.0 in
      let p = each (parameter_tests h.purse.parameters) u.1.0 in
      let v = h.purse.parameters.agent in
      let w = each ((eqb v.size 0 || leb 5 v.size) ∷ leb v.size 16 ∷ all_zero (drop v.size v.bytes) ∷ []) p.1.1.1.0 in
      let s = each (state_tests h) state-all in
      let l : h.fixed.logsize ≤ 50 = leb-true _ _ f.1.0 in
      let t : h.fixed.maxtries ≤ 15 = leb-true _ _ f.1.1.1.0 in
      let a : i.size ≤ 16 = leb-true _ _ d.1.0 in
      let b : h.purse.parameters.maxbalance ≤ 32767 = leb-true _ _ p.0 in
      let c : h.purse.parameters.maxdebit ≤ 32767 = leb-true _ _ p.1.0 in
      let g : v.size ≤ 16 = leb-true _ _ w.1.0 in
      let y : h.purse.balance ≤ h.purse.parameters.maxbalance = leb-true _ _ u.1.1.1.1.1.0 in
      let x : h.state.tries ≤ h.fixed.maxtries = leb-true _ _ s.0 in
      let z : h.state.number ≤ h.shared.maxnumber = leb-true _ _ s.1.0 in
      record {
        logsize = omega arith;
        maxtries = omega arith;
        aid = omega arith;
        maxbalance = omega arith;
        maxdebit = omega arith;
        agent = omega arith;
        balance = omega arith;
        number = omega arith;
        tries = omega arith;
      }
