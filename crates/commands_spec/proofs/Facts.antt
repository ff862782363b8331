-- What the tests of a proper card say one by one, and back. Assumes nothing.
use mathlib.Core.Bool.{true, not, ◌||◌}
use mathlib.Core.List.{[], ◌∷◌}
use mathlib.Core.Path.{◌≡◌}
use Prim.Native.Nat.{◌≤◌}
use borrow.Author.Tests.{leb-true, le-leb}
use lib.Dec.{eqb}
use Rattle.octets.specs.Tests.{all_true}
use Rattle.octets.proofs.Conditions.{each, all_true_lem}
use Rattle.card.specs.declared.head.Head.{Head}
use Rattle.card.specs.Proper.{fixed_tests, aid_ok, keys_ok, bank_ok, agent_ok, unset, parameter_tests, purse_tests, pin_ok, state_tests, proper_tests}

-- the ranges of a head's values
pub record Facts (h : Head) : Type 0 where
  pub fixed : all_true (fixed_tests h.fixed) ≡ true
  pub aid : aid_ok h.purse.aid ≡ true
  pub maxbalance : h.purse.parameters.maxbalance ≤ 32767
  pub maxdebit : h.purse.parameters.maxdebit ≤ 32767
  pub bank : bank_ok h.purse.parameters.bank ≡ true
  pub agent : agent_ok h.purse.parameters.agent ≡ true
  -- parameters are zero until the card is personalized
  pub blank : (h.purse.parameters.personalized || unset h.purse.parameters) ≡ true
  pub debit : keys_ok h.purse.debit ≡ true
  pub credit : keys_ok h.purse.credit ≡ true
  pub keyed : (not h.purse.parameters.personalized || all_true (h.purse.debit.defined ∷ h.purse.credit.defined ∷ [])) ≡ true
  pub pin : pin_ok h.pin ≡ true
  pub tries : h.state.tries ≤ h.fixed.maxtries
  pub balance : h.purse.balance ≤ h.purse.parameters.maxbalance
  pub number : h.state.number ≤ h.shared.maxnumber
  -- and so is the maximum number
  pub bare : (h.purse.parameters.personalized || eqb h.shared.maxnumber 0) ≡ true

-- of the tests
pub facts : (h : Head) → all_true (proper_tests h) ≡ true → Facts h
unfolding proper_tests parameter_tests purse_tests state_tests
facts h e =
    let t = each (proper_tests h) e in
    let q = each (purse_tests h.purse) t.1.0 in
    let p = each (parameter_tests h.purse.parameters) q.1.0 in
    let s = each (state_tests h) t.1.1.1.0 in
    record {
      fixed = t.0;
      aid = q.0;
      maxbalance = leb-true _ _ p.0;
      maxdebit = leb-true _ _ p.1.0;
      bank = p.1.1.0;
      agent = p.1.1.1.0;
      blank = p.1.1.1.1.0;
      debit = q.1.1.0;
      credit = q.1.1.1.0;
      keyed = q.1.1.1.1.0;
      pin = t.1.1.0;
      tries = leb-true _ _ s.0;
      balance = leb-true _ _ q.1.1.1.1.1.0;
      number = leb-true _ _ s.1.0;
      bare = s.1.1.0;
    }

-- and back
pub facts_tests : (h : Head) → Facts h → all_true (proper_tests h) ≡ true
unfolding proper_tests parameter_tests purse_tests state_tests
facts_tests h f =
    let parameters = all_true_lem (parameter_tests h.purse.parameters) (le-leb _ _ f.maxbalance, (le-leb _ _ f.maxdebit, (f.bank, (f.agent, (f.blank, tt))))) in
    let purse = all_true_lem (purse_tests h.purse) (f.aid, (parameters, (f.debit, (f.credit, (f.keyed, (le-leb _ _ f.balance, tt)))))) in
    let state = all_true_lem (state_tests h) (le-leb _ _ f.tries, (le-leb _ _ f.number, (f.bare, tt))) in
    all_true_lem (proper_tests h) (f.fixed, (purse, (f.pin, (state, tt))))
