-- A card is proper exactly where its values are in the ranges, told by numbers and bytes. Assumes nothing.
use mathlib.Core.Bool.{Bool, true, false, not, ◌||◌, false≢true}
use mathlib.Core.List.{List, [], ◌∷◌}
use mathlib.Core.Path.{◌≡◌, refl, sym, ap, ◌∙◌}
use Prim.Native.Nat.{ℕ, ◌-◌}
use borrow.Author.Tests.{leb-true, le-leb, eqb-true, eqb-false, eq-eqb, ne_eqb, not-true, not-false}
use lib.Dec.{leb, eqb}
use lib.ListN.{length, drop, length-drop}
use Rattle.octets.specs.Bytes.{zeros, all_zero}
use Rattle.octets.specs.Tests.{all_true}
use Rattle.octets.proofs.Conditions.{each, all_true_lem}
use Rattle.octets.proofs.Equality.{zero_zeros, zeros_zero}
use Rattle.octets.proofs.Rules.{pick_holds}
use Rattle.card.specs.declared.head.KeySet.{KeySet}
use Rattle.card.specs.declared.head.Head.{Head}
use Rattle.card.specs.Proper.{fixed_tests, aid_ok, keys_ok, bank_ok, agent_ok, unset, parameter_tests, purse_tests, pin_ok, state_tests, proper_tests, SizedKeys, SizedHead}
use Rattle.card.specs.Ranges.{NoKeys, InRanges}
use Rattle.card.proofs.Pins.{block_formed, formed_block}

-- ---- tests and what they tell

-- what a row of bytes tells where all are zero, and back
zeros_of : {n : ℕ} (s : List ℕ) → length s ≡ n → all_zero s ≡ true → s ≡ zeros n
zeros_of s e z = zero_zeros s z ∙ ap zeros e

all-zeros : (n : ℕ) (s : List ℕ) → s ≡ zeros n → all_zero s ≡ true
all-zeros n s e = rw e (zeros_zero n)

-- one of two, where the first isn't
second_of : (a b : Bool) → (a || b) ≡ true → a ≡ false → b ≡ true
second_of true b e n = absurd (false≢true (sym n))
second_of false b e n = e

-- the second, wherever the first isn't
either_of : (a b : Bool) → (a ≡ false → b ≡ true) → (a || b) ≡ true
either_of true b f = refl
either_of false b f = f refl

module _ (h : Head) (z : SizedHead h) where
  after-aid : (n : ℕ) (s : List ℕ) → length s ≡ 16 → length (drop n s) ≡ 16 - n
  after-aid n s e = length-drop n s ∙ ap (λ (k : ℕ). k - n) e

  keys_told : (k : KeySet) → SizedKeys k.keys → keys_ok k ≡ true → k.defined ≡ false → NoKeys k
  unfolding keys_ok
  keys_told k y e n =
      let t = each (all_zero k.keys.enc ∷ all_zero k.keys.mac ∷ all_zero k.keys.dek ∷ []) (second_of k.defined _ e n) in
      record { enc = zeros_of k.keys.enc y.enc.size t.0; mac = zeros_of k.keys.mac y.mac.size t.1.0; dek = zeros_of k.keys.dek y.dek.size t.1.1.0 }

  keys_pass : (k : KeySet) → (k.defined ≡ false → NoKeys k) → keys_ok k ≡ true
  unfolding keys_ok
  keys_pass k f =
      either_of k.defined _
      (λ n. let y = f n in all_true_lem (all_zero k.keys.enc ∷ all_zero k.keys.mac ∷ all_zero k.keys.dek ∷ []) (all-zeros 16 k.keys.enc y.enc, (all-zeros 16 k.keys.mac y.mac, (all-zeros 16 k.keys.dek y.dek, tt))))

  -- proper cards are in the ranges
  pub proper_ranges : all_true (proper_tests h) ≡ true → InRanges h
  unfolding proper_tests fixed_tests aid_ok parameter_tests purse_tests state_tests bank_ok agent_ok unset pin_ok
  proper_ranges e =
      let t = each (proper_tests h) e in
      let f = each (fixed_tests h.fixed) t.0 in
      let u = each (purse_tests h.purse) t.1.0 in
      let i = h.purse.aid in
      let d = each (leb 5 i.size ∷ leb i.size 16 ∷ all_zero (drop i.size i.bytes) ∷ []) u.0 in
      let q = h.purse.parameters in
      let p = each (parameter_tests q) u.1.0 in
      let a = each ((eqb q.agent.size 0 || leb 5 q.agent.size) ∷ leb q.agent.size 16 ∷ all_zero (drop q.agent.size q.agent.bytes) ∷ []) p.1.1.1.0 in
      let s = each (state_tests h) t.1.1.1.0 in
      record {
        aid = (leb-true _ _ d.0, leb-true _ _ d.1.0);
        aid-after = zeros_of _ (after-aid i.size i.bytes z.purse.aid.size) d.1.1.0;
        logsize = (leb-true _ _ f.0, leb-true _ _ f.1.0);
        maxtries = (leb-true _ _ f.1.1.0, leb-true _ _ f.1.1.1.0);
        maxbalance = leb-true _ _ p.0;
        maxdebit = leb-true _ _ p.1.0;
        agent = λ n. leb-true _ _ (second_of (eqb q.agent.size 0) _ a.0 (ne_eqb _ _ n));
        agent-most = leb-true _ _ a.1.0;
        agent-after = zeros_of _ (after-aid q.agent.size q.agent.bytes z.purse.agent.size) a.1.1.0;
        bank = λ n. zeros_of _ z.purse.bank.size (second_of q.bank.defined _ p.1.1.0 n);
        tries = leb-true _ _ s.0;
        balance = leb-true _ _ u.1.1.1.1.1.0;
        number = leb-true _ _ s.1.0;
        blank = λ n.
            let b = each (all_zero q.identifier ∷ eqb q.currency 0 ∷ eqb q.maxbalance 0 ∷ eqb q.maxdebit 0 ∷ not q.bank.defined ∷ eqb q.agent.size 0 ∷ []) (second_of q.personalized _ p.1.1.1.1.0 n) in
            record {
              identifier = zeros_of _ z.purse.identifier.size b.0;
              currency = eqb-true _ _ b.1.0;
              maxbalance = eqb-true _ _ b.1.1.0;
              maxdebit = eqb-true _ _ b.1.1.1.0;
              maxnumber = eqb-true _ _ (second_of q.personalized _ s.1.1.0 n);
              bank = not-true _ b.1.1.1.1.0;
              agent = eqb-true _ _ b.1.1.1.1.1.0;
            };
        keyed = λ n. let k = each (h.purse.debit.defined ∷ h.purse.credit.defined ∷ []) (second_of (not q.personalized) _ u.1.1.1.1.0 (ap not n)) in (k.0, k.1.0);
        debit = keys_told h.purse.debit z.purse.debit u.1.1.0;
        credit = keys_told h.purse.credit z.purse.credit u.1.1.1.0;
        pin = λ n. let d = formed_block h.pin.block z.pin.size (rw n at t.1.1.0) in record { digits = _; each = d.0; block = d.1 };
        no_pin = λ n. zeros_of _ z.pin.size (rw n at t.1.1.0);
      }

  -- and what is in the ranges is proper
  pub ranges_proper : InRanges h → all_true (proper_tests h) ≡ true
  unfolding proper_tests fixed_tests aid_ok parameter_tests purse_tests state_tests bank_ok agent_ok unset pin_ok
  ranges_proper r =
      let i = h.purse.aid in
      let q = h.purse.parameters in
      let fixed : all_true (fixed_tests h.fixed) ≡ true =
      all_true_lem (fixed_tests h.fixed) (le-leb _ _ r.logsize.0, (le-leb _ _ r.logsize.1, (le-leb _ _ r.maxtries.0, (le-leb _ _ r.maxtries.1, tt))))
      in
      let aid : aid_ok i ≡ true =
      all_true_lem (leb 5 i.size ∷ leb i.size 16 ∷ all_zero (drop i.size i.bytes) ∷ [])
      (le-leb _ _ r.aid.0, (le-leb _ _ r.aid.1, (all-zeros (16 - i.size) _ r.aid-after, tt)))
      in
      let agent : agent_ok q.agent ≡ true =
      all_true_lem ((eqb q.agent.size 0 || leb 5 q.agent.size) ∷ leb q.agent.size 16 ∷ all_zero (drop q.agent.size q.agent.bytes) ∷ [])
      (either_of (eqb q.agent.size 0) _ (λ n. le-leb _ _ (r.agent (eqb-false _ _ n))), (le-leb _ _ r.agent-most, (all-zeros (16 - q.agent.size) _ r.agent-after, tt)))
      in
      let blank : (q.personalized || unset q) ≡ true =
      either_of q.personalized _
      (λ n.
      let b = r.blank n in
      all_true_lem (all_zero q.identifier ∷ eqb q.currency 0 ∷ eqb q.maxbalance 0 ∷ eqb q.maxdebit 0 ∷ not q.bank.defined ∷ eqb q.agent.size 0 ∷ [])
      (all-zeros 4 _ b.identifier, (eq-eqb _ _ b.currency, (eq-eqb _ _ b.maxbalance, (eq-eqb _ _ b.maxdebit, (ap not b.bank, (eq-eqb _ _ b.agent, tt)))))))
      in
      let parameters : all_true (parameter_tests q) ≡ true =
      all_true_lem (parameter_tests q)
      (le-leb _ _ r.maxbalance, (le-leb _ _ r.maxdebit, (either_of q.bank.defined _ (λ n. all-zeros 16 _ (r.bank n)), (agent, (blank, tt)))))
      in
      let keyed : (not q.personalized || all_true (h.purse.debit.defined ∷ h.purse.credit.defined ∷ [])) ≡ true =
      either_of (not q.personalized) _
      (λ n. let k = r.keyed (not-false _ n) in all_true_lem (h.purse.debit.defined ∷ h.purse.credit.defined ∷ []) (k.0, (k.1, tt)))
      in
      let purse : all_true (purse_tests h.purse) ≡ true =
      all_true_lem (purse_tests h.purse)
      (aid, (parameters, (keys_pass h.purse.debit r.debit, (keys_pass h.purse.credit r.credit, (keyed, (le-leb _ _ r.balance, tt))))))
      in
      let pin : pin_ok h.pin ≡ true =
      pick_holds (λ (b : Bool). b ≡ true) h.pin.defined _ _
      (λ n. let d = r.pin n in rw d.block (block_formed d.digits d.each)) (λ n. all-zeros 8 _ (r.no_pin n))
      in
      let state : all_true (state_tests h) ≡ true =
      all_true_lem (state_tests h) (le-leb _ _ r.tries, (le-leb _ _ r.number, (either_of q.personalized _ (λ n. eq-eqb _ _ (r.blank n).maxnumber), tt)))
      in
      all_true_lem (proper_tests h) (fixed, (purse, (pin, (state, tt))))
