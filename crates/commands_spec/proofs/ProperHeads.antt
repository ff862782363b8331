-- The heads that PUT KEY, PUT DATA and STORE DATA make of a proper card's are ones that a card may have. Assumes nothing.
use mathlib.Core.Bool.{Bool, true, false, not, ◌&&◌, ◌||◌, false≢true}
use mathlib.Core.List.{List, [], ◌∷◌}
use mathlib.Core.Path.{◌≡◌, refl, ap, ◌∙◌}
use Prim.Native.Nat.{ℕ, ◌≤◌}
use native.Mathlib.Omega.{arith}
use borrow.Author.Tests.{eqb-true, ltb-false}
use lib.Dec.{eqb}
use Rattle.octets.specs.Tests.{all_true}
use Rattle.octets.specs.Bytes.{AreBytes, all_zero}
use Rattle.octets.specs.Words.{word_at}
use Rattle.octets.proofs.Rules.{or_left, pick_holds}
use Rattle.octets.proofs.Conditions.{each, and_both}
use Rattle.card.specs.declared.head.Fixed.{Fixed}
use Rattle.card.specs.declared.head.Keys.{Keys}
use Rattle.card.specs.declared.head.KeySet.{KeySet}
use Rattle.card.specs.declared.head.Head.{Head}
use Rattle.card.specs.Card.{Card}
use Rattle.card.specs.Updates.{with_purse, with_parameters, with_maxnumber}
use Rattle.card.specs.Proper.{fixed_tests, aid_ok, keys_ok, unset, pin_ok, SizedKeys, Proper}
use Rattle.session.specs.declared.Set.{Set}
use Rattle.session.specs.declared.Set.TheVariants.{Debit, Credit, Admin}
use Rattle.commands_spec.specs.KeySets.{with_keys}
use Rattle.commands_spec.specs.Data.{value_ok, parameter_set, datum_set}
use Rattle.commands_spec.specs.PutData.{undercuts}
use Rattle.commands_spec.specs.StoreData.{personalized}
use Rattle.commands_spec.proofs.Facts.{Facts, facts}
use Rattle.commands_spec.proofs.SameElse.{SameElse, datum-same}
use Rattle.commands_spec.proofs.ProperChanges.{Fine, Settled, card_settled}
use Rattle.commands_spec.proofs.Settings.{datum_settled}

-- ---- PUT KEY

abbrev Keyed : Bool → Bool → Bool → Type 0
Keyed p d e = (not p || all_true (d ∷ e ∷ [])) ≡ true

keyed-debit : (p d e : Bool) → Keyed p d e → Keyed p true e
keyed-debit false d e k = refl
keyed-debit true true e k = k
keyed-debit true false e k = absurd (false≢true k)

keyed-credit : (p d e : Bool) → Keyed p d e → Keyed p d true
keyed-credit false d e k = refl
keyed-credit true true e k = refl
keyed-credit true false e k = absurd (false≢true k)

-- a head with three key sets
abbrev keys_over : Head → KeySet → KeySet → Keys → Head
keys_over h d e a =
    let q = h.purse in
    record {
      fixed = h.fixed;
      shared = record { maxnumber = h.shared.maxnumber; admin = a };
      purse = record { aid = q.aid; parameters = q.parameters; debit = d; credit = e; balance = q.balance };
      pin = h.pin;
      state = h.state;
    }

module _ (c : Card) (p : Proper c) where
  abbrev H : Head
  H = c.head

  known : Facts H
  known = facts H p.tests

  keys-over : (d e : KeySet) (a : Keys) → SizedKeys d.keys → SizedKeys e.keys → SizedKeys a → keys_ok d ≡ true → keys_ok e ≡ true
      → Keyed H.purse.parameters.personalized d.defined e.defined → Fine (keys_over H d e a)
  keys-over d e a x y z k l n =
      let s = p.sized in
      let q = s.purse in
      let f = known in
      record {
        sized = record {
          maxnumber = s.maxnumber;
          admin = z;
          purse = record { aid = q.aid; identifier = q.identifier; currency = q.currency; bank = q.bank; agent = q.agent; debit = x; credit = y };
          pin = s.pin;
        };
        facts = record {
          fixed = f.fixed;
          aid = f.aid;
          maxbalance = f.maxbalance;
          maxdebit = f.maxdebit;
          bank = f.bank;
          agent = f.agent;
          blank = f.blank;
          debit = k;
          credit = l;
          keyed = n;
          pin = f.pin;
          tries = f.tries;
          balance = f.balance;
          number = f.number;
          bare = f.bare;
        };
      }

  -- of any set
  pub keys-next : (set : Set) (k : Keys) → SizedKeys k → Fine (with_keys set k H)
  unfolding with_keys with_purse keys_ok
  keys-next Debit k z =
      let q = p.sized in
      let f = known in
      keys-over (record { defined = true; keys = k }) H.purse.credit H.shared.admin z q.purse.credit q.admin refl f.credit
      (keyed-debit H.purse.parameters.personalized H.purse.debit.defined H.purse.credit.defined f.keyed)
  keys-next Credit k z =
      let q = p.sized in
      let f = known in
      keys-over H.purse.debit (record { defined = true; keys = k }) H.shared.admin q.purse.debit z q.admin f.debit refl
      (keyed-credit H.purse.parameters.personalized H.purse.debit.defined H.purse.credit.defined f.keyed)
  keys-next Admin k z =
      let q = p.sized in
      let f = known in
      keys-over H.purse.debit H.purse.credit k q.purse.debit q.purse.credit z f.debit f.credit f.keyed

  -- ---- PUT DATA

  module _ (dek : List ℕ) (tag : ℕ) (v : List ℕ) (u : undercuts tag (word_at v 0) H.purse.balance H.state.number ≡ false) where
    datum-balance : H.purse.balance ≤ (datum_set dek tag v H).purse.parameters.maxbalance
    unfolding datum_set with_maxnumber with_parameters with_purse parameter_set undercuts
    datum-balance =
        pick_holds (λ (x : Head). H.purse.balance ≤ x.purse.parameters.maxbalance) (eqb tag 0x05) _ _ (λ e. known.balance)
        (λ e. pick_holds (λ (x : ℕ). H.purse.balance ≤ x) (eqb tag 0x03) _ _
        (λ t. let k : tag ≡ 0x03 = eqb-true tag 0x03 t in ltb-false (word_at v 0) H.purse.balance (rw k at u)) (λ t. known.balance))

    datum-number : H.state.number ≤ (datum_set dek tag v H).shared.maxnumber
    unfolding datum_set with_maxnumber with_parameters with_purse parameter_set undercuts
    datum-number =
        pick_holds (λ (x : Head). H.state.number ≤ x.shared.maxnumber) (eqb tag 0x05) _ _
        (λ t. let k : tag ≡ 0x05 = eqb-true tag 0x05 t in ltb-false (word_at v 0) H.state.number (rw k at u)) (λ t. known.number)

    -- of any tag
    pub datum-next : AreBytes v → value_ok tag v ≡ true → H.purse.parameters.personalized ≡ true → Fine (datum_set dek tag v H)
    datum-next b k e =
        let f = known in
        let m = datum-same dek tag v H in
        let r = m.rest in
        let s = datum_settled dek tag v H b k (card_settled c p) in
        let q : (datum_set dek tag v H).purse.parameters.personalized ≡ true = m.personalized ∙ e in
        record {
          sized = s.sized;
          facts = record {
            fixed = ap (λ (x : Fixed). all_true (fixed_tests x)) r.fixed ∙ f.fixed;
            aid = ap aid_ok r.aid ∙ f.aid;
            maxbalance = s.maxbalance;
            maxdebit = s.maxdebit;
            bank = s.bank;
            agent = s.agent;
            blank = or_left _ _ q;
            debit = ap keys_ok m.debit ∙ f.debit;
            credit = ap keys_ok m.credit ∙ f.credit;
            keyed = rw (m.personalized, m.debit, m.credit) f.keyed;
            pin = ap pin_ok m.pin ∙ f.pin;
            tries = rw (r.state, r.fixed) f.tries;
            balance = rw r.balance datum-balance;
            number = rw r.state datum-number;
            bare = or_left _ _ q;
          };
        }

  -- ---- STORE DATA

  -- a card that isn't personalized has no balance and no number
  fresh-balance : H.purse.parameters.personalized ≡ false → H.purse.balance ≤ 0
  unfolding unset
  fresh-balance e =
      let f = known in
      let v = H.purse.parameters in
      let t = each (all_zero v.identifier ∷ eqb v.currency 0 ∷ eqb v.maxbalance 0 ∷ eqb v.maxdebit 0 ∷ not v.bank.defined ∷ eqb v.agent.size 0 ∷ [])
      (rw e at f.blank) in
      let z = eqb-true H.purse.parameters.maxbalance 0 t.1.1.0 in
      let k = f.balance in
      omega arith

  fresh-number : H.purse.parameters.personalized ≡ false → H.state.number ≤ 0
  fresh-number e =
      let f = known in
      let z = eqb-true H.shared.maxnumber 0 (rw e at f.bare) in
      let k = f.number in
      omega arith

  -- personalized with what was stored
  pub stored_next : (next : Head) → Settled next → SameElse H next → H.purse.parameters.personalized ≡ false
      → (H.purse.debit.defined && H.purse.credit.defined) ≡ true → Fine (personalized next)
  unfolding personalized with_parameters with_purse
  stored_next next s m e g =
      let f = known in
      let r = m.rest in
      let z = s.sized in
      let q = z.purse in
      let d = and_both H.purse.debit.defined H.purse.credit.defined g in
      let x = fresh-balance e in
      let y = fresh-number e in
      record {
        sized = record {
          maxnumber = z.maxnumber;
          admin = z.admin;
          purse = record { aid = q.aid; identifier = q.identifier; currency = q.currency; bank = q.bank; agent = q.agent; debit = q.debit; credit = q.credit };
          pin = z.pin;
        };
        facts = record {
          fixed = ap (λ (x : Fixed). all_true (fixed_tests x)) r.fixed ∙ f.fixed;
          aid = ap aid_ok r.aid ∙ f.aid;
          maxbalance = s.maxbalance;
          maxdebit = s.maxdebit;
          bank = s.bank;
          agent = s.agent;
          blank = refl;
          debit = ap keys_ok m.debit ∙ f.debit;
          credit = ap keys_ok m.credit ∙ f.credit;
          keyed = rw (m.debit, m.credit, d.0, d.1) refl;
          pin = ap pin_ok m.pin ∙ f.pin;
          tries = rw (r.state, r.fixed) f.tries;
          balance = rw r.balance (omega arith);
          number = rw r.state (omega arith);
          bare = refl;
        };
      }
