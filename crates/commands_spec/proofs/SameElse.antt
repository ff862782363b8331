-- What PUT KEY, PUT DATA and STORE DATA leave alone. Assumes nothing.
use mathlib.Core.Bool.{true}
use mathlib.Core.List.{List, [], ◌∷◌}
use mathlib.Core.Path.{◌≡◌, refl, sym, ◌∙◌}
use Prim.Native.Nat.{ℕ, zero, suc}
use lib.Dec.{eqb}
use lib.ListN.{take, drop}
use Rattle.octets.proofs.Rules.{pick_holds}
use Rattle.card.specs.declared.head.Keys.{Keys}
use Rattle.card.specs.declared.head.Head.{Head}
use Rattle.card.specs.Changes.{head_after, purse_after}
use Rattle.card.specs.Updates.{with_purse, with_parameters, with_maxnumber}
use Rattle.session.specs.declared.Set.{Set}
use Rattle.session.specs.declared.Set.TheVariants.{Debit, Credit, Admin}
use Rattle.commands_spec.specs.declared.store.Stored.{Stored}
use Rattle.commands_spec.specs.KeySets.{with_keys}
use Rattle.commands_spec.specs.Data.{parameter_set, datum_set}
use Rattle.commands_spec.specs.StoreData.{acceptable, rejected, stored, stored_all}

-- the fixed part, the AID, balance, number and tries
pub record Rest (h next : Head) : Type 0 where
  pub fixed : next.fixed ≡ h.fixed
  pub aid : next.purse.aid ≡ h.purse.aid
  pub balance : next.purse.balance ≡ h.purse.balance
  pub state : next.state ≡ h.state

-- a head with the same fixed part and AID is reached by writing block C
pub head_reached : (h next : Head) → next.fixed ≡ h.fixed → next.purse.aid ≡ h.purse.aid → head_after true next h ≡ next
unfolding head_after purse_after
head_reached h next e a =
    let p = next.purse in
    λ i.
    record {
      fixed = sym e i;
      shared = next.shared;
      purse = record { aid = sym a i; parameters = p.parameters; debit = p.debit; credit = p.credit; balance = p.balance };
      pin = next.pin;
      state = next.state;
    }

-- new keys leave them alone
pub keys-rest : (set : Set) (k : Keys) (h : Head) → Rest h (with_keys set k h)
unfolding with_keys with_purse
keys-rest Debit k h = record { fixed = refl; aid = refl; balance = refl; state = refl }
keys-rest Credit k h = record { fixed = refl; aid = refl; balance = refl; state = refl }
keys-rest Admin k h = record { fixed = refl; aid = refl; balance = refl; state = refl }

-- and, with them, what isn't a value of a tag
pub record SameElse (h next : Head) : Type 0 where
  pub rest : Rest h next
  pub personalized : next.purse.parameters.personalized ≡ h.purse.parameters.personalized
  pub debit : next.purse.debit ≡ h.purse.debit
  pub credit : next.purse.credit ≡ h.purse.credit
  pub admin : next.shared.admin ≡ h.shared.admin
  pub pin : next.pin ≡ h.pin

-- a head itself
pub same_itself : (h : Head) → SameElse h h
same_itself h =
    record {
      rest = record { fixed = refl; aid = refl; balance = refl; state = refl };
      personalized = refl;
      debit = refl;
      credit = refl;
      admin = refl;
      pin = refl;
    }

-- a value of a tag sets nothing else
pub datum-same : (dek : List ℕ) (tag : ℕ) (v : List ℕ) (h : Head) → SameElse h (datum_set dek tag v h)
unfolding datum_set with_maxnumber with_parameters with_purse parameter_set
datum-same dek tag v h =
    pick_holds (SameElse h) (eqb tag 0x05) _ _
    (λ e. record { rest = record { fixed = refl; aid = refl; balance = refl; state = refl }; personalized = refl; debit = refl; credit = refl; admin = refl; pin = refl })
    (λ e. record { rest = record { fixed = refl; aid = refl; balance = refl; state = refl }; personalized = refl; debit = refl; credit = refl; admin = refl; pin = refl })

same_then : {a b d : Head} → SameElse a b → SameElse b d → SameElse a d
same_then p q =
    let x = p.rest in
    let y = q.rest in
    record {
      rest = record { fixed = y.fixed ∙ x.fixed; aid = y.aid ∙ x.aid; balance = y.balance ∙ x.balance; state = y.state ∙ x.state };
      personalized = q.personalized ∙ p.personalized;
      debit = q.debit ∙ p.debit;
      credit = q.credit ∙ p.credit;
      admin = q.admin ∙ p.admin;
      pin = q.pin ∙ p.pin;
    }

stored_same : (h : Head) (dek : List ℕ) (st : Stored) (tag : ℕ) (v : List ℕ) → SameElse h st.head → SameElse h (stored dek st tag v).head
unfolding stored rejected
stored_same h dek st tag v k =
    pick_holds (λ (x : Stored). SameElse h x.head) (acceptable st.seen tag v) _ _ (λ e. same_then k (datum-same dek tag v st.head)) (λ e. k)

-- and so of all TLVs
pub all_same : (n : ℕ) (h : Head) (dek l : List ℕ) (st : Stored) → SameElse h st.head → SameElse h (stored_all n dek l st).head
unfolding stored_all
all_same zero h dek l st k = k
all_same (suc n) h dek [] st k = k
all_same (suc n) h dek (tag ∷ []) st k = k
all_same (suc n) h dek (tag ∷ size ∷ l) st k = all_same n h dek (drop size l) _ (stored_same h dek st tag (take size l) k)
