-- What PUT DATA and STORE DATA set keeps to the card's sizes and ranges. Assumes nothing.
use mathlib.Core.Bool.{Bool, true, false, ◌&&◌, ◌||◌}
use mathlib.Core.List.{List, [], ◌∷◌}
use mathlib.Core.Path.{◌≡◌, refl, ap, ◌∙◌}
use Prim.Native.Nat.{ℕ, zero, suc, ◌+◌, ◌-◌, ◌≤◌, ◌<◌}
use native.Mathlib.Omega.{arith}
use native.Mathlib.Nat.{zero-add, min-eq_left}
use borrow.Author.Tests.{eqb-true, leb-true, le-leb}
use lib.Dec.{leb, eqb}
use lib.ListN.{length, get_or, take, drop, length-drop}
use lib.Seq.{get_or-drop}
use Rattle.octets.specs.Tests.{all_true}
use Rattle.octets.specs.Bytes.{AreBytes, Octets, byte_at, field, all_zero}
use Rattle.octets.specs.Words.{word_at}
use Rattle.octets.proofs.Conditions.{all_true_lem, and_both}
use Rattle.octets.proofs.Parts.{byte_past, length-field, field_at}
use Rattle.octets.proofs.Numbers.{word-at_below}
use Rattle.octets.proofs.Octets.{zeros_octets, field_octets}
use Rattle.octets.proofs.Ranges.{take-bytes, drop-bytes, field-bytes}
use Rattle.octets.proofs.Equality.{zeros_zero, bytes_zero}
use Rattle.octets.proofs.Rules.{pick_holds}
use Rattle.card.specs.declared.head.Bank.{Bank}
use Rattle.card.specs.declared.head.Aid.{Aid}
use Rattle.card.specs.declared.head.Head.{Head}
use Rattle.card.specs.Proper.{bank_ok, agent_ok}
use Rattle.channel.proofs.Results.{length-bank_received, bytes-bank_received}
use Rattle.commands_spec.specs.declared.store.Stored.{Stored}
use Rattle.card.specs.Updates.{with_purse, with_parameters, with_maxnumber}
use Rattle.commands_spec.specs.Data.{maximum_ok, agent_length, value_ok, bank_of, agent_of, parameter_set, datum_set}
use Rattle.commands_spec.specs.StoreData.{rejected, acceptable, stored, stored_all}
use Rattle.commands_spec.proofs.ProperChanges.{Settled}

-- ---- the values of the tags

module _ (dek v : List ℕ) (f : AreBytes v) where
  bank-bytes : Octets 16 (bank_of dek v).value
  unfolding bank_of
  bank-bytes =
      pick_holds (λ (b : Bank). Octets 16 b.value) (eqb (length v) 0) _ _
      (λ e. zeros_octets 16)
      (λ e.
      let x = field v 0 16 in
      record { size = length-bank_received dek x ∙ length-field v 0 16; each = bytes-bank_received dek x (field-bytes v 0 16 f) })

  bank-ok : bank_ok (bank_of dek v) ≡ true
  unfolding bank_of bank_ok
  bank-ok = pick_holds (λ (b : Bank). bank_ok b ≡ true) (eqb (length v) 0) _ _ (λ e. zeros_zero 16) (λ e. refl)

-- an agent's AID, and zeros after it
agent-parts : (n : ℕ) → agent_length n ≡ true → ((eqb n 0 || leb 5 n) ≡ true) × (n ≤ 16)
unfolding agent_length
agent-parts n e = go (eqb n 0) refl e
  where
    go : (b : Bool) → eqb n 0 ≡ b → (b || (leb 5 n && leb n 16)) ≡ true → ((b || leb 5 n) ≡ true) × (n ≤ 16)
    go true p q = let z = eqb-true n 0 p in (refl, omega arith)
    go false p q = let t = and_both (leb 5 n) (leb n 16) q in (t.0, leb-true n 16 t.1)

rest_zero : (v : List ℕ) → length v ≤ 16 → all_zero (drop (length v) (field v 0 16)) ≡ true
rest_zero v h =
    bytes_zero (drop (length v) (field v 0 16))
    (λ i k.
    let a : length (drop (length v) (field v 0 16)) ≡ length (field v 0 16) - length v = length-drop (length v) (field v 0 16) in
    let b = length-field v 0 16 in
    let d : length v + i < 16 = omega arith in
    get_or-drop (length v) (field v 0 16) i 0 ∙ field_at v 0 16 (length v + i) d ∙ ap (byte_at v) (zero-add (length v + i)) ∙ byte_past v (length v + i) (omega arith))

agent-tests : (v : List ℕ) (n : ℕ) → n ≡ length v → agent_length (length v) ≡ true
    → all_true ((eqb n 0 || leb 5 n) ∷ leb n 16 ∷ all_zero (drop n (field v 0 16)) ∷ []) ≡ true
agent-tests v n k e =
    let t = agent-parts (length v) e in
    rw k (all_true_lem ((eqb (length v) 0 || leb 5 (length v)) ∷ leb (length v) 16 ∷ all_zero (drop (length v) (field v 0 16)) ∷ [])
    (t.0, (le-leb (length v) 16 t.1, (rest_zero v t.1, tt))))

agent-ok : (v : List ℕ) → agent_length (length v) ≡ true → agent_ok (agent_of v) ≡ true
unfolding agent_ok agent_of
agent-ok v e = let h = (agent-parts (length v) e).1 in agent-tests v (agent_of v).size (min-eq_left h) e

-- ---- what a tag's value tells

module _ (tag : ℕ) (v : List ℕ) (k : value_ok tag v ≡ true) where
  maximum : eqb tag 0x03 ≡ true → word_at v 0 ≤ 32767
  unfolding value_ok maximum_ok
  maximum e =
      let t : tag ≡ 0x03 = eqb-true tag 0x03 e in
      leb-true _ _ (and_both (eqb (length v) 2) (leb (word_at v 0) 32767) (rw t at k)).1

  maximum_debit : eqb tag 0x04 ≡ true → word_at v 0 ≤ 32767
  unfolding value_ok maximum_ok
  maximum_debit e =
      let t : tag ≡ 0x04 = eqb-true tag 0x04 e in
      leb-true _ _ (and_both (eqb (length v) 2) (leb (word_at v 0) 32767) (rw t at k)).1

  agent-length : eqb tag 0x07 ≡ true → agent_length (length v) ≡ true
  unfolding value_ok
  agent-length e = let t : tag ≡ 0x07 = eqb-true tag 0x07 e in rw t at k

-- ---- one value more

-- a value of its length and range keeps to sizes and ranges
pub datum_settled : (dek : List ℕ) (tag : ℕ) (v : List ℕ) (h : Head) → AreBytes v → value_ok tag v ≡ true → Settled h → Settled (datum_set dek tag v h)
unfolding datum_set with_maxnumber with_parameters with_purse parameter_set agent_of
datum_settled dek tag v h f k s =
    let z = s.sized in
    let q = z.purse in
    pick_holds Settled (eqb tag 0x05) _ _
    (λ e. record {
      sized = record { maxnumber = word-at_below v 0 f; admin = z.admin; purse = q; pin = z.pin };
      maxbalance = s.maxbalance;
      maxdebit = s.maxdebit;
      bank = s.bank;
      agent = s.agent;
    })
    (λ e. record {
      sized = record {
        maxnumber = z.maxnumber;
        admin = z.admin;
        purse = record {
          aid = q.aid;
          identifier = pick_holds (Octets 4) (eqb tag 0x01) _ _ (λ t. field_octets v 0 4 f) (λ t. q.identifier);
          currency = pick_holds (λ (n : ℕ). n < 65536) (eqb tag 0x02) _ _ (λ t. word-at_below v 0 f) (λ t. q.currency);
          bank = pick_holds (λ (b : Bank). Octets 16 b.value) (eqb tag 0x06) _ _ (λ t. bank-bytes dek v f) (λ t. q.bank);
          agent = pick_holds (λ (a : Aid). Octets 16 a.bytes) (eqb tag 0x07) _ _ (λ t. field_octets v 0 16 f) (λ t. q.agent);
          debit = q.debit;
          credit = q.credit;
        };
        pin = z.pin;
      };
      maxbalance = pick_holds (λ (n : ℕ). n ≤ 32767) (eqb tag 0x03) _ _ (λ t. maximum tag v k t) (λ t. s.maxbalance);
      maxdebit = pick_holds (λ (n : ℕ). n ≤ 32767) (eqb tag 0x04) _ _ (λ t. maximum_debit tag v k t) (λ t. s.maxdebit);
      bank = pick_holds (λ (b : Bank). bank_ok b ≡ true) (eqb tag 0x06) _ _ (λ t. bank-ok dek v f) (λ t. s.bank);
      agent = pick_holds (λ (a : Aid). agent_ok a ≡ true) (eqb tag 0x07) _ _ (λ t. agent-ok v (agent-length tag v k t)) (λ t. s.agent);
    })

-- ---- all values of STORE DATA

stored_settled : (dek : List ℕ) (st : Stored) (tag : ℕ) (v : List ℕ) → AreBytes v → Settled st.head → Settled (stored dek st tag v).head
unfolding stored acceptable rejected
stored_settled dek st tag v f k =
    pick_holds (λ (x : Stored). Settled x.head) (acceptable st.seen tag v) _ _
    (λ e. datum_settled dek tag v st.head f (and_both (leb 0x01 tag && leb tag 0x07 && eqb (get_or st.seen tag 0) 0) (value_ok tag v) e).1 k)
    (λ e. k)

-- whatever TLVs there are
pub all_settled : (n : ℕ) (dek l : List ℕ) (st : Stored) → AreBytes l → Settled st.head → Settled (stored_all n dek l st).head
unfolding stored_all
all_settled zero dek l st f k = k
all_settled (suc n) dek [] st f k = k
all_settled (suc n) dek (tag ∷ []) st f k = k
all_settled (suc n) dek (tag ∷ size ∷ l) st f k =
    let g : AreBytes l = λ i. f (suc (suc i)) in
    all_settled n dek (drop size l) (stored dek st tag (take size l)) (drop-bytes size l g) (stored_settled dek st tag (take size l) (take-bytes size l g) k)
