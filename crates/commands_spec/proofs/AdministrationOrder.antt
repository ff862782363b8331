-- The status word of PUT KEY, PIN CHANGE/UNBLOCK, PUT DATA and STORE DATA past steps 1 to 6 is that of the first reason of its row that holds, and
-- 9000 where none does: of the commands as sent, on every card and in every session. Assumes nothing.
use mathlib.Core.Bool.{Bool, true, false, not, ◌&&◌, ◌||◌, false≢true}
use mathlib.Core.List.{List, []}
use mathlib.Core.Path.{◌≡◌, refl, sym, ◌∙◌, subst}
use Prim.Native.Nat.{ℕ, ◌+◌, ◌≤◌, ◌<◌}
use native.Mathlib.Omega.{arith}
use borrow.Author.Tests.{ltb-true, ltb-false, leb-false, le-ltb, le-leb, lt-leb, eqb-true, eqb-false, eq-eqb, ne_eqb}
use lib.Dec.{ltb, leb, eqb}
use lib.ListN.{length, get_or}
use Rattle.octets.specs.Choice.{refuse}
use Rattle.octets.specs.Bytes.{AreBytes, zeros}
use Rattle.octets.specs.Words.{word_at}
use Rattle.octets.proofs.Conditions.{and_both, neither}
use Rattle.octets.proofs.Equality.{fails}
use Rattle.octets.proofs.Rules.{pick_holds}
use Rattle.des_spec.specs.Des.{decipher}
use Rattle.des_spec.specs.Modes.{ecb_text}
use Rattle.des_spec.proofs.Texts.{length-ecb_text}
use Rattle.card.specs.declared.head.KeySet.{KeySet}
use Rattle.card.specs.declared.head.Head.{Head}
use Rattle.card.specs.Card.{Card}
use Rattle.card.specs.Pin.{well_formed}
use Rattle.card.proofs.Pins.{block_formed, formed_block}
use Rattle.session.specs.declared.Set.{Set}
use Rattle.session.specs.declared.Level.{Level}
use Rattle.session.specs.declared.Session.{Session}
use Rattle.session.specs.Transitions.{chained}
use Rattle.session.specs.Access.{access_of, ADMIN}
use Rattle.apdu.specs.declared.instructions.Signed.TheVariants.{PutKey, PinChange, StoreData, PutData}
use Rattle.apdu.specs.Instructions.{instruction, of84}
use Rattle.apdu.specs.Parameters.{are, is_set, signed_parameters}
use Rattle.apdu.specs.Lengths.{signed_length}
use Rattle.channel.specs.Channel.{received}
use Rattle.commands_spec.specs.declared.store.Stored.{Stored}
use Rattle.commands_spec.specs.Outcomes.{done}
use Rattle.commands_spec.specs.PutKey.{put_key_status, put_key_of}
use Rattle.commands_spec.specs.PinChange.{pin_status, pin_change_of}
use Rattle.commands_spec.specs.Data.{value_ok}
use Rattle.commands_spec.specs.PutData.{locked, undercuts, data_status, put_data_status, put_data_of}
use Rattle.commands_spec.specs.StoreData.{within, unread, stored_all, complete, store_status, store_data_of}
use Rattle.commands_spec.specs.Respond.{signed_of, respond}
use Rattle.commands_spec.specs.Sent.{signed_command}
use Rattle.commands_spec.specs.Allowed.{Numbered, LevelOf}
use Rattle.commands_spec.specs.Values.{KnownTag, known_value, known_variable, Tlv, flat}
use Rattle.commands_spec.specs.Order.{Rule, refuses, passes, Done, accepted, put_key_rules, IsPin, unblock_rules, pin_change_rules, IsTlvs, IsWhole, store_rules, put_data_rules}
use Rattle.commands_spec.proofs.Sending.{InChannel, reaches_signed}
use Rattle.commands_spec.proofs.Reasons.{row, unset, lacking, judged-word, not_refuted, set-access, set-dek, admin_tells}
use Rattle.commands_spec.proofs.Values.{up_to_seven, value_taken, value-only, known_tag}
use Rattle.commands_spec.proofs.Tlvs.{stored_list, flat-within, flat-stored, within-tlvs}
use Rattle.commands_spec.proofs.Listed.{none_unseen, zero_at, each-bytes, list_taken, good_listed, came_carried}

-- a block is well formed exactly where it is that of some digits
pin_tells : (dek body : List ℕ) → length body ≡ 8
    → (well_formed (ecb_text decipher dek body) ≡ true → IsPin dek body) × (IsPin dek body → well_formed (ecb_text decipher dek body) ≡ true)
pin_tells dek body long = (
  λ e.
      let f = formed_block (ecb_text decipher dek body) (length-ecb_text decipher dek body ∙ long) e in
      record { digits = _; each = f.0; block = f.1 },
  λ k. rw k.block (block_formed k.digits k.each),
)

-- ---- PUT DATA

-- the tests on a tag hold exactly where their reasons do
module _ (tag balance : ℕ) where
  unlocked : (tag ≤ 0x07) × (tag ≡ 0x01 → ⊥) × (tag ≡ 0x02 → balance ≡ 0) → locked tag balance ≡ false
  unfolding locked
  unlocked m =
      let b : (eqb tag 0x02 && ltb 0 balance) ≡ false =
      fails _ (λ e. let t = and_both (eqb tag 0x02) (ltb 0 balance) e in omega (arith, m.2 (eqb-true tag 0x02 t.0), ltb-true 0 balance t.1)) in
      rw (lt-leb 0x14 tag (omega (arith, m.0)), ne_eqb tag 0x01 m.1, b)

  locked_told : KnownTag tag → ((tag ≤ 0x07) × (tag ≡ 0x01 → ⊥) × (tag ≡ 0x02 → balance ≡ 0) → ⊥) → locked tag balance ≡ true
  unfolding locked
  locked_told k n =
      not_refuted _
      (λ e.
      let a = neither (leb 0x14 tag || eqb tag 0x01) (eqb tag 0x02 && ltb 0 balance) e in
      let b = neither (leb 0x14 tag) (eqb tag 0x01) a.0 in
      n (known_low tag k (leb-false 0x14 tag b.0), eqb-false tag 0x01 b.1, λ q. ltb_zero (rw (eq-eqb tag 0x02 q) at a.1)))
    where
      known_low : (t : ℕ) → KnownTag t → t < 0x14 → t ≤ 0x07
      known_low t (known_value t' x y) z = y
      known_low t (known_variable t' x y) z = absurd (omega arith)

      ltb_zero : ltb 0 balance ≡ false → balance ≡ 0
      ltb_zero e = let k = ltb-false 0 balance e in omega arith

module _ (tag value balance number : ℕ) where
  above : (tag ≡ 0x03 → balance ≤ value) × (tag ≡ 0x05 → number ≤ value) → undercuts tag value balance number ≡ false
  unfolding undercuts
  above m =
      pick_holds (λ (b : Bool). b ≡ false) (eqb tag 0x03) _ _ (λ e. le-ltb value balance (m.0 (eqb-true tag 0x03 e)))
      (λ e. pick_holds (λ (b : Bool). b ≡ false) (eqb tag 0x05) _ _ (λ f. le-ltb value number (m.1 (eqb-true tag 0x05 f))) (λ f. refl))

  undercut_told : ((tag ≡ 0x03 → balance ≤ value) × (tag ≡ 0x05 → number ≤ value) → ⊥) → undercuts tag value balance number ≡ true
  unfolding undercuts
  undercut_told n =
      not_refuted _
      (λ e. n (λ q. ltb-false value balance (rw (eq-eqb tag 0x03 q) at e), λ q. ltb-false value number (rw (ne_eqb tag 0x03 (λ z. omega arith), eq-eqb tag 0x05 q) at e)))

-- ---- STORE DATA

storable_passes : (p d k : Bool) → (p ≡ false) × (d ≡ true) × (k ≡ true) → (p || not (d && k)) ≡ false
storable_passes p d k m = rw (m.0, m.1, m.2)

storable_told : (p d k : Bool) → ((p ≡ false) × (d ≡ true) × (k ≡ true) → ⊥) → (p || not (d && k)) ≡ true
storable_told true d k n = refl
storable_told false true true n = absurd (n (refl, refl, refl))
storable_told false true false n = refl
storable_told false false k n = refl

-- no tag has come at first
zero_mark : (tag : ℕ) → get_or (zeros 8) tag 0 ≡ 1 → ⊥
zero_mark tag e = let z : get_or (zeros 8) tag 0 ≡ 0 = zero_at 8 tag in omega arith

-- 01 to 05 have come
came_five : (seen : List ℕ) → complete seen ≡ true → (tag : ℕ) → 0x01 ≤ tag → tag ≤ 0x05 → get_or seen tag 0 ≡ 1
unfolding complete
came_five seen e tag x y =
    let a = and_both (((eqb (get_or seen 1 0) 1 && eqb (get_or seen 2 0) 1) && eqb (get_or seen 3 0) 1) && eqb (get_or seen 4 0) 1) (eqb (get_or seen 5 0) 1) e in
    let b = and_both ((eqb (get_or seen 1 0) 1 && eqb (get_or seen 2 0) 1) && eqb (get_or seen 3 0) 1) (eqb (get_or seen 4 0) 1) a.0 in
    let d = and_both (eqb (get_or seen 1 0) 1 && eqb (get_or seen 2 0) 1) (eqb (get_or seen 3 0) 1) b.0 in
    let f = and_both (eqb (get_or seen 1 0) 1) (eqb (get_or seen 2 0) 1) d.0 in
    up_to_seven (λ (n : ℕ). 0x01 ≤ n → n ≤ 0x05 → get_or seen n 0 ≡ 1) (λ p q. absurd (omega arith)) (λ p q. eqb-true _ _ f.0) (λ p q. eqb-true _ _ f.1)
    (λ p q. eqb-true _ _ d.1) (λ p q. eqb-true _ _ b.1) (λ p q. eqb-true _ _ a.1) (λ p q. absurd (omega arith)) (λ p q. absurd (omega arith)) tag (omega arith) x y

module _ (h : Head) (dek body : List ℕ) where
  -- what the bytes say
  abbrev read : Stored
  read = stored_all (length body) dek body (unread h)

  -- of some TLVs
  read_list : (xs : List Tlv) → flat xs ≡ body → read ≡ stored_list dek xs (unread h)
  read_list xs e = subst (λ (l : List ℕ). stored_all (length l) dek l (unread h) ≡ stored_list dek xs (unread h)) e (flat-stored (length (flat xs)) dek xs (unread h) (omega arith))

  -- a whole list is good and complete
  whole_good : IsWhole dek body → (read.good && complete read.seen) ≡ true
  unfolding complete
  whole_good w =
      let t = list_taken dek w.tlvs (unread h) w.listed (none_unseen w.tlvs) refl in
      let came : (tag : ℕ) → 0x01 ≤ tag → tag ≤ 0x05 → get_or (stored_list dek w.tlvs (unread h)).seen tag 0 ≡ 1 =
      λ tag x y. let r = w.needed tag x y in t.came tag r.0 r.1 in
      rw (
        read_list w.tlvs w.bytes,
        t.good,
        came 0x01 (omega arith) (omega arith),
        came 0x02 (omega arith) (omega arith),
        came 0x03 (omega arith) (omega arith),
        came 0x04 (omega arith) (omega arith),
        came 0x05 (omega arith) (omega arith),
      )

  -- and what is good and complete is a whole list
  good_whole : AreBytes body → IsTlvs body → (read.good && complete read.seen) ≡ true → IsWhole dek body
  unfolding complete
  good_whole bytes i e =
      let xs = i.tlvs in
      let st = stored_list dek xs (unread h) in
      let f : (st.good && complete st.seen) ≡ true = rw (read_list xs i.bytes) at e in
      let g = and_both st.good (complete st.seen) f in
      let l = good_listed dek xs (unread h) (each-bytes dek xs (rw i.bytes bytes)) refl g.0 in
      let d = came_five st.seen g.1 in
      record {
        tlvs = xs;
        bytes = i.bytes;
        listed = l.0;
        needed = λ tag x y. came_carried dek tag xs (unread h) l.0 l.1 refl (zero_mark tag) (d tag x y);
      }

  tlv_rows : AreBytes body → Rule (IsTlvs body → ⊥) 0x6A85 (Rule (IsWhole dek body → ⊥) 0x6A80 Done)
      (refuse (not (within (length body) body)) 0x6A85 (refuse (not (read.good && complete read.seen)) 0x6A80 0x9000))
  tlv_rows bytes = go (within (length body) body) refl
    where
      go : (b : Bool) → within (length body) body ≡ b → Rule (IsTlvs body → ⊥) 0x6A85 (Rule (IsWhole dek body → ⊥) 0x6A80 Done)
          (refuse (not b) 0x6A85 (refuse (not (read.good && complete read.seen)) 0x6A80 0x9000))
      go false e =
          refuses
          (λ i. false≢true (sym e ∙ subst (λ (l : List ℕ). within (length l) l ≡ true) i.bytes (flat-within (length (flat i.tlvs)) i.tlvs (omega arith))))
      go true e =
          let i = within-tlvs (length body) body (omega arith) e in
          passes (λ n. n i) (lacking (read.good && complete read.seen) 0x6A80 0x9000 (good_whole bytes i) whole_good accepted)

-- ---- the commands as sent

module _ (c : Card) (s : Session) (set : Set) (p : ℕ) (l : Level) (le random : List ℕ) (short : length le ≤ 1) (o : InChannel s l) (v : LevelOf set p l) where
  -- PUT KEY of a set 1 to 3
  pub put_key_order : (n : ℕ) (body : List ℕ) → 1 ≤ n → n ≤ 3 → length body ≡ 48 → put_key_rules set (respond c s (signed_command s 0x84 0xD8 0x00 n body le) random).status
  unfolding instruction of84 is_set signed_parameters signed_length signed_of put_key_of put_key_status done chained
  put_key_order n body low high long =
      let a = set-access set p l v in
      let k = admin_tells set in
      rw (
        reaches_signed c s random PutKey l 0x84 0xD8 0x00 n body le short o refl (rw (le-leb 1 n low, le-leb n 3 high)) (rw long) a.1,
        o.level,
        a.0,
      )
      (subst (put_key_rules set) (sym (judged-word _ _ _ _ refl)) (row (ltb (access_of set) ADMIN) 0x6982 0x9000 k.0 k.1 accepted))

  -- UNBLOCK
  pub unblock_order : unblock_rules c.head set (respond c s (signed_command s 0x84 0x24 0x00 0x00 [] le) random).status
  unfolding instruction of84 are signed_parameters signed_length signed_of pin_change_of pin_status done chained
  unblock_order =
      let a = set-access set p l v in
      let k = admin_tells set in
      rw (reaches_signed c s random PinChange l 0x84 0x24 0x00 0x00 [] le short o refl refl refl a.1, o.level, a.0)
      (subst (unblock_rules c.head set) (sym (judged-word _ _ _ _ refl))
      (unset c.head.pin.defined 0x6A81 _ (row (ltb (access_of set) ADMIN) 0x6982 0x9000 k.0 k.1 accepted)))

  -- with the DEK of the channel's set
  module _ (number : ℕ) (keys : KeySet) (m : Numbered c.head keys number set) where
    -- PIN CHANGE
    pub pin_change_order : (body : List ℕ) → length body ≡ 8
        → pin_change_rules set keys.keys.dek body (respond c s (signed_command s 0x84 0x24 0x00 0x00 body le) random).status
    unfolding instruction of84 are signed_parameters signed_length signed_of pin_change_of pin_status done chained received
    pin_change_order body long =
        let a = set-access set p l v in
        let k = admin_tells set in
        let q : signed_length PinChange (length body + 8) ≡ true = rw long in
        let z = pin_tells keys.keys.dek body long in
        rw (reaches_signed c s random PinChange l 0x84 0x24 0x00 0x00 body le short o refl refl q a.1, o.level, a.0, long, set-dek m v)
        (subst (pin_change_rules set keys.keys.dek body) (sym (judged-word _ _ _ _ refl))
        (row (ltb (access_of set) ADMIN) 0x6982 _ k.0 k.1
        (lacking (well_formed (ecb_text decipher keys.keys.dek body)) 0x6A80 _ z.0 z.1 accepted)))

    -- PUT DATA of a tag of the table
    pub put_data_order : (tag : ℕ) (sent : List ℕ) → KnownTag tag → AreBytes sent
        → put_data_rules c.head set keys.keys.dek tag sent (respond c s (signed_command s 0x84 0xDA 0x02 tag sent le) random).status
    unfolding instruction of84 signed_parameters signed_length signed_of put_data_of put_data_status data_status done chained
    put_data_order tag sent known bytes =
        let a = set-access set p l v in
        let k = admin_tells set in
        rw (
          reaches_signed c s random PutData l 0x84 0xDA 0x02 tag sent le short o refl (known_tag tag known) (le-leb 8 (length sent + 8) (omega arith)) a.1,
          o.level,
          a.0,
        )
        (subst (put_data_rules c.head set keys.keys.dek tag sent) (sym (judged-word _ _ _ _ refl))
        (unset c.head.purse.parameters.personalized 0x6985 _
        (row (locked tag c.head.purse.balance) 0x6A81 _ (λ e n. false≢true (sym (unlocked tag c.head.purse.balance n) ∙ e)) (locked_told tag c.head.purse.balance known)
        (row (ltb (access_of set) ADMIN) 0x6982 _ k.0 k.1
        (lacking (value_ok tag sent) 0x6A80 _ (value-only keys.keys.dek tag sent bytes) (λ w. value_taken keys.keys.dek w.value)
        (row (undercuts tag (word_at sent 0) c.head.purse.balance c.head.state.number) 0x6A80 _
        (λ e n. false≢true (sym (above tag (word_at sent 0) c.head.purse.balance c.head.state.number n) ∙ e))
        (undercut_told tag (word_at sent 0) c.head.purse.balance c.head.state.number)
        accepted))))))

    -- STORE DATA
    pub store_data_order : (body : List ℕ) → AreBytes body
        → store_rules c.head set keys.keys.dek body (respond c s (signed_command s 0x84 0xE2 0x80 0x00 body le) random).status
    unfolding instruction of84 are signed_parameters signed_length signed_of store_data_of store_status done chained
    store_data_order body bytes =
        let a = set-access set p l v in
        let k = admin_tells set in
        rw (
          reaches_signed c s random StoreData l 0x84 0xE2 0x80 0x00 body le short o refl refl (le-leb 8 (length body + 8) (omega arith)) a.1,
          o.level,
          a.0,
          set-dek m v,
        )
        (subst (store_rules c.head set keys.keys.dek body) (sym (judged-word _ _ _ _ refl))
        (row (c.head.purse.parameters.personalized || not (c.head.purse.debit.defined && c.head.purse.credit.defined)) 0x6985 _
        (λ e n. false≢true (sym (storable_passes _ _ _ n) ∙ e)) (storable_told _ _ _)
        (row (ltb (access_of set) ADMIN) 0x6982 _ k.0 k.1
        (tlv_rows c.head keys.keys.dek body bytes))))
