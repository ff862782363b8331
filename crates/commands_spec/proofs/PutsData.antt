-- PUT DATA of a value that document 01 allows, in a channel of set 3, is not refused, and GET DATA then reads that value. Assumes nothing.
use mathlib.Core.Bool.{true, false}
use mathlib.Core.List.{List, ◌∷◌, ◌++◌}
use mathlib.Core.Path.{◌≡◌, refl, ap, ◌∙◌}
use Prim.Native.Nat.{ℕ, ◌+◌, ◌≤◌}
use native.Mathlib.Omega.{arith}
use borrow.Author.Tests.{le-ltb, le-leb}
use lib.ListN.{length}
use Rattle.octets.specs.Words.{word, word_at}
use Rattle.octets.specs.Buffers.{content}
use Rattle.octets.proofs.Holding.{content-holding}
use Rattle.card.specs.declared.head.Head.{Head}
use Rattle.card.specs.Card.{Card}
use Rattle.session.specs.declared.Set.TheVariants.{Admin}
use Rattle.session.specs.declared.Level.{Level}
use Rattle.session.specs.declared.Session.{Session}
use Rattle.session.specs.Transitions.{chained}
use Rattle.apdu.specs.declared.instructions.Plain.TheVariants.{GetData}
use Rattle.apdu.specs.declared.instructions.Signed.TheVariants.{PutData}
use Rattle.apdu.specs.Instructions.{instruction, of80, of84}
use Rattle.apdu.specs.Parameters.{is_tag, plain_parameters, signed_parameters, has_record}
use Rattle.apdu.specs.Lengths.{plain_length, signed_length}
use Rattle.apdu.specs.Early.{is_select}
use Rattle.commands_spec.specs.Outcomes.{done, decided}
use Rattle.commands_spec.specs.Data.{datum_set, datum}
use Rattle.commands_spec.specs.GetData.{get_data_of}
use Rattle.commands_spec.specs.PutData.{locked, undercuts, data_status, put_data_status, put_data_of}
use Rattle.commands_spec.specs.Respond.{plain_of, signed_of, respond, card_after}
use Rattle.commands_spec.specs.Sent.{bare_command, signed_command}
use Rattle.commands_spec.specs.Allowed.{LevelOf}
use Rattle.commands_spec.specs.Values.{Value, identifier, currency, maximum_balance, maximum_debit, maximum_number, bank, no_bank, agent, no_agent, Settable}
use Rattle.commands_spec.proofs.Reasons.{admin_channel}
use Rattle.commands_spec.proofs.Sending.{InChannel, reaches_bare, reaches_signed}
use Rattle.commands_spec.proofs.Heads.{head-after}
use Rattle.commands_spec.proofs.Values.{value_taken, value-within, value_read}

-- ---- GET DATA

-- it answers the value of a tag behind its length
pub get_answers : (c : Card) (s : Session) (tag : ℕ) (le random : List ℕ) → s.selected ≡ true → is_tag tag ≡ true → length le ≤ 1
    → let v = datum c.head s.verified tag in
    content (respond c s (bare_command 0x80 0xCA 0x02 tag le) random).reply ≡ length v ∷ v ++ word 0x9000
unfolding instruction of80 is_select plain_parameters has_record plain_length plain_of get_data_of done
get_answers c s tag le random sel t short =
    rw (reaches_bare c s random GetData 0x80 0xCA 0x02 tag le short refl sel t refl refl) (content-holding _)

-- ---- PUT DATA

module _ {dek : List ℕ} where
  pub value-tag : {tag : ℕ} {v sent : List ℕ} → Value dek tag v sent → is_tag tag ≡ true
  unfolding is_tag
  value-tag value = let w = value-within dek value in rw (w.0, w.1)

  settable_passes : {tag : ℕ} {v sent : List ℕ} (h : Head) → Value dek tag v sent → Settable h tag v
      → (locked tag h.purse.balance ≡ false) × (undercuts tag (word_at sent 0) h.purse.balance h.state.number ≡ false)
  unfolding locked undercuts
  settable_passes h (identifier v l) s = absurd (s.identifier refl)
  settable_passes h (currency n) s = (rw (s.currency refl), refl)
  settable_passes h (maximum_balance n k) s = (refl, le-ltb _ _ (s.balance refl))
  settable_passes h (maximum_debit n k) s = (refl, refl)
  settable_passes h (maximum_number n) s = (refl, le-ltb _ _ (s.number refl))
  settable_passes h (bank v l f) s = (refl, refl)
  settable_passes h no_bank s = (refl, refl)
  settable_passes h (agent v j k) s = (refl, refl)
  settable_passes h no_agent s = (refl, refl)

module _ (c : Card) (s : Session) (p1 : ℕ) (l : Level) (tag : ℕ) (v sent le random : List ℕ) (short : length le ≤ 1) (o : InChannel s l)
    (admin : LevelOf Admin p1 l) (personal : c.head.purse.parameters.personalized ≡ true) (value : Value c.head.shared.admin.dek tag v sent)
    (settable : Settable c.head tag v) where
  put-outcome : ((respond c s (signed_command s 0x84 0xDA 0x02 tag sent le) random).status ≡ 0x9000)
      × ((respond c s (signed_command s 0x84 0xDA 0x02 tag sent le) random).head ≡ datum_set c.head.shared.admin.dek tag sent c.head)
  unfolding instruction of84 signed_parameters signed_length signed_of put_data_of put_data_status data_status decided done chained
  put-outcome =
      let a = admin_channel p1 l c.head admin in
      let k = settable_passes c.head value settable in
      rw (
        reaches_signed c s random PutData l 0x84 0xDA 0x02 tag sent le short o refl (value-tag value) (le-leb 8 (length sent + 8) (omega arith)) a.0,
        o.level,
        a.1,
        a.2,
        personal,
        k.0,
        value_taken c.head.shared.admin.dek value,
        k.1,
      )
      (refl, refl)

  -- it is not refused
  pub put_granted : (respond c s (signed_command s 0x84 0xDA 0x02 tag sent le) random).status ≡ 0x9000
  put_granted = put-outcome.0

  -- and GET DATA then reads the value
  pub put_reads : (t : Session) (le' random' : List ℕ) → t.selected ≡ true → length le' ≤ 1
      → content (respond (card_after c s (signed_command s 0x84 0xDA 0x02 tag sent le) random) t (bare_command 0x80 0xCA 0x02 tag le') random').reply
      ≡ length v ∷ v ++ word 0x9000
  put_reads t le' random' sel short' =
      let d = card_after c s (signed_command s 0x84 0xDA 0x02 tag sent le) random in
      let r : datum d.head t.verified tag ≡ v =
      rw (head-after c s (signed_command s 0x84 0xDA 0x02 tag sent le) random, put-outcome.1) (value_read c.head.shared.admin.dek c.head t.verified value) in
      get_answers d t tag le' random' sel (value-tag value) short' ∙ ap (λ (x : List ℕ). length x ∷ x ++ word 0x9000) r
