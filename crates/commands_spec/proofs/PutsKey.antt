-- PUT KEY in a channel of set 3 is not refused: the set that P2 names has the three keys that were sent under DEK, and nothing else of the
-- card changes. Assumes nothing.
use mathlib.Core.Bool.{true}
use mathlib.Core.List.{List, ◌++◌}
use mathlib.Core.Path.{◌≡◌, refl, ap, ◌∙◌}
use Prim.Native.Nat.{ℕ, ◌+◌, ◌≤◌}
use lib.Dec.{eqb}
use lib.ListN.{length}
use Rattle.octets.specs.Choice.{pick}
use Rattle.des_spec.specs.Des.{encipher}
use Rattle.des_spec.specs.Modes.{ecb_text}
use Rattle.des_spec.proofs.Texts.{length-ecb_text}
use Rattle.card.specs.declared.head.Keys.{Keys}
use Rattle.card.specs.declared.head.KeySet.{KeySet}
use Rattle.card.specs.declared.head.Head.{Head}
use Rattle.card.specs.Keys.{key_bytes, keys_in}
use Rattle.card.specs.Card.{Card}
use Rattle.card.specs.Updates.{with_purse}
use Rattle.card.specs.Proper.{SizedKeys}
use Rattle.card.proofs.Bytes.{keys_octets, keys_read}
use Rattle.session.specs.declared.Set.{Set}
use Rattle.session.specs.declared.Set.TheVariants.{Admin}
use Rattle.session.specs.declared.Level.{Level}
use Rattle.session.specs.declared.Session.{Session}
use Rattle.session.specs.Transitions.{chained}
use Rattle.session.specs.Codes.{set_of}
use Rattle.apdu.specs.declared.instructions.Signed.TheVariants.{PutKey}
use Rattle.apdu.specs.Instructions.{instruction, of84}
use Rattle.apdu.specs.Parameters.{is_set, signed_parameters}
use Rattle.apdu.specs.Lengths.{signed_length}
use Rattle.channel.specs.Channel.{received}
use Rattle.channel.proofs.Results.{received_back}
use Rattle.commands_spec.specs.Outcomes.{done, decided}
use Rattle.commands_spec.specs.KeySets.{with_keys}
use Rattle.commands_spec.specs.PutKey.{put_key_status, put_key_of}
use Rattle.commands_spec.specs.Respond.{signed_of, respond, card_after}
use Rattle.commands_spec.specs.Sent.{signed_command}
use Rattle.commands_spec.specs.Allowed.{LevelOf, Numbered, first, second, third}
use Rattle.commands_spec.proofs.Sending.{InChannel, reaches_signed}
use Rattle.commands_spec.proofs.Heads.{head-after}
use Rattle.commands_spec.proofs.Reasons.{admin_channel}

-- set n has other keys, and all else is as it was
pub record Rekeyed (n : ℕ) (k : Keys) (h next : Head) : Type 0 where
  pub first : next.purse.debit ≡ pick (eqb n 0x01) (record { defined = true; keys = k }) h.purse.debit
  pub second : next.purse.credit ≡ pick (eqb n 0x02) (record { defined = true; keys = k }) h.purse.credit
  pub third : next.shared.admin ≡ pick (eqb n 0x03) k h.shared.admin
  pub aid : next.purse.aid ≡ h.purse.aid
  pub parameters : next.purse.parameters ≡ h.purse.parameters
  pub balance : next.purse.balance ≡ h.purse.balance
  pub maxnumber : next.shared.maxnumber ≡ h.shared.maxnumber
  pub fixed : next.fixed ≡ h.fixed
  pub pin : next.pin ≡ h.pin
  pub state : next.state ≡ h.state

rekeyed : {h : Head} {old : KeySet} {n : ℕ} {set : Set} (k : Keys) → Numbered h old n set → Rekeyed n k h (with_keys (set_of n) k h)
unfolding with_keys with_purse set_of
rekeyed k (first e) =
    record { first = refl; second = refl; third = refl; aid = refl; parameters = refl; balance = refl; maxnumber = refl; fixed = refl; pin = refl; state = refl }
rekeyed k (second e) =
    record { first = refl; second = refl; third = refl; aid = refl; parameters = refl; balance = refl; maxnumber = refl; fixed = refl; pin = refl; state = refl }
rekeyed k (third e) =
    record { first = refl; second = refl; third = refl; aid = refl; parameters = refl; balance = refl; maxnumber = refl; fixed = refl; pin = refl; state = refl }

numbered_set : {h : Head} {old : KeySet} {n : ℕ} {set : Set} → Numbered h old n set → is_set n ≡ true
unfolding is_set
numbered_set (first e) = refl
numbered_set (second e) = refl
numbered_set (third e) = refl

module _ (c : Card) (s : Session) (p1 : ℕ) (l : Level) (n : ℕ) (set : Set) (old : KeySet) (k : Keys) (le random : List ℕ) (short : length le ≤ 1)
    (o : InChannel s l) (admin : LevelOf Admin p1 l) (names : Numbered c.head old n set) (sized : SizedKeys k) where
  -- three keys under the DEK of set 3
  abbrev sent : List ℕ
  sent = ecb_text encipher c.head.shared.admin.dek (k.enc ++ k.mac ++ k.dek)

  key_outcome : ((respond c s (signed_command s 0x84 0xD8 0x00 n sent le) random).status ≡ 0x9000)
      × ((respond c s (signed_command s 0x84 0xD8 0x00 n sent le) random).head ≡ with_keys (set_of n) k c.head)
  unfolding instruction of84 signed_parameters signed_length signed_of put_key_of put_key_status decided done chained key_bytes
  key_outcome =
      let a = admin_channel p1 l c.head admin in
      let b = keys_octets k sized in
      let w : length sent ≡ 48 = length-ecb_text encipher c.head.shared.admin.dek (k.enc ++ k.mac ++ k.dek) ∙ b.size in
      let r : keys_in (received c.head.shared.admin.dek sent) ≡ k =
      ap keys_in (received_back c.head.shared.admin.dek (k.enc ++ k.mac ++ k.dek) b.each) ∙ keys_read k sized in
      let q : signed_length PutKey (length sent + 8) ≡ true = rw w in
      rw (reaches_signed c s random PutKey l 0x84 0xD8 0x00 n sent le short o refl (numbered_set names) q a.0, o.level, a.1, a.2, r)
      (refl, refl)

  -- it is not refused
  pub key_granted : (respond c s (signed_command s 0x84 0xD8 0x00 n sent le) random).status ≡ 0x9000
  key_granted = key_outcome.0

  -- and sets the keys of that set alone
  pub key_set : Rekeyed n k c.head (card_after c s (signed_command s 0x84 0xD8 0x00 n sent le) random).head
  key_set = rw (head-after c s (signed_command s 0x84 0xD8 0x00 n sent le) random, key_outcome.1) (rekeyed k names)
