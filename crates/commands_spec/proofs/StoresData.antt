-- STORE DATA of values that document 01 allows, 01 to 05 among them and no tag twice, in a channel of set 3 on a card that isn't personalized
-- and has sets 1 and 2: it is not refused, the card is personalized, and GET DATA then reads each value. Assumes nothing.
use mathlib.Core.Bool.{Bool, true, false, ◌&&◌}
use mathlib.Core.List.{List, [], ◌∷◌, ◌++◌}
use mathlib.Core.Path.{◌≡◌, refl, ap, ◌∙◌}
use Prim.Native.Nat.{ℕ, ◌≤◌}
use lib.ListN.{length, get_or}
use Rattle.octets.specs.Words.{word}
use Rattle.octets.specs.Buffers.{content}
use Rattle.card.specs.declared.head.Head.{Head}
use Rattle.card.specs.Card.{Card}
use Rattle.session.specs.declared.Set.TheVariants.{Admin}
use Rattle.session.specs.declared.Level.{Level}
use Rattle.session.specs.declared.Session.{Session}
use Rattle.session.specs.Transitions.{ended, chained}
use Rattle.session.specs.Access.{ADMIN}
use Rattle.apdu.specs.Parameters.{is_tag}
use Rattle.commands_spec.specs.declared.store.Stored.{Stored}
use Rattle.commands_spec.specs.declared.outcome.Commits.TheVariants.{HotAndCold}
use Rattle.commands_spec.specs.declared.outcome.Outcome.{Outcome}
use Rattle.commands_spec.specs.Outcomes.{done, decided}
use Rattle.card.specs.Updates.{with_parameters, with_purse}
use Rattle.commands_spec.specs.KeySets.{dek_of}
use Rattle.commands_spec.specs.Data.{datum}
use Rattle.commands_spec.specs.StoreData.{unread, complete, store_status, personalized}
use Rattle.commands_spec.specs.Respond.{respond, card_after}
use Rattle.commands_spec.specs.Sent.{next_mac, signed_text, bare_command}
use Rattle.commands_spec.specs.Allowed.{LevelOf}
use Rattle.commands_spec.specs.Values.{Tlv, flat, Carries, Listed}
use Rattle.commands_spec.proofs.Sending.{InChannel}
use Rattle.commands_spec.proofs.Heads.{head-after}
use Rattle.commands_spec.proofs.Values.{up_to_seven}
use Rattle.commands_spec.proofs.PutsData.{get_answers}
use Rattle.commands_spec.proofs.Reasons.{admin_channel}
use Rattle.commands_spec.proofs.Listed.{Taken, none_unseen, list_taken}
use Rattle.commands_spec.proofs.Tlvs.{stored_list}
use Rattle.commands_spec.proofs.AnyOrder.{storing, store_reached, store_word, read, read_outcome}

-- ---- the command

-- no rule refuses
rules_pass : (p d k : Bool) (level : ℕ) (good : Bool) (seen : List ℕ) → p ≡ false → d ≡ true → k ≡ true → level ≡ ADMIN → good ≡ true
    → get_or seen 1 0 ≡ 1 → get_or seen 2 0 ≡ 1 → get_or seen 3 0 ≡ 1 → get_or seen 4 0 ≡ 1 → get_or seen 5 0 ≡ 1
    → store_status p (d && k) level true (good && complete seen) ≡ 0x9000
unfolding store_status complete
rules_pass p d k level good seen e f g h j q1 q2 q3 q4 q5 = rw (e, f, g, h, j, q1, q2, q3, q4, q5)

-- of the tags 01 to 07 personalization itself changes none
personalized_reads : (h : Head) (flag : Bool) (tag : ℕ) → tag ≤ 0x07 → datum (personalized h) flag tag ≡ datum h flag tag
unfolding datum personalized with_parameters with_purse
personalized_reads h flag = up_to_seven (λ (n : ℕ). datum (personalized h) flag n ≡ datum h flag n) refl refl refl refl refl refl refl refl

module _ (c : Card) (s : Session) (p1 : ℕ) (l : Level) (xs : List Tlv) (le random : List ℕ) (short : length le ≤ 1) (o : InChannel s l) (admin : LevelOf Admin p1 l)
    (unpersonal : c.head.purse.parameters.personalized ≡ false) (debit : c.head.purse.debit.defined ≡ true)
    (credit : c.head.purse.credit.defined ≡ true) (listed : Listed c.head.shared.admin.dek xs) where
  abbrev dek : List ℕ
  dek = c.head.shared.admin.dek

  abbrev moved : Session
  moved = chained (next_mac s (signed_text 0x84 0xE2 0x80 0x00 (flat xs))) s

  -- what the TLVs leave
  abbrev left : Stored
  left = stored_list dek xs (unread c.head)

  left_taken : Taken dek xs (unread c.head) left
  left_taken = list_taken dek xs (unread c.head) listed (none_unseen xs) refl

  -- tags 01 to 05 are there
  module _ (v1 v2 v3 v4 v5 : List ℕ) (has1 : Carries dek 0x01 v1 xs) (has2 : Carries dek 0x02 v2 xs) (has3 : Carries dek 0x03 v3 xs)
      (has4 : Carries dek 0x04 v4 xs) (has5 : Carries dek 0x05 v5 xs) where
    store_judged : store_word c moved.channel.level (read c moved xs) ≡ 0x9000
    unfolding chained
    store_judged =
        let a = admin_channel p1 l c.head admin in
        rw (o.level, a.1, a.2)
        (rules_pass _ _ _ _ _ _ unpersonal debit credit refl left_taken.good (left_taken.came 0x01 v1 has1) (left_taken.came 0x02 v2 has2) (left_taken.came 0x03 v3 has3)
        (left_taken.came 0x04 v4 has4) (left_taken.came 0x05 v5 has5))

    store_outcome : respond c s (storing s xs le) random ≡ done HotAndCold (personalized left.head) (ended moved) []
    unfolding decided chained
    store_outcome =
        let a = admin_channel p1 l c.head admin in
        let k : dek_of s.channel.level c.head ≡ dek = rw o.level a.2 in
        rw (store_reached c s Admin p1 l xs le random short o admin, read_outcome c moved xs, store_judged, k)

    -- it is not refused
    pub store_granted : (respond c s (storing s xs le) random).status ≡ 0x9000
    unfolding done
    store_granted = rw store_outcome

    store_head : (card_after c s (storing s xs le) random).head ≡ personalized left.head
    unfolding done
    store_head = head-after c s (storing s xs le) random ∙ ap (λ (x : Outcome). x.head) store_outcome

    -- the card is personalized
    pub store_personalizes : (card_after c s (storing s xs le) random).head.purse.parameters.personalized ≡ true
    unfolding personalized with_parameters with_purse
    store_personalizes = ap (λ (h : Head). h.purse.parameters.personalized) store_head

    -- each value stands under its tag
    pub store_datum : (tag : ℕ) (v : List ℕ) (flag : Bool) → Carries dek tag v xs → tag ≤ 0x07 → datum (card_after c s (storing s xs le) random).head flag tag ≡ v
    store_datum tag v flag has k = rw store_head (personalized_reads left.head flag tag k ∙ left_taken.reads tag v flag has)

    -- and GET DATA reads it
    pub store_reads : (tag : ℕ) (v : List ℕ) (t : Session) (le' random' : List ℕ) → Carries dek tag v xs → tag ≤ 0x07 → is_tag tag ≡ true → t.selected ≡ true → length le' ≤ 1
        → content (respond (card_after c s (storing s xs le) random) t (bare_command 0x80 0xCA 0x02 tag le') random').reply ≡ length v ∷ v ++ word 0x9000
    store_reads tag v t le' random' has k q sel short' =
        get_answers (card_after c s (storing s xs le) random) t tag le' random' sel q short'
        ∙ ap (λ (x : List ℕ). length x ∷ x ++ word 0x9000) (store_datum tag v t.verified has k)
