-- VERIFY PIN in a channel of set 2 or 3 on a personalized card with a PIN and a try left: the right PIN is not refused, fills the tries and sets
-- the flag; any other eight bytes, ill-formed ones too, cost one try and clear it. Assumes nothing.
use mathlib.Core.Bool.{true, false, false≢true}
use mathlib.Core.List.{List}
use mathlib.Core.Path.{◌≡◌, refl, sym, ap, ◌∙◌}
use Prim.Native.Nat.{ℕ, ◌-◌, ◌≤◌, ◌<◌}
use native.Mathlib.Omega.{arith}
use borrow.Author.Tests.{ne_eqb}
use lib.Dec.{ltb}
use lib.ListN.{length}
use Rattle.octets.specs.Bytes.{Octets, same}
use Rattle.octets.proofs.Equality.{same_refl, differ_same}
use Rattle.des_spec.specs.Des.{encipher, decipher}
use Rattle.des_spec.specs.Modes.{ecb_text}
use Rattle.des_spec.proofs.Texts.{length-ecb_text}
use Rattle.card.specs.Card.{Card}
use Rattle.card.specs.Pin.{well_formed}
use Rattle.card.specs.Proper.{pin_ok, Proper}
use Rattle.card.specs.Changes.{changed, head_after, log_after, after}
use Rattle.session.specs.declared.Set.{Set}
use Rattle.session.specs.declared.Set.TheVariants.{Debit, Credit, Admin}
use Rattle.session.specs.declared.Level.{Level}
use Rattle.session.specs.declared.Session.{Session}
use Rattle.session.specs.Transitions.{flagged}
use Rattle.session.specs.Access.{access, access_of, CREDIT}
use Rattle.apdu.specs.declared.instructions.Plain.TheVariants.{VerifyPin}
use Rattle.apdu.specs.Instructions.{instruction, of94}
use Rattle.apdu.specs.Parameters.{are, plain_parameters, has_record}
use Rattle.apdu.specs.Lengths.{plain_length}
use Rattle.apdu.specs.Early.{is_select}
use Rattle.channel.specs.Channel.{received}
use Rattle.channel.proofs.Results.{received_back}
use Rattle.commands_spec.specs.Outcomes.{done, decided, tried, changes_of, commits_of}
use Rattle.card.specs.Updates.{with_state, with_tries, with_balance, with_purse}
use Rattle.commands_spec.specs.VerifyPin.{verify_status, judged, verify_pin_of}
use Rattle.commands_spec.specs.Respond.{plain_of, respond, card_after}
use Rattle.commands_spec.specs.Sent.{plain_command}
use Rattle.commands_spec.specs.Allowed.{LevelOf, with_cmac, with_rmac, tries_left}
use Rattle.commands_spec.proofs.Facts.{facts}
use Rattle.commands_spec.proofs.Sending.{InChannel, reaches_plain}

-- set 2 and set 3 have access CREDIT, at either level
credited : (set : Set) (p1 : ℕ) (l : Level) → LevelOf set p1 l → (set ≡ Debit → ⊥) → ltb (access l) CREDIT ≡ false
unfolding access access_of
credited Debit p1 l v n = absurd (n refl)
credited Credit p1 l with_cmac n = refl
credited Credit p1 l with_rmac n = refl
credited Admin p1 l with_cmac n = refl
credited Admin p1 l with_rmac n = refl

module _ (c : Card) (s : Session) (set : Set) (p1 : ℕ) (l : Level) (le random : List ℕ) (short : length le ≤ 1) (o : InChannel s l) (v : LevelOf set p1 l)
    (n : set ≡ Debit → ⊥) (personal : c.head.purse.parameters.personalized ≡ true) (defined : c.head.pin.defined ≡ true)
    (left : 0 < c.head.state.tries) where
  judged_as : (sent : List ℕ) → length sent ≡ 8
      → respond c s (plain_command 0x94 0x20 0x00 0x00 sent le) random ≡ judged (same (received s.channel.enc sent) c.head.pin.block) c.head s
  unfolding instruction of94 is_select are plain_parameters has_record plain_length plain_of verify_pin_of verify_status decided
  judged_as sent long =
      rw (
        reaches_plain c s random VerifyPin 0x94 0x20 0x00 0x00 sent le (omega arith) short refl o.selected refl refl (rw long),
        o.level,
        personal,
        defined,
        credited set p1 l v n,
        ne_eqb c.head.state.tries 0 (λ z. omega arith),
      )

  -- ---- the right PIN

  module _ (block : Octets 8 c.head.pin.block) where
    -- the PIN "under the ENC session key"
    abbrev right : List ℕ
    right = ecb_text encipher s.channel.enc c.head.pin.block

    right_judged : respond c s (plain_command 0x94 0x20 0x00 0x00 right le) random ≡ judged true c.head s
    right_judged =
        judged_as right (length-ecb_text encipher s.channel.enc c.head.pin.block ∙ block.size)
        ∙ rw (received_back s.channel.enc c.head.pin.block block.each, same_refl c.head.pin.block)

    pub right_granted : (respond c s (plain_command 0x94 0x20 0x00 0x00 right le) random).status ≡ 0x9000
    unfolding judged done
    right_granted = rw right_judged

    pub right_flags : (respond c s (plain_command 0x94 0x20 0x00 0x00 right le) random).session.verified ≡ true
    unfolding judged done flagged
    right_flags = rw right_judged

    pub right_fills : card_after c s (plain_command 0x94 0x20 0x00 0x00 right le) random ≡ tries_left c.head.fixed.maxtries c
    unfolding card_after judged done commits_of changes_of after changed head_after log_after with_state with_tries with_balance with_purse tries_left
    right_fills = rw right_judged

  -- ---- any other

  module _ (sent : List ℕ) (long : length sent ≡ 8) (other : ecb_text decipher s.channel.enc sent ≡ c.head.pin.block → ⊥) where
    wrong_judged : respond c s (plain_command 0x94 0x20 0x00 0x00 sent le) random ≡ judged false c.head s
    unfolding received
    wrong_judged = judged_as sent long ∙ rw (differ_same (ecb_text decipher s.channel.enc sent) c.head.pin.block other)

    pub wrong_refused : (respond c s (plain_command 0x94 0x20 0x00 0x00 sent le) random).status ≡ 0x6300
    unfolding judged
    wrong_refused = rw wrong_judged

    pub wrong_unflags : (respond c s (plain_command 0x94 0x20 0x00 0x00 sent le) random).session.verified ≡ false
    unfolding judged flagged
    wrong_unflags = rw wrong_judged

    pub wrong_costs : card_after c s (plain_command 0x94 0x20 0x00 0x00 sent le) random ≡ tries_left (c.head.state.tries - 1) c
    unfolding card_after judged commits_of changes_of after changed head_after log_after with_state with_balance with_purse tried tries_left
    wrong_costs = rw wrong_judged

  -- ---- an ill-formed one: the PIN of a card is well formed, so it is another

  module _ (proper : Proper c) (sent : List ℕ) (long : length sent ≡ 8) (ill : well_formed (ecb_text decipher s.channel.enc sent) ≡ false) where
    ill_formed_other : ecb_text decipher s.channel.enc sent ≡ c.head.pin.block → ⊥
    unfolding pin_ok
    ill_formed_other e =
        let f : well_formed c.head.pin.block ≡ true = rw defined at (facts c.head proper.tests).pin in
        false≢true (sym ill ∙ ap well_formed e ∙ f)

    pub ill_formed_refused : (respond c s (plain_command 0x94 0x20 0x00 0x00 sent le) random).status ≡ 0x6300
    ill_formed_refused = wrong_refused sent long ill_formed_other

    pub ill_formed_costs : card_after c s (plain_command 0x94 0x20 0x00 0x00 sent le) random ≡ tries_left (c.head.state.tries - 1) c
    ill_formed_costs = wrong_costs sent long ill_formed_other
