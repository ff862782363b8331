-- PIN CHANGE and UNBLOCK in a channel of set 3 are not refused: "Both fill the tries and clear the flag." Assumes nothing.
use mathlib.Core.Bool.{true, false}
use mathlib.Core.List.{List, []}
use mathlib.Core.Path.{◌≡◌, refl, ◌∙◌}
use Prim.Native.Nat.{ℕ, ◌+◌, ◌≤◌}
use lib.ListN.{length}
use Rattle.des_spec.specs.Des.{encipher}
use Rattle.des_spec.specs.Modes.{ecb_text}
use Rattle.des_spec.proofs.Texts.{length-ecb_text}
use Rattle.card.specs.Card.{Card}
use Rattle.card.specs.Changes.{changed, head_after, log_after, purse_after, after}
use Rattle.card.specs.Pin.{block_of, Digits}
use Rattle.card.proofs.Pins.{block-bytes, block_formed}
use Rattle.session.specs.declared.Set.TheVariants.{Admin}
use Rattle.session.specs.declared.Level.{Level}
use Rattle.session.specs.declared.Session.{Session}
use Rattle.session.specs.Transitions.{chained, flagged}
use Rattle.apdu.specs.declared.instructions.Signed.TheVariants.{PinChange}
use Rattle.apdu.specs.Instructions.{instruction, of84}
use Rattle.apdu.specs.Parameters.{are, signed_parameters}
use Rattle.apdu.specs.Lengths.{signed_length}
use Rattle.channel.proofs.Results.{received_back}
use Rattle.commands_spec.specs.declared.outcome.Commits.TheVariants.{Hot, HotAndCold}
use Rattle.commands_spec.specs.Outcomes.{done, decided, changes_of, commits_of}
use Rattle.card.specs.Updates.{with_state, with_tries, with_pin, with_balance, with_purse}
use Rattle.commands_spec.specs.PinChange.{pin_status, pin_change_of}
use Rattle.commands_spec.specs.Respond.{signed_of, respond, card_after}
use Rattle.commands_spec.specs.Sent.{next_mac, signed_text, signed_command}
use Rattle.commands_spec.specs.Allowed.{LevelOf, tries_left, pin_set}
use Rattle.commands_spec.proofs.Sending.{InChannel, reaches_signed}
use Rattle.commands_spec.proofs.Reasons.{admin_channel}

module _ (c : Card) (s : Session) (p1 : ℕ) (l : Level) (le random : List ℕ) (short : length le ≤ 1) (o : InChannel s l) (admin : LevelOf Admin p1 l) where
  -- the session in which the command's rules are asked
  abbrev moved : List ℕ → Session
  moved body = chained (next_mac s (signed_text 0x84 0x24 0x00 0x00 body)) s

  -- ---- UNBLOCK, with no data

  module _ (defined : c.head.pin.defined ≡ true) where
    unblock_outcome : respond c s (signed_command s 0x84 0x24 0x00 0x00 [] le) random
        ≡ done Hot (with_tries c.head.fixed.maxtries c.head) (flagged false (moved [])) []
    unfolding instruction of84 are signed_parameters signed_length signed_of pin_change_of pin_status decided chained
    unblock_outcome =
        let a = admin_channel p1 l c.head admin in
        rw (reaches_signed c s random PinChange l 0x84 0x24 0x00 0x00 [] le short o refl refl refl a.0, o.level, a.1, defined)

    pub unblock_granted : (respond c s (signed_command s 0x84 0x24 0x00 0x00 [] le) random).status ≡ 0x9000
    unfolding done
    unblock_granted = rw unblock_outcome

    pub unblock_unflags : (respond c s (signed_command s 0x84 0x24 0x00 0x00 [] le) random).session.verified ≡ false
    unfolding done flagged
    unblock_unflags = rw unblock_outcome

    pub unblock_fills : card_after c s (signed_command s 0x84 0x24 0x00 0x00 [] le) random ≡ tries_left c.head.fixed.maxtries c
    unfolding card_after done commits_of changes_of after changed head_after log_after with_tries with_state with_balance with_purse tries_left
    unblock_fills = rw unblock_outcome

  -- ---- PIN CHANGE, with the block of the new PIN under DEK

  module _ (digits : List ℕ) (d : Digits digits) where
    abbrev sent : List ℕ
    sent = ecb_text encipher c.head.shared.admin.dek (block_of digits)

    change_outcome : respond c s (signed_command s 0x84 0x24 0x00 0x00 sent le) random
        ≡ done HotAndCold (with_pin (block_of digits) c.head) (flagged false (moved sent)) []
    unfolding instruction of84 are signed_parameters signed_length signed_of pin_change_of pin_status decided chained
    change_outcome =
        let a = admin_channel p1 l c.head admin in
        let b = block-bytes digits d in
        let n : length sent ≡ 8 = length-ecb_text encipher c.head.shared.admin.dek (block_of digits) ∙ b.size in
        let q : signed_length PinChange (length sent + 8) ≡ true = rw n in
        rw (
          reaches_signed c s random PinChange l 0x84 0x24 0x00 0x00 sent le short o refl refl q a.0,
          o.level,
          a.1,
          a.2,
          n,
          received_back c.head.shared.admin.dek (block_of digits) b.each,
          block_formed digits d,
        )

    pub change_granted : (respond c s (signed_command s 0x84 0x24 0x00 0x00 sent le) random).status ≡ 0x9000
    unfolding done
    change_granted = rw change_outcome

    pub change_unflags : (respond c s (signed_command s 0x84 0x24 0x00 0x00 sent le) random).session.verified ≡ false
    unfolding done flagged
    change_unflags = rw change_outcome

    -- the PIN is that of the digits, and the tries are full
    pub change_sets : card_after c s (signed_command s 0x84 0x24 0x00 0x00 sent le) random ≡ pin_set (block_of digits) (tries_left c.head.fixed.maxtries c)
    unfolding card_after done commits_of changes_of after changed head_after log_after purse_after with_pin tries_left pin_set
    change_sets = rw change_outcome
