-- A command on a card, in document 01's order: steps 1 to 5; step 6, "Signed commands: no channel, or wrong C-MAC, 6982 and the
-- channel closes. A right C-MAC moves the chain on even if a later step refuses"; then the command's own rules. Every command ends
-- what was pending. Assumes nothing.
use Rattle.std.specs.Prelude.{◌&&◌, List, ℕ, ◌+◌, ◌-◌, get_or, Result, Ok, Err}
use Rattle.octets.specs.Choice.{pick}
use Rattle.octets.specs.Bytes.{byte_at, part, same}
use Rattle.card.specs.declared.head.Head.{Head}
use Rattle.card.specs.declared.log.Record.{Record}
use Rattle.card.specs.Log.{void}
use Rattle.card.specs.Card.{Card}
use Rattle.card.specs.Changes.{after}
use Rattle.session.specs.declared.Session.{Session}
use Rattle.session.specs.Transitions.{ended, closed, chained}
use Rattle.session.specs.Access.{is_open}
use Rattle.apdu.specs.declared.parsing.Apdu.{Apdu}
use Rattle.apdu.specs.declared.instructions.Plain.{Plain}
use Rattle.apdu.specs.declared.instructions.Plain.TheVariants.{Select, InitializeUpdate, ExternalAuthenticate, VerifyPin, GetData, ReadRecord}
use Rattle.apdu.specs.declared.instructions.Signed.{Signed}
use Rattle.apdu.specs.declared.instructions.Signed.TheVariants.{PutKey, PinChange, StoreData, InitializeTransaction, CompleteTransaction, PutData}
use Rattle.apdu.specs.declared.instructions.Instruction.{Instruction}
use Rattle.apdu.specs.declared.instructions.Instruction.TheVariants.{IsPlain, IsSigned}
use Rattle.apdu.specs.declared.refusals.Refusal.{Refusal}
use Rattle.apdu.specs.Refusals.{refusal_word}
use Rattle.apdu.specs.Parsing.{parsed, data_of}
use Rattle.apdu.specs.Instructions.{instruction}
use Rattle.apdu.specs.Lengths.{mac_size}
use Rattle.apdu.specs.Early.{plain_status, signed_status}
use Rattle.channel.specs.Channel.{cmac_of}
use Rattle.commands_spec.specs.declared.outcome.Outcome.{Outcome}
use Rattle.commands_spec.specs.Outcomes.{refused, decided, commits_of}
use Rattle.commands_spec.specs.Select.{select_of}
use Rattle.commands_spec.specs.InitializeUpdate.{initialize_update_of}
use Rattle.commands_spec.specs.ExternalAuthenticate.{external_authenticate_of}
use Rattle.commands_spec.specs.PutKey.{put_key_of}
use Rattle.commands_spec.specs.PinChange.{pin_change_of}
use Rattle.commands_spec.specs.StoreData.{store_data_of}
use Rattle.commands_spec.specs.VerifyPin.{verify_pin_of}
use Rattle.commands_spec.specs.InitializeTransaction.{initialize_transaction_of}
use Rattle.commands_spec.specs.CompleteTransaction.{complete_transaction_of}
use Rattle.commands_spec.specs.GetData.{get_data_of}
use Rattle.commands_spec.specs.PutData.{put_data_of}
use Rattle.commands_spec.specs.ReadRecord.{asked, read_record_of}

-- a plain command past step 5: the record that READ RECORD reads, the command's bytes and data, the random bytes
unfoldable pub plain_of : Plain → Head → Record → Session → Apdu → List ℕ → List ℕ → List ℕ → Outcome
plain_of Select h r s a command body random = select_of h s body
plain_of InitializeUpdate h r s a command body random = initialize_update_of h s a.p1 body random
plain_of ExternalAuthenticate h r s a command body random = external_authenticate_of s.pending h s a.p1 command body
plain_of VerifyPin h r s a command body random = verify_pin_of h s body
plain_of GetData h r s a command body random = get_data_of h s a.p2
plain_of ReadRecord h r s a command body random = read_record_of h s r

-- a signed command past step 6: the session with the chain moved on, the data before the C-MAC
unfoldable pub signed_of : Signed → Head → Session → Apdu → List ℕ → Outcome
signed_of PutKey h s a body = put_key_of h s a.p2 body
signed_of PinChange h s a body = pin_change_of h s body
signed_of StoreData h s a body = store_data_of h s body
signed_of InitializeTransaction h s a body = initialize_transaction_of h s a.p1 body
signed_of CompleteTransaction h s a body = complete_transaction_of h s body
signed_of PutData h s a body = put_data_of h s a.p2 body

-- step 6: the C-MAC covers all of the command before it
unfoldable pub authorized : Signed → Head → Session → Apdu → List ℕ → Outcome
authorized g h s a command =
    let n = 5 + (a.lc - mac_size) in
    let mac = cmac_of s.channel.mac s.channel.cmac command n in
    pick (is_open s.channel.level && same (part command n mac_size) mac)
    (signed_of g h (chained mac s) a (data_of command (a.lc - mac_size)))
    (refused h (closed s) 0x6982)

-- steps 3 to 5 by the kind of command, and step 2's refusals
unfoldable pub on_instruction : Result Instruction Refusal → Head → Record → Session → Apdu → List ℕ → List ℕ → Outcome
on_instruction (Ok (IsPlain p)) h r s a command random =
    decided (plain_status p s.selected a h.fixed.logsize) h (ended s) (plain_of p h r s a command (data_of command a.lc) random)
on_instruction (Ok (IsSigned g)) h r s a command random =
    decided (signed_status g s.selected a) h (ended s) (authorized g h s a command)
on_instruction (Err x) h r s a command random = refused h (ended s) (refusal_word x)

-- step 2, and step 1's refusal
unfoldable pub on_parsed : Result Apdu Refusal → Head → Record → Session → List ℕ → List ℕ → Outcome
on_parsed (Ok a) h r s command random = on_instruction (instruction a.cla a.ins) h r s a command random
on_parsed (Err x) h r s command random = refused h (ended s) (refusal_word x)

-- the instruction that a command names by its first two bytes
unfoldable pub named : List ℕ → Result Instruction Refusal
named command = instruction (byte_at command 0) (byte_at command 1)

-- on a head, and the record that the command would read
unfoldable pub respond_to : Head → Record → Session → List ℕ → List ℕ → Outcome
respond_to h r s command random = on_parsed (parsed command) h r s command random

-- on a card
unfoldable pub respond : Card → Session → List ℕ → List ℕ → Outcome
respond c s command random = respond_to c.head (get_or c.log (asked command) void) s command random

-- the card afterwards
unfoldable pub card_after : Card → Session → List ℕ → List ℕ → Card
card_after c s command random =
    after (commits_of (respond c s command random)) c
