-- SELECT, READ RECORD and GET DATA: none is refused that document 01 allows, and their answers byte by byte. Assumes nothing.
use mathlib.Core.Bool.{Bool, true, false}
use mathlib.Core.List.{List, [], ◌∷◌, ◌++◌}
use mathlib.Core.Path.{◌≡◌, refl}
use Prim.Native.Nat.{ℕ, ◌-◌, ◌≤◌, ◌<◌}
use borrow.Author.Tests.{le-leb}
use lib.ListN.{length, get_or, take}
use Rattle.octets.specs.Bytes.{zeros}
use Rattle.octets.specs.Words.{word}
use Rattle.octets.specs.Buffers.{content}
use Rattle.octets.proofs.Equality.{same_refl, differ_same}
use Rattle.octets.proofs.Holding.{content-holding}
use Rattle.card.specs.declared.head.Head.{Head}
use Rattle.card.specs.Log.{void, record_bytes}
use Rattle.card.specs.Card.{Card}
use Rattle.session.specs.declared.Level.TheVariants.{Closed}
use Rattle.session.specs.declared.Pending.TheVariants.{Nothing}
use Rattle.session.specs.declared.Session.{Session}
use Rattle.session.specs.Transitions.{reselected}
use Rattle.apdu.specs.declared.instructions.Plain.TheVariants.{Select, GetData, ReadRecord}
use Rattle.apdu.specs.Instructions.{instruction, of00, of80}
use Rattle.apdu.specs.Parameters.{are, plain_parameters, has_record}
use Rattle.apdu.specs.Lengths.{plain_length}
use Rattle.apdu.specs.Early.{is_select}
use Rattle.commands_spec.specs.declared.outcome.Outcome.{Outcome}
use Rattle.commands_spec.specs.Outcomes.{refused, done}
use Rattle.commands_spec.specs.Status.{administrative, operational}
use Rattle.commands_spec.specs.Select.{select_answer, select_of}
use Rattle.commands_spec.specs.Data.{datum}
use Rattle.commands_spec.specs.GetData.{get_data_of}
use Rattle.commands_spec.specs.ReadRecord.{asked, read_record_of}
use Rattle.commands_spec.specs.Respond.{plain_of, respond}
use Rattle.commands_spec.specs.Sent.{plain_command, bare_command}
use Rattle.commands_spec.specs.Values.{KnownTag}
use Rattle.commands_spec.specs.Shown.{Administrative, Operational, Reads}
use Rattle.commands_spec.proofs.Sending.{reaches_plain, reaches_bare}
use Rattle.commands_spec.proofs.Values.{known_tag, datum_reads}
use Rattle.commands_spec.proofs.Shown.{administrative-shown, operational-shown}

-- ---- SELECT

-- "a SELECT that reaches its AID, right or not, ends all but the PIN flag"
abbrev pub selection : Bool → Session → Session
selection chosen s =
    record {
      selected = chosen;
      verified = s.verified;
      channel = record { level = Closed; enc = zeros 16; mac = zeros 16; cmac = zeros 8; rmac = zeros 8 };
      pending = Nothing;
      offer = record { enc = zeros 16; mac = zeros 16; expected = zeros 8 };
    }

-- the answer: identifier, administrative and operational status
pub record Selected (h : Head) (s : Session) (o : Outcome) : Type 0 where
  pub admin : ℕ
  pub operation : List ℕ
  pub status : o.status ≡ 0x9000
  pub reply : content o.reply ≡ h.purse.parameters.identifier ++ admin ∷ operation ++ word 0x9000
  pub administrative : Administrative h s.verified admin
  pub operational : Operational h operation
  pub session : o.session ≡ selection true s

-- the card's own AID selects
pub select_granted : (c : Card) (s : Session) (le random : List ℕ) → let aid = take c.head.purse.aid.size c.head.purse.aid.bytes in 0 < length aid → length le ≤ 1
    → Selected c.head s (respond c s (plain_command 0x00 0xA4 0x04 0x00 aid le) random)
unfolding instruction of00 is_select are plain_parameters has_record plain_length plain_of select_of select_answer done reselected
select_granted c s le random some short =
    let aid = take c.head.purse.aid.size c.head.purse.aid.bytes in
    rw (reaches_plain c s random Select 0x00 0xA4 0x04 0x00 aid le some short refl refl refl refl refl, same_refl aid)
    (record {
      admin = administrative c.head s.verified;
      operation = operational c.head;
      status = refl;
      reply = content-holding _;
      administrative = administrative-shown c.head s.verified;
      operational = operational-shown c.head;
      session = refl;
    })

-- "another AID, or none: 6A82, deselected"
pub record Deselected (s : Session) (o : Outcome) : Type 0 where
  pub status : o.status ≡ 0x6A82
  pub reply : content o.reply ≡ word 0x6A82
  pub session : o.session ≡ selection false s

pub another_deselects : (c : Card) (s : Session) (aid le random : List ℕ) → 0 < length aid → length le ≤ 1
    → (aid ≡ take c.head.purse.aid.size c.head.purse.aid.bytes → ⊥) → Deselected s (respond c s (plain_command 0x00 0xA4 0x04 0x00 aid le) random)
unfolding instruction of00 is_select are plain_parameters has_record plain_length plain_of select_of refused reselected
another_deselects c s aid le random some short other =
    rw (reaches_plain c s random Select 0x00 0xA4 0x04 0x00 aid le some short refl refl refl refl refl, differ_same aid (take c.head.purse.aid.size c.head.purse.aid.bytes) other)
    (record { status = refl; reply = content-holding (word 0x6A82); session = refl })

pub none_deselects : (c : Card) (s : Session) (le random : List ℕ) → length le ≤ 1
    → ([] ≡ take c.head.purse.aid.size c.head.purse.aid.bytes → ⊥) → Deselected s (respond c s (bare_command 0x00 0xA4 0x04 0x00 le) random)
unfolding instruction of00 is_select are plain_parameters has_record plain_length plain_of select_of refused reselected
none_deselects c s le random short other =
    rw (reaches_bare c s random Select 0x00 0xA4 0x04 0x00 le short refl refl refl refl refl, differ_same [] (take c.head.purse.aid.size c.head.purse.aid.bytes) other)
    (record { status = refl; reply = content-holding (word 0x6A82); session = refl })

-- ---- READ RECORD

-- "Record 1 is the newest": record n is the n-th of the log
pub record_granted : (c : Card) (s : Session) (n : ℕ) (le random : List ℕ) → s.selected ≡ true → 1 ≤ n → n ≤ c.head.fixed.logsize → length le ≤ 1
    → let o = respond c s (bare_command 0x00 0xB2 n 0x04 le) random in
    (o.status ≡ 0x9000) × (content o.reply ≡ record_bytes (get_or c.log (n - 1) void) ++ word 0x9000)
unfolding instruction of00 is_select plain_parameters has_record plain_length plain_of read_record_of asked bare_command done
record_granted c s n le random sel low high short =
    rw (reaches_bare c s random ReadRecord 0x00 0xB2 n 0x04 le short refl sel refl (rw (le-leb 1 n low, le-leb n c.head.fixed.logsize high)) refl)
    (refl, content-holding _)

-- ---- GET DATA

-- "length, value"
pub record Answers (h : Head) (flag : Bool) (tag : ℕ) (o : Outcome) : Type 0 where
  pub value : List ℕ
  pub reads : Reads h flag tag value
  pub status : o.status ≡ 0x9000
  pub reply : content o.reply ≡ length value ∷ value ++ word 0x9000

-- it is never refused for a tag of the table, whatever the card
pub data_granted : (c : Card) (s : Session) (tag : ℕ) (le random : List ℕ) → s.selected ≡ true → KnownTag tag → length le ≤ 1
    → Answers c.head s.verified tag (respond c s (bare_command 0x80 0xCA 0x02 tag le) random)
unfolding instruction of80 is_select plain_parameters has_record plain_length plain_of get_data_of done
data_granted c s tag le random sel known short =
    rw (reaches_bare c s random GetData 0x80 0xCA 0x02 tag le short refl sel (known_tag tag known) refl refl)
    (record { value = datum c.head s.verified tag; reads = datum_reads c.head s.verified tag known; status = refl; reply = content-holding _ })
