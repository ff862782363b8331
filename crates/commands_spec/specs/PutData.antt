-- PUT DATA 84 DA 02, P2 tag: "signed; personalized; ADMIN. State variable, identifier, or currency with balance above 0 6A81; length
-- or range, balance above the new maximum, or number above it 6A80. Length 0 unsets 06, 07." Assumes nothing.
use Rattle.std.specs.Prelude.{Bool, false, not, ◌&&◌, ◌||◌, List, [], ℕ, ltb, leb, eqb}
use Rattle.octets.specs.Choice.{pick, refuse}
use Rattle.octets.specs.Words.{word_at}
use Rattle.card.specs.declared.head.Head.{Head}
use Rattle.session.specs.declared.Session.{Session}
use Rattle.session.specs.Transitions.{ended}
use Rattle.session.specs.Access.{access, ADMIN}
use Rattle.commands_spec.specs.declared.outcome.Commits.TheVariants.{HotAndCold}
use Rattle.commands_spec.specs.declared.outcome.Outcome.{Outcome}
use Rattle.commands_spec.specs.Outcomes.{done, decided}
use Rattle.commands_spec.specs.KeySets.{dek_of}
use Rattle.commands_spec.specs.Data.{value_ok, datum_set}

-- what PUT DATA doesn't set: 14 to 17, 01, and 02 while there is a balance
unfoldable pub locked : ℕ → ℕ → Bool
locked tag balance = leb 0x14 tag || eqb tag 0x01 || (eqb tag 0x02 && ltb 0 balance)

-- a new maximum below what it bounds
unfoldable pub undercuts : ℕ → ℕ → ℕ → ℕ → Bool
undercuts tag value balance number = pick (eqb tag 0x03) (ltb value balance) (pick (eqb tag 0x05) (ltb value number) false)

-- steps 7, 8, 9 and 11; `good`: length and range of the value
unfoldable pub data_status : Bool → Bool → ℕ → Bool → Bool → ℕ
data_status personalized locked_tag held good undercut =
    refuse (not personalized) 0x6985
    (refuse locked_tag 0x6A81
    (refuse (ltb held ADMIN) 0x6982
    (refuse (not good) 0x6A80
    (refuse undercut 0x6A80
    0x9000))))

-- over a tag and a value
unfoldable pub put_data_status : Bool → ℕ → ℕ → Bool → ℕ → ℕ → ℕ → ℕ
put_data_status personalized tag held good value balance number =
    data_status personalized (locked tag balance) held good (undercuts tag value balance number)

-- the command past step 6
unfoldable pub put_data_of : Head → Session → ℕ → List ℕ → Outcome
put_data_of h s tag v =
    decided
    (put_data_status h.purse.parameters.personalized tag (access s.channel.level) (value_ok tag v) (word_at v 0) h.purse.balance
    h.state.number)
    h (ended s)
    (done HotAndCold (datum_set (dek_of s.channel.level h) tag v h) (ended s) [])
