-- VERIFY PIN 94 20 00 00: "8 bytes under the ENC session key; not signed. Unpersonalized 6985; no PIN 6A81; below CREDIT 6982; no
-- tries 6983. A wrong or ill-formed PIN: one try fewer, flag cleared, 6300. Right: tries full, flag set." The try is spent before the
-- PIN is judged: the first commit leaves `tried` of the card's state, whatever was sent. Assumes nothing.
use Rattle.std.specs.Prelude.{Bool, true, false, not, List, [], ℕ, ltb, eqb}
use Rattle.octets.specs.Choice.{refuse}
use Rattle.octets.specs.Bytes.{same}
use Rattle.octets.specs.Words.{word}
use Rattle.octets.specs.Buffers.{holding}
use Rattle.card.specs.declared.head.Head.{Head}
use Rattle.card.specs.Log.{void}
use Rattle.session.specs.declared.Session.{Session}
use Rattle.session.specs.Transitions.{ended, flagged}
use Rattle.session.specs.Access.{access, CREDIT}
use Rattle.channel.specs.Channel.{received}
use Rattle.commands_spec.specs.declared.outcome.Commits.TheVariants.{Hot, HotTwice}
use Rattle.commands_spec.specs.declared.outcome.Outcome.{Outcome}
use Rattle.commands_spec.specs.Outcomes.{done, decided, tried}
use Rattle.card.specs.Updates.{with_state, with_tries}

-- steps 7 to 9, and 6983
unfoldable pub verify_status : Bool → Bool → ℕ → ℕ → ℕ
verify_status personalized defined held tries =
    refuse (not personalized) 0x6985
    (refuse (not defined) 0x6A81
    (refuse (ltb held CREDIT) 0x6982
    (refuse (eqb tries 0) 0x6983
    0x9000)))

-- a try is spent; then, where the PIN is right, tries are full
unfoldable pub judged : Bool → Head → Session → Outcome
judged true h s = done (HotTwice (tried h.state)) (with_tries h.fixed.maxtries h) (flagged true s) []
judged false h s =
    record {
      status = 0x6300;
      commits = Hot;
      head = with_state (tried h.state) h;
      logged = void;
      reply = holding (word 0x6300);
      session = flagged false s;
    }

-- the command past step 5
unfoldable pub verify_pin_of : Head → Session → List ℕ → Outcome
verify_pin_of h s body =
    decided (verify_status h.purse.parameters.personalized h.pin.defined (access s.channel.level) h.state.tries) h (ended s)
    (judged (same (received s.channel.enc body) h.pin.block) h s)
