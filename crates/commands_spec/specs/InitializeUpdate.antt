-- INITIALIZE UPDATE 80 50, P1 set, P2 00, host challenge: "Undefined set: 6A88. Answer: ten zeros, set, 01, card challenge (the lent
-- random bytes), card cryptogram." Assumes nothing.
use Rattle.std.specs.Prelude.{not, List, ◌∷◌, ◌++◌, ℕ}
use Rattle.octets.specs.Choice.{pick}
use Rattle.octets.specs.Bytes.{zeros}
use Rattle.card.specs.declared.head.Keys.{Keys}
use Rattle.card.specs.declared.head.Head.{Head}
use Rattle.session.specs.declared.Offer.{Offer}
use Rattle.session.specs.declared.Session.{Session}
use Rattle.session.specs.Transitions.{ended, offered}
use Rattle.session.specs.Codes.{set_of}
use Rattle.channel.specs.Channel.{session_key, card_cryptogram, host_cryptogram}
use Rattle.commands_spec.specs.declared.outcome.Commits.TheVariants.{Unchanged}
use Rattle.commands_spec.specs.declared.outcome.Outcome.{Outcome}
use Rattle.commands_spec.specs.Outcomes.{refused, done}
use Rattle.commands_spec.specs.KeySets.{key_set_of}

-- the session keys that come of a set's keys and the two challenges, and the host cryptogram that is to come
unfoldable pub offer : Keys → List ℕ → List ℕ → Offer
offer k host card =
    let enc = session_key k.enc host card in
    record { enc = enc; mac = session_key k.mac host card; expected = host_cryptogram enc host card }

-- "ten zeros, set, 01, card challenge .., card cryptogram"
unfoldable pub update_answer : ℕ → List ℕ → List ℕ → List ℕ → List ℕ
update_answer set enc host card = zeros 10 ++ set ∷ 0x01 ∷ card ++ card_cryptogram enc host card

-- the command past step 5
unfoldable pub initialize_update_of : Head → Session → ℕ → List ℕ → List ℕ → Outcome
initialize_update_of h s p1 host card =
    let k = key_set_of (set_of p1) h in
    let o = offer k.keys host card in
    pick (not k.defined)
    (refused h (ended s) 0x6A88)
    (done Unchanged h (offered (set_of p1) o s) (update_answer p1 o.enc host card))
