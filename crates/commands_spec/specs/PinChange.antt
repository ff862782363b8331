-- PIN CHANGE/UNBLOCK 84 24 00 00: "PIN under DEK, or no data; signed; ADMIN. Both fill the tries and clear the flag. Unblock with no
-- PIN: 6A81. PIN block: ..; else 6A80." Assumes nothing.
use Rattle.std.specs.Prelude.{Bool, false, not, ◌&&◌, List, [], ℕ, ltb, eqb, length}
use Rattle.octets.specs.Choice.{pick, refuse}
use Rattle.card.specs.declared.head.Head.{Head}
use Rattle.card.specs.Pin.{well_formed}
use Rattle.session.specs.declared.Session.{Session}
use Rattle.session.specs.Transitions.{ended, flagged}
use Rattle.session.specs.Access.{access, ADMIN}
use Rattle.channel.specs.Channel.{received}
use Rattle.commands_spec.specs.declared.outcome.Commits.TheVariants.{Hot, HotAndCold}
use Rattle.commands_spec.specs.declared.outcome.Outcome.{Outcome}
use Rattle.commands_spec.specs.Outcomes.{done, decided}
use Rattle.card.specs.Updates.{with_tries, with_pin}
use Rattle.commands_spec.specs.KeySets.{dek_of}

-- steps 8, 9 and 11; `good`: the block is well formed
unfoldable pub pin_status : Bool → Bool → ℕ → Bool → ℕ
pin_status unblock defined held good =
    refuse (unblock && not defined) 0x6A81
    (refuse (ltb held ADMIN) 0x6982
    (refuse (not unblock && not good) 0x6A80
    0x9000))

-- the command past step 6; no data unblock
unfoldable pub pin_change_of : Head → Session → List ℕ → Outcome
pin_change_of h s body =
    let unblock = eqb (length body) 0 in
    let block = received (dek_of s.channel.level h) body in
    decided (pin_status unblock h.pin.defined (access s.channel.level) (well_formed block)) h (ended s)
    (pick unblock
    (done Hot (with_tries h.fixed.maxtries h) (flagged false s) [])
    (done HotAndCold (with_pin block h) (flagged false s) []))
