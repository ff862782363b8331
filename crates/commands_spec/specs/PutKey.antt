-- PUT KEY 84 D8 00, P2 set: "three keys under DEK; signed; ADMIN". Assumes nothing.
use Rattle.std.specs.Prelude.{List, [], ℕ, ltb}
use Rattle.octets.specs.Choice.{refuse}
use Rattle.card.specs.declared.head.Head.{Head}
use Rattle.card.specs.Keys.{keys_in}
use Rattle.session.specs.declared.Session.{Session}
use Rattle.session.specs.Transitions.{ended}
use Rattle.session.specs.Access.{access, ADMIN}
use Rattle.session.specs.Codes.{set_of}
use Rattle.channel.specs.Channel.{received}
use Rattle.commands_spec.specs.declared.outcome.Commits.TheVariants.{HotAndCold}
use Rattle.commands_spec.specs.declared.outcome.Outcome.{Outcome}
use Rattle.commands_spec.specs.Outcomes.{done, decided}
use Rattle.commands_spec.specs.KeySets.{with_keys, dek_of}

-- step 9
unfoldable pub put_key_status : ℕ → ℕ
put_key_status held = refuse (ltb held ADMIN) 0x6982 0x9000

-- the command past step 6
unfoldable pub put_key_of : Head → Session → ℕ → List ℕ → Outcome
put_key_of h s p2 body =
    decided (put_key_status (access s.channel.level)) h (ended s)
    (done HotAndCold (with_keys (set_of p2) (keys_in (received (dek_of s.channel.level h) body)) h) (ended s) [])
