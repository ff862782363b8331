-- Step 6, by its tests. Assumes nothing.
use Prim.Native.Nat.{ℕ, ◌+◌, ◌-◌}
use mathlib.Core.Bool.{true, false}
use mathlib.Core.List.{List}
use mathlib.Core.Path.{◌≡◌}
use Rattle.octets.specs.Bytes.{part, same}
use Rattle.octets.proofs.Rules.{and_right}
use Rattle.card.specs.declared.head.Head.{Head}
use Rattle.session.specs.declared.Session.{Session}
use Rattle.session.specs.Transitions.{closed, chained}
use Rattle.session.specs.Access.{is_open}
use Rattle.apdu.specs.declared.parsing.Apdu.{Apdu}
use Rattle.apdu.specs.declared.instructions.Signed.{Signed}
use Rattle.apdu.specs.Parsing.{data_of}
use Rattle.apdu.specs.Lengths.{mac_size}
use Rattle.channel.specs.Channel.{cmac_of}
use Rattle.commands_spec.specs.declared.outcome.Outcome.{Outcome}
use Rattle.commands_spec.specs.Outcomes.{refused}
use Rattle.commands_spec.specs.Respond.{signed_of, authorized}

module _ (g : Signed) (h : Head) (s : Session) (a : Apdu) (c : List ℕ) (r : Outcome) where
  -- the C-MAC that is due
  abbrev pub due : List ℕ
  due = cmac_of s.channel.mac s.channel.cmac c (5 + (a.lc - mac_size))

  -- the C-MAC that came
  abbrev pub sent : List ℕ
  sent = part c (5 + (a.lc - mac_size)) mac_size

  pub unsigned : is_open s.channel.level ≡ false → r ≡ refused h (closed s) 0x6982 → r ≡ authorized g h s a c
  unfolding authorized
  unsigned p e = rw (p, e)

  pub wrongly_signed : same sent due ≡ false → r ≡ refused h (closed s) 0x6982 → r ≡ authorized g h s a c
  unfolding authorized
  wrongly_signed p e = let z = and_right (is_open s.channel.level) (same sent due) p in rw (z, e)

  pub rightly_signed : is_open s.channel.level ≡ true → same sent due ≡ true → r ≡ signed_of g h (chained due s) a (data_of c (a.lc - mac_size)) → r ≡ authorized g h s a c
  unfolding authorized
  rightly_signed p q e = rw (p, q) e
