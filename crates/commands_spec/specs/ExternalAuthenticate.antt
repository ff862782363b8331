-- EXTERNAL AUTHENTICATE 84 82, P1 01 or 11, P2 00, host cryptogram, C-MAC: "Step 6 is replaced: not directly after a successful
-- INITIALIZE UPDATE 6985; cryptogram wrong 6300; C-MAC wrong 6982; the last two close any channel." Assumes nothing.
use Rattle.std.specs.Prelude.{not, List, [], ℕ, eqb}
use Rattle.octets.specs.Choice.{pick}
use Rattle.octets.specs.Bytes.{zeros, part, same}
use Rattle.card.specs.declared.head.Head.{Head}
use Rattle.session.specs.declared.Set.{Set}
use Rattle.session.specs.declared.Level.{Level}
use Rattle.session.specs.declared.Level.TheVariants.{Mac, Rmac}
use Rattle.session.specs.declared.Pending.{Pending}
use Rattle.session.specs.declared.Pending.TheVariants.{Nothing, Update, Debiting, Crediting}
use Rattle.session.specs.declared.Session.{Session}
use Rattle.session.specs.Transitions.{ended, closed, opened}
use Rattle.channel.specs.Channel.{cmac_of}
use Rattle.commands_spec.specs.declared.outcome.Commits.TheVariants.{Unchanged}
use Rattle.commands_spec.specs.declared.outcome.Outcome.{Outcome}
use Rattle.commands_spec.specs.Outcomes.{refused, done}

-- "P1 01 (C-MAC) or 11 (with R-MAC)"
unfoldable pub level_for : ℕ → Set → Level
level_for p1 set = pick (eqb p1 0x11) (Rmac set) (Mac set)

-- after an INITIALIZE UPDATE under a set; the C-MAC starts from zero, and covers the header and the cryptogram
unfoldable pub authenticated : Set → Head → Session → ℕ → List ℕ → List ℕ → Outcome
authenticated set h s p1 command body =
    let mac = cmac_of s.offer.mac (zeros 8) command 13 in
    pick (not (same (part body 0 8) s.offer.expected)) (refused h (closed s) 0x6300)
    (pick (not (same (part body 8 8) mac)) (refused h (closed s) 0x6982)
    (done Unchanged h
    (opened (record { level = level_for p1 set; enc = s.offer.enc; mac = s.offer.mac; cmac = mac; rmac = zeros 8 }) s) []))

-- the command past step 5, by what is pending
unfoldable pub external_authenticate_of : Pending → Head → Session → ℕ → List ℕ → List ℕ → Outcome
external_authenticate_of (Update set) h s p1 command body = authenticated set h s p1 command body
external_authenticate_of Nothing h s p1 command body = refused h (ended s) 0x6985
external_authenticate_of (Debiting n) h s p1 command body = refused h (ended s) 0x6985
external_authenticate_of (Crediting n) h s p1 command body = refused h (ended s) 0x6985
