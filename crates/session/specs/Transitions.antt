-- The session of document 01 and what ends what: "Every command that answers 0, refused or not, ends a pending INITIALIZE UPDATE
-- or INITIALIZE TRANSACTION. Start-up ends all of the session; a SELECT that reaches its AID, right or not, ends all but the PIN
-- flag." Assumes nothing.
use Rattle.std.specs.Prelude.{Bool, false, List, ℕ}
use Rattle.octets.specs.Bytes.{zeros}
use Rattle.session.specs.declared.Set.{Set}
use Rattle.session.specs.declared.Level.TheVariants.{Closed}
use Rattle.session.specs.declared.Channel.{Channel}
use Rattle.session.specs.declared.Pending.{Pending}
use Rattle.session.specs.declared.Pending.TheVariants.{Nothing, Update}
use Rattle.session.specs.declared.Offer.{Offer}
use Rattle.session.specs.declared.Session.{Session}

-- the closed channel
abbrev pub no_channel : Channel
no_channel = record { level = Closed; enc = zeros 16; mac = zeros 16; cmac = zeros 8; rmac = zeros 8 }

-- no offer
abbrev pub no_offer : Offer
no_offer = record { enc = zeros 16; mac = zeros 16; expected = zeros 8 }

-- the unselected session, which installation and start-up hand back
unfoldable pub unselected : Session
unselected = record { selected = false; verified = false; channel = no_channel; pending = Nothing; offer = no_offer }

-- nothing is pending any more
unfoldable pub ended : Session → Session
ended s = record { selected = s.selected; verified = s.verified; channel = s.channel; pending = Nothing; offer = no_offer }

-- and the channel is closed
unfoldable pub closed : Session → Session
closed s = record { selected = s.selected; verified = s.verified; channel = no_channel; pending = Nothing; offer = no_offer }

-- after a SELECT that reached its AID, right or not
unfoldable pub reselected : Bool → Session → Session
reselected right s = record { selected = right; verified = s.verified; channel = no_channel; pending = Nothing; offer = no_offer }

-- the PIN flag, with nothing pending
unfoldable pub flagged : Bool → Session → Session
flagged verified s = record { selected = s.selected; verified = verified; channel = s.channel; pending = Nothing; offer = no_offer }

-- an INITIALIZE UPDATE is pending; the channel stays
unfoldable pub offered : Set → Offer → Session → Session
offered set offer s = record { selected = s.selected; verified = s.verified; channel = s.channel; pending = Update set; offer = offer }

-- a new channel in the place of any other
unfoldable pub opened : Channel → Session → Session
opened channel s = record { selected = s.selected; verified = s.verified; channel = channel; pending = Nothing; offer = no_offer }

-- the chain of C-MACs moves on
unfoldable pub chained : List ℕ → Session → Session
chained mac s =
    record {
      selected = s.selected;
      verified = s.verified;
      channel = record { level = s.channel.level; enc = s.channel.enc; mac = s.channel.mac; cmac = mac; rmac = s.channel.rmac };
      pending = s.pending;
      offer = s.offer;
    }

-- the chain of R-MACs moves on, and what is pending is as given
unfoldable pub answered : Pending → List ℕ → Session → Session
answered pending mac s =
    record {
      selected = s.selected;
      verified = s.verified;
      channel = record { level = s.channel.level; enc = s.channel.enc; mac = s.channel.mac; cmac = s.channel.cmac; rmac = mac };
      pending = pending;
      offer = no_offer;
    }
