-- A session as its struct's types have it: arrays of their sizes, bytes below 256, an amount of two bytes. Each change keeps that.
-- Assumes nothing.
use Prim.Native.Nat.{ℕ, ◌<◌}
use mathlib.Core.Bool.{Bool}
use mathlib.Core.List.{List}
use native.Mathlib.Omega.{arith}
use Rattle.octets.specs.Bytes.{Octets}
use Rattle.octets.proofs.Octets.{zeros_octets}
use Rattle.session.specs.declared.Set.{Set}
use Rattle.session.specs.declared.Channel.{Channel}
use Rattle.session.specs.declared.Offer.{Offer}
use Rattle.session.specs.declared.Pending.{Pending}
use Rattle.session.specs.declared.Session.{Session}
use Rattle.session.specs.Transitions.{no_channel, no_offer, unselected, ended, closed, reselected, flagged, offered, opened, chained, answered}
use Rattle.session.specs.Codes.{amount_of}

pub record SizedChannel (c : Channel) : Type 0 where
  pub enc : Octets 16 c.enc
  pub mac : Octets 16 c.mac
  pub cmac : Octets 8 c.cmac
  pub rmac : Octets 8 c.rmac

pub record SizedOffer (o : Offer) : Type 0 where
  pub enc : Octets 16 o.enc
  pub mac : Octets 16 o.mac
  pub expected : Octets 8 o.expected

pub record Sized (s : Session) : Type 0 where
  pub channel : SizedChannel s.channel
  pub amount : amount_of s.pending < 65536
  pub offer : SizedOffer s.offer

pub no_channel_sized : SizedChannel no_channel
no_channel_sized = record { enc = zeros_octets 16; mac = zeros_octets 16; cmac = zeros_octets 8; rmac = zeros_octets 8 }

pub no_offer-sized : SizedOffer no_offer
no_offer-sized = record { enc = zeros_octets 16; mac = zeros_octets 16; expected = zeros_octets 8 }

pub unselected-sized : Sized unselected
unfolding unselected amount_of
unselected-sized = record { channel = no_channel_sized; amount = omega arith; offer = no_offer-sized }

module _ {s : Session} (h : Sized s) where
  pub ended-sized : Sized (ended s)
  unfolding ended amount_of
  ended-sized = record { channel = h.channel; amount = omega arith; offer = no_offer-sized }

  pub closed-sized : Sized (closed s)
  unfolding closed amount_of
  closed-sized = record { channel = no_channel_sized; amount = omega arith; offer = no_offer-sized }

  pub reselected-sized : (right : Bool) → Sized (reselected right s)
  unfolding reselected amount_of
  reselected-sized right = record { channel = no_channel_sized; amount = omega arith; offer = no_offer-sized }

  pub flagged-sized : (verified : Bool) → Sized (flagged verified s)
  unfolding flagged amount_of
  flagged-sized verified = record { channel = h.channel; amount = omega arith; offer = no_offer-sized }

  pub offered-sized : (set : Set) {offer : Offer} → SizedOffer offer → Sized (offered set offer s)
  unfolding offered amount_of
  offered-sized set o = record { channel = h.channel; amount = omega arith; offer = o }

  pub opened-sized : {channel : Channel} → SizedChannel channel → Sized (opened channel s)
  unfolding opened amount_of
  opened-sized c = record { channel = c; amount = omega arith; offer = no_offer-sized }

  pub chained-sized : {mac : List ℕ} → Octets 8 mac → Sized (chained mac s)
  unfolding chained
  chained-sized a =
      let c = h.channel in
      record {
        channel = record { enc = c.enc; mac = c.mac; cmac = a; rmac = c.rmac };
        amount = h.amount;
        offer = h.offer;
      }

  pub answered-sized : (pending : Pending) {mac : List ℕ} → amount_of pending < 65536 → Octets 8 mac → Sized (answered pending mac s)
  unfolding answered
  answered-sized pending k a =
      let c = h.channel in
      record {
        channel = record { enc = c.enc; mac = c.mac; cmac = c.cmac; rmac = a };
        amount = k;
        offer = no_offer-sized;
      }
