-- What each transition of the session sets and keeps, field by field: document 01, "Every command that answers 0, refused or not, ends a
-- pending INITIALIZE UPDATE or INITIALIZE TRANSACTION. Start-up ends all of the session; a SELECT that reaches its AID, right or not, ends
-- all but the PIN flag." Assumes nothing.
use mathlib.Core.Bool.{Bool, false}
use mathlib.Core.List.{List, [], ◌∷◌}
use mathlib.Core.Path.{◌≡◌, refl}
use Prim.Native.Nat.{ℕ}
use Rattle.session.specs.declared.Set.{Set}
use Rattle.session.specs.declared.Level.{Level}
use Rattle.session.specs.declared.Level.TheVariants.{Closed}
use Rattle.session.specs.declared.Channel.{Channel}
use Rattle.session.specs.declared.Pending.{Pending}
use Rattle.session.specs.declared.Pending.TheVariants.{Nothing, Update}
use Rattle.session.specs.declared.Offer.{Offer}
use Rattle.session.specs.declared.Session.{Session}
use Rattle.session.specs.Transitions.{unselected, ended, closed, reselected, flagged, offered, opened, chained, answered}

-- a session by its eleven values: selection, PIN flag; the channel's level, ENC, MAC, last C-MAC, last R-MAC; what is pending; the
-- offer's ENC, MAC, host cryptogram
abbrev row : Bool → Bool → Level → List ℕ → List ℕ → List ℕ → List ℕ → Pending → List ℕ → List ℕ → List ℕ → Session
row selected verified level enc mac cmac rmac pending offer-enc offer-mac expected =
    record {
      selected = selected;
      verified = verified;
      channel = record { level = level; enc = enc; mac = mac; cmac = cmac; rmac = rmac };
      pending = pending;
      offer = record { enc = offer-enc; mac = offer-mac; expected = expected };
    }

-- eight zeros
abbrev z8 : List ℕ
z8 = 0 ∷ 0 ∷ 0 ∷ 0 ∷ 0 ∷ 0 ∷ 0 ∷ 0 ∷ []

-- sixteen zeros
abbrev z16 : List ℕ
z16 = 0 ∷ 0 ∷ 0 ∷ 0 ∷ 0 ∷ 0 ∷ 0 ∷ 0 ∷ 0 ∷ 0 ∷ 0 ∷ 0 ∷ 0 ∷ 0 ∷ 0 ∷ 0 ∷ []

-- each transition of a session s: a line each
pub record Transitions (s : Session) : Type 0 where
  -- installation and start-up
  pub unselected : unselected ≡ row false false Closed z16 z16 z8 z8 Nothing z16 z16 z8
  pub ended : ended s ≡ row s.selected s.verified s.channel.level s.channel.enc s.channel.mac s.channel.cmac s.channel.rmac Nothing z16 z16 z8
  pub closed : closed s ≡ row s.selected s.verified Closed z16 z16 z8 z8 Nothing z16 z16 z8
  -- SELECT, right or not, keeps the PIN flag alone
  pub reselected : (right : Bool) → reselected right s ≡ row right s.verified Closed z16 z16 z8 z8 Nothing z16 z16 z8
  pub flagged : (flag : Bool)
      → flagged flag s ≡ row s.selected flag s.channel.level s.channel.enc s.channel.mac s.channel.cmac s.channel.rmac Nothing z16 z16 z8
  -- INITIALIZE UPDATE leaves the channel as it is
  pub offered : (set : Set) (o : Offer)
      → offered set o s ≡ row s.selected s.verified s.channel.level s.channel.enc s.channel.mac s.channel.cmac s.channel.rmac (Update set) o.enc o.mac o.expected
  pub opened : (c : Channel) → opened c s ≡ row s.selected s.verified c.level c.enc c.mac c.cmac c.rmac Nothing z16 z16 z8
  -- a C-MAC ends nothing that is pending; with an R-MAC what is pending is given
  pub chained : (mac : List ℕ)
      → chained mac s ≡ row s.selected s.verified s.channel.level s.channel.enc s.channel.mac mac s.channel.rmac s.pending s.offer.enc s.offer.mac s.offer.expected
  pub answered : (pending : Pending) (mac : List ℕ)
      → answered pending mac s ≡ row s.selected s.verified s.channel.level s.channel.enc s.channel.mac s.channel.cmac mac pending z16 z16 z8

-- every session goes so
pub field_by_field : (s : Session) → Transitions s
unfolding unselected ended closed reselected flagged offered opened chained answered
field_by_field s =
    record {
      unselected = refl;
      ended = refl;
      closed = refl;
      reselected = λ right. refl;
      flagged = λ flag. refl;
      offered = λ set o. refl;
      opened = λ c. refl;
      chained = λ mac. refl;
      answered = λ pending mac. refl;
    }
