-- The session in the C host's 128 bytes: document 01, "every session handed out reads back as itself". Assumes nothing.
--   0 the mark 01; 1 selected; 2 PIN flag; 3 the channel's level and key set; 4 what is pending; 5 its amount, two bytes; 7 zero;
--   8 ENC, 24 MAC, 40 last C-MAC, 48 last R-MAC; 56 the offer's ENC, 72 MAC, 88 host cryptogram; 96 zeros.
use Rattle.std.specs.Prelude.{Option as Optional, Some, None, List, [], ◌∷◌, ◌++◌, ℕ, ◌/◌, ◌%◌, eqb}
use Rattle.std.proofs.Math.Option.{Option, none, some}
use Rattle.octets.specs.Choice.{pick}
use Rattle.octets.specs.Bytes.{zeros, byte_at, field, same}
use Rattle.octets.specs.Words.{word_at}
use Rattle.octets.specs.Tests.{flag_byte}
use Rattle.session.specs.declared.Channel.{Channel}
use Rattle.session.specs.declared.Offer.{Offer}
use Rattle.session.specs.declared.Session.{Session}
use Rattle.session.specs.Codes.{level_number, level_of, pending_number, amount_of, pending_of}

-- the eight bytes before the keys
abbrev pub heading : Session → List ℕ
heading s =
    0x01 ∷ flag_byte s.selected ∷ flag_byte s.verified ∷ level_number s.channel.level ∷ pending_number s.pending
    ∷ amount_of s.pending / 256 ∷ amount_of s.pending % 256 ∷ 0x00 ∷ []

-- the 128 bytes of a session
unfoldable pub packed : Session → List ℕ
packed s =
    heading s ++ s.channel.enc ++ s.channel.mac ++ s.channel.cmac ++ s.channel.rmac
    ++ s.offer.enc ++ s.offer.mac ++ s.offer.expected ++ zeros 32

-- the channel that 128 bytes say, if they say a session
unfoldable pub decoded_channel : List ℕ → Channel
decoded_channel l =
    record { level = level_of (byte_at l 3); enc = field l 8 16; mac = field l 24 16; cmac = field l 40 8; rmac = field l 48 8 }

-- the offer that they say
unfoldable pub decoded_offer : List ℕ → Offer
decoded_offer l = record { enc = field l 56 16; mac = field l 72 16; expected = field l 88 8 }

-- the whole session that they say
unfoldable pub decoded : List ℕ → Session
decoded l =
    record {
      selected = eqb (byte_at l 1) 1;
      verified = eqb (byte_at l 2) 1;
      channel = decoded_channel l;
      pending = pending_of (byte_at l 4) (word_at l 5);
      offer = decoded_offer l;
    }

-- bytes read as a session exactly where they are its packing
unfoldable pub unpacked : List ℕ → Option Session
unpacked l = pick (same (packed (decoded l)) l) (some (decoded l)) none

-- a session, or the lack of one, as the code's option
abbrev pub shown : Option Session → Optional Session
shown none = None
shown (some s) = Some s

-- what bytes read as, as the code's option
unfoldable pub unpacking : List ℕ → Optional Session
unpacking l = shown (unpacked l)
