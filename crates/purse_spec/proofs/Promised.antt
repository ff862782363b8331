-- What the types of the code's areas and values promise of a situation, and with it what the laws of the commands ask. Assumes nothing.
use mathlib.Core.List.{List}
use mathlib.Core.Option.{some}
use mathlib.Core.Path.{◌≡◌}
use Prim.Native.Nat.{ℕ}
use lib.ListN.{length}
use Rattle.octets.specs.Bytes.{AreBytes}
use Rattle.card.specs.Card.{Card}
use Rattle.memory.specs.Reading.{read_card}
use Rattle.memory.proofs.Cards.{read_proper}
use Rattle.session.specs.declared.Session.{Session}
use Rattle.session.proofs.Sizes.{Sized}
use Rattle.commands_spec.proofs.Sizes.{Sound}
use Rattle.purse_spec.specs.History.{Situation}

-- memory is of bytes, and the session's arrays have their sizes
pub record Typed (st : Situation) : Type 0 where
  pub memory : AreBytes st.memory
  pub session : Sized st.session

-- what the laws of the commands ask, of the card that memory reads as
pub sound_of : (m : List ℕ) (c : Card) (s : Session) (bytes random : List ℕ) → AreBytes m → read_card m ≡ some c → Sized s → AreBytes bytes → AreBytes random
    → length random ≡ 8 → Sound c s bytes random
sound_of m c s bytes random f e z a b n =
    record { proper = read_proper m c f e; sized = z; bytes = a; drawn = record { size = n; each = b } }
