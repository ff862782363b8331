-- The ends of the host's functions, over plain variables: what the code has there is what the definition says. Assumes nothing.
use mathlib.Core.List.{List, []}
use mathlib.Core.Path.{◌≡◌}
use mathlib.Core.Option.{none, some}
use Prim.Native.Nat.{ℕ, ◌≤◌, ◌<◌}
use borrow.Author.Tests.{eq-eqb, le-ltb}
use Rattle.std.specs.Prelude.{Some, None}
use lib.ListN.{length}
use Rattle.octets.specs.Bytes.{AreBytes}
use Rattle.memory.specs.Layout.{memory_size}
use Rattle.session.specs.declared.Session.{Session}
use Rattle.session.specs.Packing.{unpacked, unpacking}
use Rattle.session.proofs.Reading.{unpacking-some, unpacking-none, reads_octets}
use Rattle.purse_spec.specs.Calls.{Run}
use Rattle.purse_spec.specs.Commands.{least_area, command}
use Rattle.purse.specs.declared.calls.Answer.{Answer}
use Rattle.purse.specs.declared.calls.Called.{Called}
use Rattle.purse.specs.Called.{number_of, Gives}
use Rattle.host.specs.Host.{session_size, handed, number, area_after, outcome, length_tested, in_session, command_call}
use Rattle.host.proofs.Bounds.{Small}

-- what the number asks of a call that gives a small run
pub gives_small : (r : Run) (c : Called Answer) (m area : List ℕ) → Gives r c m area → Small r → (c.length < 256) × (c.count < 65536)
gives_small r c m area e s = (rw e.length s.size, rw e.count s.count)

-- installation and start-up, which have no response
pub tested : (m area : List ℕ) (r : Run) (c : Called Answer) (n : ℕ) (m' area' : List ℕ) → length m ≡ memory_size → length area ≡ session_size
    → Gives r c m' [] → n ≡ number (number_of c.answer) c.length c.count → area' ≡ area_after (number_of c.answer) c.session area
    → handed n m' area' [] ≡ length_tested m area r
unfolding length_tested outcome
tested m area r c n m' area' h k g w a =
    rw (eq-eqb (length m) memory_size h, eq-eqb (length area) session_size k, a, w, g.memory, g.answer, g.length, g.count, g.session, ← g.response)

-- ---- a command

module _ (m area bytes random response : List ℕ) (limit : ℕ) where
  -- an area that reads as a session has its size
  pub session_long : AreBytes area → (s : Session) → unpacking area ≡ Some s → length area ≡ session_size
  session_long f s e = (reads_octets area s (unpacking-some area s e) f).size

  module _ (a : length m ≡ memory_size) (b : least_area ≤ length response) (d : length random ≡ 8) where
    -- its session area reads as none
    pub command_none : unpacking area ≡ None → handed (number 8 0 0) m area response ≡ command_call m area bytes random response limit
    unfolding command_call in_session
    command_none e =
        let o : unpacked area ≡ none = unpacking-none area e in
        rw (eq-eqb (length m) memory_size a, le-ltb (length response) least_area b, eq-eqb (length random) 8 d, o)

    -- or as one
    pub command_run : (s : Session) (c : Called Answer) (n : ℕ) (m' area' response' : List ℕ) → unpacking area ≡ Some s
        → Gives (command m s bytes random response limit) c m' response'
        → (n ≡ number (number_of c.answer) c.length c.count) × (area' ≡ area_after (number_of c.answer) c.session area)
        → handed n m' area' response' ≡ command_call m area bytes random response limit
    unfolding command_call in_session outcome
    command_run s c n m' area' response' e g w =
        let o : unpacked area ≡ some s = unpacking-some area s e in
        rw (eq-eqb (length m) memory_size a, le-ltb (length response) least_area b, eq-eqb (length random) 8 d, o, w.1, w.0, g.response, g.memory, g.answer, g.length, g.count, g.session)
