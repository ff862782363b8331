-- What is put in the output: nothing, and two pieces in a row, which are put as one. Assumes nothing.
use Prim.Native.Nat.{ℕ, ◌+◌, ◌≤◌}
use mathlib.Core.List.{List, [], ◌++◌}
use mathlib.Core.Path.{◌≡◌, sym, ◌∙◌}
use native.Mathlib.Omega.{arith}
use lib.ListN.{length, length-append}
use Rattle.octets.proofs.Pasting.{length-paste, paste-next, paste-nothing}
use Rattle.framing.specs.declared.output.Output.{Output}
use Rattle.framing.specs.Step.{PutsBehind}

pub puts_nothing : (o : Output) → PutsBehind [] o o
puts_nothing o = record { writes = omega arith; shows = sym (paste-nothing o.area.now o.written) }

-- the output keeps its length
pub room_kept : (s : List ℕ) (o p : Output) → PutsBehind s o p → length p.area.now ≡ length o.area.now
room_kept s o p e = rw (e.shows, length-paste)

module _ (s t : List ℕ) (o p q : Output) (h : o.written + length s + length t ≤ length o.area.now) (e : PutsBehind s o p) where
  room : p.written + length t ≤ length p.area.now
  room = rw (e.writes, room_kept s o p e) h

  pub puts_next : (p.written + length t ≤ length p.area.now → PutsBehind t p q) → PutsBehind (s ++ t) o q
  puts_next f =
      let g = f room in
      record {
        writes = g.writes ∙ rw (e.writes, length-append) (omega arith);
        shows = g.shows ∙ rw (e.writes, e.shows) (paste-next o.area.now o.written s (omega arith) t h);
      }
