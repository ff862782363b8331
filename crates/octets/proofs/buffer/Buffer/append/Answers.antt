-- `append`: a piece that fits lies behind the bytes in use. Assumes nothing.
use Prim.Native.Nat.{◌+◌}
use mathlib.Core.Path.{sym}
use native.Mathlib.Omega.{arith}
use borrow.Author.Tests.{le-leb}
use lib.ListN.{length}
use Rattle.octets.specs.Buffers.{appended}
use Rattle.octets.proofs.Holding.{appended_past}
use Rattle.octets.proofs.buffer.Buffer.append.Goals as goal
use Rattle.octets.proofs.buffer.Buffer.append.Goals.{else-self-le-CAPACITY-via-then-self-le-CAPACITY+else-piece-self, else-self-le-CAPACITY-via-else-self-le-CAPACITY}

pub returns-then-piece-self : goal.returns-then-piece-self
unfolding appended
returns-then-piece-self c =
    let a = c.args in
    rw (le-leb (a.self.now.len + length a.piece.now) 128 (omega arith), c.paste.ensures)

pub returns-else-self-le-CAPACITY : goal.returns-else-self-le-CAPACITY
returns-else-self-le-CAPACITY c =
    let a = c.args in
    elim c.else-self-le-CAPACITY.branch [
      | else-self-le-CAPACITY-via-then-self-le-CAPACITY+else-piece-self w ↦ sym (appended_past a.self.now a.piece.now (omega arith))
      | else-self-le-CAPACITY-via-else-self-le-CAPACITY w ↦ sym (appended_past a.self.now a.piece.now (omega arith))
    ]
