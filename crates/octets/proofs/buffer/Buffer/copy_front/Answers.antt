-- `copy_front`: an area that is too short is left as it is. Assumes nothing.
use mathlib.Core.Path.{sym, ap}
use native.Mathlib.Omega.{arith}
use borrow.Author.Tests.{lt-leb}
use lib.ListN.{length}
use Rattle.octets.specs.Buffers.{content}
use Rattle.octets.proofs.Pasting.{paste_past}
use Rattle.octets.proofs.buffer.Buffer.copy_front.Goals as goal

pub returns-then-area-bytes : goal.returns-then-area-bytes
returns-then-area-bytes c =
    let a = c.args in
    let e = ap length c.as_slice-bytes.ensures in
    (sym (rw (lt-leb (length (content a.self.now)) (length a.area.now) (omega arith))), sym (paste_past a.area.now 0 (content a.self.now) (omega arith)))
