-- `word_at`: the bytes of a field are the string's. Assumes nothing.
use mathlib.Core.Path.{◌∙◌}
use native.Mathlib.Nat.{add-zero}
use native.Mathlib.Omega.{arith}
use Rattle.octets.proofs.Parts.{field_at}
use Rattle.octets.proofs.reading.word_at.Goals as goal

pub returns : goal.returns
returns c =
    let a = c.args in
    c.from_be_bytes.ensures
    ∙ rw (c.part.ensures, field_at a.s.now a.at 2 0 (omega arith), field_at a.s.now a.at 2 1 (omega arith), add-zero)
