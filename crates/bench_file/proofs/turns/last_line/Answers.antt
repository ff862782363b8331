-- `last_line`: a row for an empty rest and one for the others. Assumes nothing.
use mathlib.Core.Path.{refl, sym}
use Rattle.octets.proofs.Pasting.{paste-nothing}
use Rattle.framing.specs.Formats.{last_line}
use Rattle.bench_file.specs.Lines.{malformed_line}
use Rattle.bench_file.proofs.turns.last_line.Goals as goal

pub returns-then-is_empty : goal.returns-then-is_empty
unfolding last_line
returns-then-is_empty c b = rw (← c.is_empty.ensures, c.if-is_empty.true) (refl, sym (paste-nothing _ 0))

pub returns : goal.returns
unfolding last_line malformed_line
returns c b = rw (← c.is_empty.ensures, c.if-is_empty.false) (refl, c.paste.ensures)
