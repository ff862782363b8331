-- `put_response`: "C 0", the digits of each byte, and a line feed. Assumes nothing.
use mathlib.Core.Path.{refl, ◌∙◌}
use native.Mathlib.Omega.{arith}
use lib.Seq.{take_all}
use Rattle.framing.proofs.Putting.{puts_nothing, room_kept}
use Rattle.bench_file.specs.Lines.{hex}
use Rattle.bench_file.proofs.Digits.{hex_step, response-put}
use Rattle.bench_file.proofs.line.put_response.Goals as goal

pub loop-byte-init : goal.loop-byte-init
unfolding hex
loop-byte-init c = (refl, puts_nothing _)

pub loop-byte-preserved : goal.loop-byte-preserved
loop-byte-preserved c =
    let e = c.append.ensures.puts (omega arith) in
    let l = room_kept _ _ _ e in
    let w = e.writes in
    let i = c.loop-byte.invariant in
    (c.append-in-loop-byte.ensures.same_area ∙ i.0, hex_step c.args.x.now _ _ _ _ c.loop-byte-test.true (omega arith) i.1 (rw c.hex_pair.ensures at c.append-in-loop-byte.ensures.puts))

pub returns-clause-puts : goal.returns-clause-puts
returns-clause-puts c =
    let x = c.args.x.now in
    response-put x _ _ _ _ c.requires.0 c.requires.1 (c.append.ensures.puts (omega arith))
    (rw (take_all _ x c.loop-byte-test.false) at c.loop-byte.invariant.1)
    c.append-2.ensures.puts
