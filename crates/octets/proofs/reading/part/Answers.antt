-- `part`: what lies within the string is its field. Assumes nothing.
use Prim.Native.Nat.{◌-◌}
use mathlib.Core.Path.{◌≡◌, sym, ap, ◌∙◌}
use native.Mathlib.Omega.{arith}
use lib.ListN.{length, take, drop, length-drop}
use lib.Seq.{take_all}
use Rattle.octets.proofs.Parts.{field-part}
use Rattle.octets.proofs.reading.part.Goals as goal

pub returns : goal.returns
returns g c =
    let s = c.args.s.now in
    let at = c.args.at in
    let chunk = c.in-Some.ensures.cases in
    let rest : take (length s - at) (drop at s) ≡ drop at s = take_all (length s - at) (drop at s) (omega (arith, length-drop at s)) in
    chunk.same ∙ ap (take g.row.N) rest ∙ sym (field-part s at g.row.N (omega (arith, chunk.enough, ap length rest, length-drop at s)))
