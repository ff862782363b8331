-- `join`: one piece more stands in front, until all do.
use mathlib.Core.Path.{◌≡◌, sym, ◌∙◌}
use mathlib.Core.List.{[]}
use Prim.Native.Nat.{◌<◌}
use native.Mathlib.Omega.{arith}
use lib.ListN.{length, take}
use lib.Seq.{take_all}
use Rattle.std.proofs.lemmas.List.{length-map, get_or-map}
use Rattle.stores.specs.Fields.{joined}
use Rattle.memory.proofs.Packing.{pointed, piece_laid}
use Rattle.memory.proofs.structs.join.Goals as goal

pub loop-piece-preserved : goal.loop-piece-preserved
loop-piece-preserved g c =
    let l = c.loop-piece in
    let ps = c.args.pieces.now in
    let h : l.piece-index < length (pointed ps) = rw length-map c.loop-piece-test.true in
    let p = piece_laid (pointed ps) l.piece-index h l.at l.bytes (c.requires ∙ sym l.invariant.size) l.invariant.at l.invariant.front in
    let q = rw (get_or-map (λ r. r.now) ps l.piece-index (record { ref_ptr = (0, 0); now = [] }) [] c.loop-piece-test.true) at p in
    record { size = c.paste.auto.area ∙ l.invariant.size; at = q.0; front = rw c.paste.ensures q.1 }

pub returns : goal.returns
returns g c =
    let l = c.loop-piece in
    let ps = pointed c.args.pieces.now in
    let all : take l.piece-index ps ≡ ps = take_all l.piece-index ps (rw length-map (omega arith)) in
    let e : l.at ≡ length (joined ps) = l.invariant.at ∙ rw all in
    let w = c.requires in
    sym (take_all l.at l.bytes (omega arith)) ∙ l.invariant.front ∙ rw all
