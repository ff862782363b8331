-- `join`: the first pieces stand in front.
use Rattle.std.proofs.Common.{◌≡◌, length, take}
use Rattle.stores.specs.Fields.{joined}
use Rattle.memory.proofs.Packing.{pointed}
use Rattle.memory.proofs.structs.join.Given as goal

abbrev pub invariant-loop-piece : goal.invariant-loop-piece
invariant-loop-piece g l =
    let made = joined (take l.piece-index (pointed l.pieces)) in
    record { size : length l.bytes ≡ g.row.N; at : l.at ≡ length made; front : take l.at l.bytes ≡ made }
