-- `cipher`: the eight words have no bit in common, and their sum is P of what the selection functions take. Assumes nothing.
use mathlib.Core.Path.{ap, ap₂, ◌∙◌}
use native.Mathlib.Omega.{arith}
use lib.Bits.{bit_xor}
use Rattle.des_spec.specs.Bits.{binary}
use Rattle.quick.proofs.Round.{cipher_law}
use Rattle.quick.proofs.Disjoint.{inside, two_0, two_2, two_4, two_6, pair_0, pair_2, pair_4, pair_6, four_0, four_4, in_order}
use Rattle.quick.proofs.rounds.cipher.Goals as goal

pub join-requires : goal.join-requires
join-requires c =
    let w0 = c.word-w0 in
    let w1 = c.word-w1 in
    two_0 (inside 0 w0.type_inv w0.ensures (omega arith)) (inside 1 w1.type_inv w1.ensures (omega arith))

pub join-requires-2 : goal.join-requires-2
join-requires-2 c =
    let w2 = c.word-w2 in
    let w3 = c.word-w3 in
    two_2 (inside 2 w2.type_inv w2.ensures (omega arith)) (inside 3 w3.type_inv w3.ensures (omega arith))

pub join-requires-3 : goal.join-requires-3
join-requires-3 c =
    let w0 = c.word-w0 in
    let w1 = c.word-w1 in
    let w2 = c.word-w2 in
    let w3 = c.word-w3 in
    four_0 (pair_0 (inside 0 w0.type_inv w0.ensures (omega arith)) (inside 1 w1.type_inv w1.ensures (omega arith)) c.join.ensures)
    (pair_2 (inside 2 w2.type_inv w2.ensures (omega arith)) (inside 3 w3.type_inv w3.ensures (omega arith)) c.join-2.ensures)

pub join-requires-4 : goal.join-requires-4
join-requires-4 c =
    let w4 = c.word-w4 in
    let w5 = c.word-w5 in
    two_4 (inside 4 w4.type_inv w4.ensures (omega arith)) (inside 5 w5.type_inv w5.ensures (omega arith))

pub join-requires-5 : goal.join-requires-5
join-requires-5 c =
    let w6 = c.word-w6 in
    let w7 = c.word-w7 in
    two_6 (inside 6 w6.type_inv w6.ensures (omega arith)) (inside 7 w7.type_inv w7.ensures (omega arith))

pub join-requires-6 : goal.join-requires-6
join-requires-6 c =
    let w4 = c.word-w4 in
    let w5 = c.word-w5 in
    let w6 = c.word-w6 in
    let w7 = c.word-w7 in
    four_4 (pair_4 (inside 4 w4.type_inv w4.ensures (omega arith)) (inside 5 w5.type_inv w5.ensures (omega arith)) c.join-4.ensures)
    (pair_6 (inside 6 w6.type_inv w6.ensures (omega arith)) (inside 7 w7.type_inv w7.ensures (omega arith)) c.join-5.ensures)

pub returns : goal.returns
returns c =
    ap (binary 32)
    (ap₂ bit_xor (c.join-3.ensures ∙ ap₂ bit_xor c.join.ensures c.join-2.ensures)
    (c.join-6.ensures ∙ ap₂ bit_xor c.join-4.ensures c.join-5.ensures))
    ∙ in_order c.word-w0.result c.word-w1.result c.word-w2.result c.word-w3.result
    c.word-w4.result c.word-w5.result c.word-w6.result c.word-w7.result
    ∙ cipher_law c.args.r c.args.k c.rotate_right.result c.rotate_left.result c.ranges.r.fits c.rotate_right.ensures c.rotate_left.ensures
    c.word-w0.ensures c.word-w1.ensures c.word-w2.ensures c.word-w3.ensures
    c.word-w4.ensures c.word-w5.ensures c.word-w6.ensures c.word-w7.ensures
