-- `xor_blocks` fills its array byte by byte. Assumes nothing.
use mathlib.Core.Path.{◌≡◌, sym}
use native.Mathlib.Omega.{arith}
use borrow.Author.Rules.{rules}
use lib.ListN.{length}
use Rattle.des_spec.proofs.Lengths.{length-xor_bytes}
use Rattle.des_spec.proofs.Elements.{get_or-xor_bytes}
use Rattle.octets.proofs.Filling.{fill_start, fill_step, fill_done}
use Rattle.tdes.proofs.blocks.xor_blocks.Goals as goal

pub loop-i-init : goal.loop-i-init
loop-i-init c =
    let a = c.args.a in
    let b = c.args.b in
    let e : length a ≡ 8 = search rules in
    let f : length b ≡ 8 = search rules in
    fill_start (omega (arith, length-xor_bytes a b (omega arith)))

pub loop-i-preserved : goal.loop-i-preserved
loop-i-preserved c =
    let a = c.args.a in
    let b = c.args.b in
    let e : length a ≡ 8 = search rules in
    let f : length b ≡ 8 = search rules in
    fill_step 0 c.loop-i.invariant (omega (arith, length-xor_bytes a b (omega arith))) (sym (get_or-xor_bytes a b c.loop-i.i (omega arith) (omega arith)))

pub returns : goal.returns
returns c =
    let a = c.args.a in
    let b = c.args.b in
    let e : length a ≡ 8 = search rules in
    let f : length b ≡ 8 = search rules in
    fill_done c.loop-i.invariant (omega (arith, length-xor_bytes a b (omega arith)))
