-- `binaries` fills its array bit by bit. Assumes nothing.
use Rattle.std.proofs.Common.{ℕ, rules, arith, ◌≡◌, length, sym, ◌∙◌}
use lib.ListN.{length-replicate}
use Rattle.des_spec.proofs.Elements.{get_or_spread}
use Rattle.octets.proofs.Filling.{fill_start, fill_step, fill_done}
use Rattle.des.proofs.Places.{length-eight}
use Rattle.des.proofs.bits.binaries.Goals as goal

pub loop-i-init : goal.loop-i-init
loop-i-init g c =
    fill_start (length-replicate {A = ℕ} g.row.N 0 ∙ c.requires.2 ∙ sym (length-eight g.row.W c.args.numbers (search rules)))

pub loop-i-preserved : goal.loop-i-preserved
loop-i-preserved g c =
    let w = g.row.W in
    let x = c.args.numbers in
    let e : length x ≡ 8 = search rules in
    let l = length-eight w x e in
    fill_step 0 c.loop-i.invariant (omega (arith, l)) (c.bit.ensures ∙ sym (get_or_spread w x c.loop-i.i c.requires.0 (rw e (omega arith))))

pub returns : goal.returns
returns g c =
    fill_done c.loop-i.invariant (omega (arith, length-eight g.row.W c.args.numbers (search rules)))
