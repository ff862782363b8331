-- `permute` fills its array bit by bit. Assumes nothing.
use Rattle.std.proofs.Common.{ℕ, arith, sym}
use lib.ListN.{length-replicate}
use Rattle.des_spec.proofs.Lengths.{length-permute}
use Rattle.des_spec.proofs.Elements.{get_or-permute}
use Rattle.octets.proofs.Filling.{fill_start, fill_step, fill_done}
use Rattle.des.proofs.permutations.permute.Goals as goal

pub loop-i-init : goal.loop-i-init
loop-i-init g c =
    fill_start (omega (arith, length-replicate {A = ℕ} g.row.M 0, length-permute c.args.table.now c.args.bits))

pub loop-i-preserved : goal.loop-i-preserved
loop-i-preserved g c =
    let t = c.args.table.now in
    let b = c.args.bits in
    fill_step 0 c.loop-i.invariant (omega (arith, length-permute t b)) (sym (get_or-permute t b c.loop-i.i (omega arith)))

pub returns : goal.returns
returns g c = fill_done c.loop-i.invariant (omega (arith, length-permute c.args.table.now c.args.bits))
