-- `ecb_under`: after i turns the text is what its first i blocks became, and then what it was. Assumes nothing.
use Prim.Native.Nat.{ℕ}
use Rattle.des_spec.specs.Des.{block_under}
use Rattle.tdes.proofs.Each.{Done}
use Rattle.tdes.proofs.single.ecb_under.Given as goal

abbrev pub invariant-loop-i : goal.invariant-loop-i
invariant-loop-i g l = Done (λ (k : ℕ). block_under (g.K.RoundKeys.bits l.keys)) l.initial.text l.i l.text
