-- `each_under`: after i turns the text is what its first i blocks became, and then what it was. Assumes nothing.
use Prim.Native.Nat.{ℕ, ◌*◌}
use Rattle.octets.specs.Bytes.{field}
use Rattle.des_spec.specs.Des.{des}
use Rattle.tdes.proofs.Each.{Done}
use Rattle.tdes.proofs.single.each_under.Given as goal

abbrev pub invariant-loop-i : goal.invariant-loop-i
invariant-loop-i g l = Done (λ (k : ℕ). des l.decipher (field l.keys (8 * k) 8)) l.initial.text l.i l.text
