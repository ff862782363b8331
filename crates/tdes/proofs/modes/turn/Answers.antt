-- `turn`: what each mode says of a block. Assumes nothing.
use Prim.Native.Nat.{ℕ}
use mathlib.Core.List.{List}
use mathlib.Core.Path.{ap, ◌∙◌}
use Rattle.des_spec.specs.Bits.{xor_bytes}
use Rattle.des_spec.specs.Walk.{ecb_by, cbc_encipher_by, cbc_decipher_by}
use Rattle.tdes.specs.Turns.{mode, turned}
use Rattle.tdes.proofs.modes.turn.Goals as goal

pub returns-in-Ecb : goal.returns-in-Ecb
unfolding turned mode ecb_by
returns-in-Ecb g c =
    let a = c.args in
    rw c.in-Ecb.is (λ k. record { put = c.block.ensures k; next = a.value })

pub returns-in-CbcEncipher : goal.returns-in-CbcEncipher
unfolding turned mode cbc_encipher_by
returns-in-CbcEncipher g c = rw c.in-CbcEncipher.is (λ k. record { put = c.chained-sum.ensures k; next = c.chained-sum.ensures k })

pub returns-in-CbcDecipher : goal.returns-in-CbcDecipher
unfolding turned mode cbc_decipher_by
returns-in-CbcDecipher g c =
    let a = c.args in
    let put = c.xor_blocks.ensures ∙ ap (λ (x : List ℕ). xor_bytes x a.value) c.block-in-CbcDecipher.ensures in
    rw c.in-CbcDecipher.is (λ k. record { put = put k; next = a.block })
