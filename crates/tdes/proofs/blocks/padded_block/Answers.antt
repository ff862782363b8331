-- `padded_block`: the text over zeros, and 80 behind it. Assumes nothing.
use Prim.Native.Nat.{ℕ, suc, ◌-◌, ◌%◌, ◌<◌}
use mathlib.Core.List.{List, ◌++◌}
use mathlib.Core.Path.{◌≡◌, refl, ap, ◌∙◌}
use native.Mathlib.Omega.{arith}
use borrow.Author.Rules.{rules}
use lib.ListN.{length, set, drop}
use lib.Seq.{set_at}
use Rattle.octets.specs.Bytes.{zeros}
use Rattle.octets.proofs.Parts.{drop-zeros}
use Rattle.des_spec.specs.Modes.{padded}
use Rattle.tdes.proofs.blocks.padded_block.Goals as goal

-- the bytes of a short text, 80, zeros
marked : (t out : List ℕ) → length t < 8 → out ≡ t ++ drop (length t) (zeros 8) → set out (length t) 0x80 ≡ padded t
unfolding padded
marked t out h e =
    let n = length t in
    let k : 8 - n ≡ suc (7 - n % 8) = omega arith in
    ap (λ (l : List ℕ). set l n 0x80) (e ∙ ap (λ (l : List ℕ). t ++ l) (drop-zeros 8 n (omega arith) ∙ ap zeros k))
    ∙ set_at t 0 (zeros (7 - n % 8)) 0x80 n refl

pub returns : goal.returns
returns c = marked c.args.text.now _ (search rules) (ap (λ (l : List ℕ). l ++ drop (length c.args.text.now) (zeros 8)) c.copy_from_slice.ensures.after)
