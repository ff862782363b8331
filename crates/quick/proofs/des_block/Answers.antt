-- `des_block` is a block under the round keys of its key. Assumes nothing.
use mathlib.Core.Path.{ap, ◌∙◌}
use mathlib.Core.List.{List}
use Prim.Native.Nat.{ℕ}
use Rattle.des_spec.specs.Des.{des, block_under}
use Rattle.quick.proofs.des_block.Goals as goal

pub returns : goal.returns
unfolding des
returns c =
    c.block_under.ensures ∙ ap (λ (k : List (List ℕ)). block_under k c.args.block) c.round_keys.ensures
