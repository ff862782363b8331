-- `des_block` is the composition of its parts. Assumes nothing.
use Rattle.std.proofs.Common.{ℕ, List, ap, ◌∙◌}
use Rattle.des_spec.specs.Des.{block_under, des}
use Rattle.des.proofs.des_block.Goals as goal

pub returns : goal.returns
unfolding des
returns c =
    c.block_under.ensures ∙ ap (λ (ks : List (List ℕ)). block_under ks c.args.block) c.round_keys-keys.ensures
