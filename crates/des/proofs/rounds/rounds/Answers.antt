-- `rounds` keeps what the rounds that are left make of its halves. Assumes nothing.
use Rattle.std.proofs.Common.{ℕ, arith, ◌≡◌, ◌+◌, List, [], drop, sym, ap, ◌∙◌}
use lib.ListN.{drop_of_length-le}
use Rattle.des_spec.specs.Bits.{xor}
use Rattle.des_spec.specs.Des.{rounds}
use Rattle.des.proofs.Turns.{rounds-next}
use Rattle.des.proofs.rounds.rounds.Goals as goal

pub loop-key-preserved : goal.loop-key-preserved
loop-key-preserved c =
    let ks = c.args.keys in
    let i = c.loop-key.key-index in
    let l = c.loop-key.left in
    let r = c.loop-key.right in
    let n = c.xor-next.ensures ∙ ap (xor l) c.cipher.ensures in
    ap (rounds (drop (i + 1) ks) r) n ∙ sym (rounds-next ks i l r (omega arith)) ∙ c.loop-key.invariant

pub returns : goal.returns
unfolding rounds
returns c =
    let ks = c.args.keys in
    let d : drop c.loop-key.key-index ks ≡ [] = drop_of_length-le ks {i = c.loop-key.key-index} (omega arith) in
    c.join.ensures ∙ sym (ap (λ (t : List (List ℕ)). rounds t c.loop-key.left c.loop-key.right) d) ∙ c.loop-key.invariant
