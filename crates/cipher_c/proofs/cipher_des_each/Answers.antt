-- `cipher_des_each`: another engine, or keys of another length are refused; else each block is under its own key. Assumes nothing.
use Rattle.des_spec.specs.Modes.{blocks}
use Rattle.cipher_c.specs.Calls.{des_each_call}
use Rattle.cipher_c.proofs.Accepted.{each-called}
use borrow.Author.Rules.{rules as by_rules}
use Rattle.cipher_c.proofs.cipher_des_each.Goals as goal

pub returns-in_default : goal.returns-in_default
unfolding des_each_call blocks
returns-in_default c = search by_rules depth 24

pub returns-then-keys-text : goal.returns-then-keys-text
unfolding des_each_call blocks
returns-then-keys-text c = search by_rules depth 24

pub returns : goal.returns
returns c =
    let a = c.args in
    each-called a.engine a.keys.now a.text.now _ c.in-Some.ensures (search by_rules) c.des_each.ensures
