-- `cipher_des`: another engine, or a key of another length is refused; else the text is ECB's. Assumes nothing.
use Rattle.cipher_c.specs.Calls.{des_call}
use Rattle.cipher_c.proofs.Accepted.{des-called}
use borrow.Author.Rules.{rules as by_rules}
use Rattle.cipher_c.proofs.cipher_des.Goals as goal

pub returns-in_default : goal.returns-in_default
unfolding des_call
returns-in_default c = search by_rules depth 24

pub returns-in_default-2 : goal.returns-in_default-2
unfolding des_call
returns-in_default-2 c = search by_rules depth 24

pub returns : goal.returns
returns c =
    let a = c.args in
    let found = c.in-Some-Ok in
    let key = found.ensures'.1 in
    des-called a.engine a.key.now found.key a.text.now _ found.ensures key.long key.same c.des_ecb.ensures
