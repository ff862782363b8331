-- `cipher_cbc`: another engine, or a key or a start value of another length is refused; else the text is CBC's. Assumes nothing.
use Rattle.cipher_c.specs.Calls.{cbc_call}
use Rattle.cipher_c.proofs.Accepted.{cbc-called}
use borrow.Author.Rules.{rules as by_rules}
use Rattle.cipher_c.proofs.cipher_cbc.Goals as goal

pub returns-in_default : goal.returns-in_default
unfolding cbc_call
returns-in_default c = search by_rules depth 24

pub returns-in_default-2 : goal.returns-in_default-2
unfolding cbc_call
returns-in_default-2 c = search by_rules depth 24

pub returns-in_default-3 : goal.returns-in_default-3
unfolding cbc_call
returns-in_default-3 c = search by_rules depth 24

pub returns : goal.returns
returns c =
    let a = c.args in
    let found = c.in-Some-Ok-Ok in
    let key = found.ensures'.1 in
    let start = found.ensures''.1 in
    cbc-called a.engine a.key.now a.start.now found.key found.start found.ensures key.long start.long key.same start.same a.text.now _ c.cbc_encipher.ensures
