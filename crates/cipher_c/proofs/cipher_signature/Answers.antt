-- `cipher_signature`: another engine, or a key, a start value or an area of another length is refused; else the signature is pasted. Assumes nothing.
use Rattle.cipher_c.specs.Calls.{signature_call}
use Rattle.cipher_c.proofs.Accepted.{signature-called}
use borrow.Author.Rules.{rules as by_rules}
use Rattle.cipher_c.proofs.cipher_signature.Goals as goal

pub returns-in_default : goal.returns-in_default
unfolding signature_call
returns-in_default c = search by_rules depth 24

pub returns-in_default-2 : goal.returns-in_default-2
unfolding signature_call
returns-in_default-2 c = search by_rules depth 24

pub returns-in_default-3 : goal.returns-in_default-3
unfolding signature_call
returns-in_default-3 c = search by_rules depth 24

pub returns-then-out-lt8 : goal.returns-then-out-lt8
unfolding signature_call
returns-then-out-lt8 c = search by_rules depth 24

pub returns : goal.returns
returns c =
    let a = c.args in
    let found = c.in-Some-Ok-Ok in
    let key = found.ensures'.1 in
    let start = found.ensures''.1 in
    let mac = c.signature-mac in
    signature-called a.engine a.key.now a.start.now found.key found.start found.ensures key.long start.long key.same start.same
    a.text.now a.out.now mac.result _ (search by_rules) mac.ensures c.paste.ensures
