-- `authorized`: by its two tests, the channel before any C-MAC is made. Assumes nothing.
use Rattle.commands.proofs.Signatures.{wrongly_signed, rightly_signed}
use Rattle.commands.proofs.Bodies.{signed-least, mac-sent}
use native.Mathlib.Omega.{arith}
use mathlib.Core.Path.{sym, ◌∙◌}
use Rattle.std.proofs.lemmas.Bool.{not-true, not-false}
use Rattle.commands.proofs.signed.authorized.Goals as goal

pub overflow_sub-request : goal.overflow_sub-request
overflow_sub-request c = omega (arith, signed-least _ _ c.requires)

pub returns-then-ne : goal.returns-then-ne
returns-then-ne c =
    let q = c.args.request.now in
    let sent = mac-sent _ _ q.parsed (signed-least _ _ c.requires) in
    let p = rw c.from-n.ensures at c.part.ensures in
    let d = rw c.from-n.ensures at c.cmac-mac.ensures in
    wrongly_signed _ _ _ _ _ _ (rw (← sent, ← p, ← d) (not-true _ (sym c.ne.ensures ∙ c.if-ne.true)))
    (rw (← c.closed-then-ne.ensures) (rw c.from-then-ne.ensures at c.refused-then-ne.ensures))

pub returns : goal.returns
returns c =
    let q = c.args.request.now in
    let sent = mac-sent _ _ q.parsed (signed-least _ _ c.requires) in
    let p = rw c.from-n.ensures at c.part.ensures in
    let d = rw c.from-n.ensures at c.cmac-mac.ensures in
    rightly_signed _ _ _ _ _ _ (sym c.is_open.ensures ∙ c.if-not-is_open.false)
    (rw (← sent, ← p, ← d) (not-false _ (sym c.ne.ensures ∙ c.if-ne.false)))
    (rw (← d, ← c.chained.ensures) c.signed.ensures)
