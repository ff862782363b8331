-- `take_keys`: the keys that the bytes say, or none.
use mathlib.Core.Path.{sym, ◌∙◌}
use native.Mathlib.Omega.{arith}
use Rattle.card.proofs.Parity.{accepts, rejects}
use Rattle.card.proofs.keys.take_keys.Goals as goal

pub returns-then-are_odd : goal.returns-then-are_odd
returns-then-are_odd c =
    accepts _ _ c.from_bytes-keys.ensures (λ j. omega (arith, c.type_inv.s j)) (sym c.are_odd.ensures ∙ c.if-are_odd.true)

pub returns-else-are_odd : goal.returns-else-are_odd
returns-else-are_odd c = rejects _ _ c.from_bytes-keys.ensures (sym c.are_odd.ensures ∙ c.if-are_odd.false)
