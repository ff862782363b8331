-- The bench at first and behind a call: document 01, "a 4,096-byte card memory, all zero at first. Its session is the unselected one at
-- first and after answer 7". Assumes nothing.
use mathlib.Core.Path.{◌≡◌, refl}
use borrow.Author.Tests.{eq-eqb, ne_eqb}
use Rattle.octets.specs.Bytes.{zeros}
use Rattle.session.specs.Transitions.{unselected}
use Rattle.purse_spec.specs.History.{Call}
use Rattle.bench_file.specs.Lines.{Bench, begun, ran, moved, session_after}

-- 4,096 zeros, and the unselected session
pub begins : begun ≡ record { memory = zeros 4096; session = unselected }
unfolding begun
begins = refl

module _ (c : Call) (b : Bench) where
  -- the unselected session after answer 7
  pub seven_unselects : (ran c b).answer ≡ 7 → (moved c b).session ≡ unselected
  unfolding moved session_after
  seven_unselects e = rw (eq-eqb _ 7 e)

  -- after answer 0 the one that the call hands back
  pub zero_hands : (ran c b).answer ≡ 0 → (moved c b).session ≡ (ran c b).session
  unfolding moved session_after
  zero_hands e = rw e

  -- after any other answer the one before
  pub others_keep : ((ran c b).answer ≡ 7 → ⊥) → ((ran c b).answer ≡ 0 → ⊥) → (moved c b).session ≡ b.session
  unfolding moved session_after
  others_keep h l = rw (ne_eqb _ 7 h, ne_eqb _ 0 l)
