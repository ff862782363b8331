-- STORE DATA's rules before its values: what they refuse is refused whatever the values, and where they let pass, the values decide.
-- Assumes nothing.
use Prim.Native.Nat.{ℕ}
use mathlib.Core.Bool.{Bool, true}
use mathlib.Core.Path.{◌≡◌}
use native.Mathlib.Omega.{arith}
use Rattle.octets.specs.Choice.{pick}
use Rattle.apdu.specs.declared.refusals.Refusal.{Refusal}
use Rattle.apdu.specs.Refusals.{refusal_word}
use Rattle.card.specs.declared.head.Head.{Head}
use Rattle.session.specs.declared.Session.{Session}
use Rattle.commands_spec.specs.declared.outcome.Outcome.{Outcome}
use Rattle.commands_spec.specs.Outcomes.{refused, decided}
use Rattle.commands_spec.specs.StoreData.{store_status}

module _ (p k : Bool) (a : ℕ) (i g : Bool) (h : Head) (s : Session) (o : Outcome) where
  pub refused_early : (w : Refusal) → store_status p k a i true ≡ refusal_word w → decided (store_status p k a i g) h s o ≡ refused h s (refusal_word w)
  unfolding store_status decided
  refused_early w e = grind arith

  pub passed_early : store_status p k a i true ≡ 0x9000 → decided (store_status p k a i g) h s o ≡ pick g o (refused h s 0x6A80)
  unfolding store_status decided
  passed_early e = grind arith
