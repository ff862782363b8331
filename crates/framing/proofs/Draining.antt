-- Turns on what is in hand, one after the other until one is not full: what they come to, turn by turn. Assumes nothing.
use Prim.Native.Nat.{ℕ, zero, suc, ◌≤◌, ◌<◌}
use mathlib.Core.Bool.{true, false}
use mathlib.Core.Path.{◌≡◌, refl, ◌∙◌}
use native.Mathlib.Omega.{arith}
use lib.ListN.{length}
use Rattle.framing.specs.Frames.{header_size}
use Rattle.framing.specs.Formats.{Format}
use Rattle.framing.specs.Stream.{turns, Reader, behind, behind_all, again, drains}
use Rattle.framing.proofs.PieceLines.{again_shorter}

-- the reader between two turns: at most so many are left, and what they come to is what all of them come to from the start
pub record Draining (F : Format) (room : ℕ) (start here : Reader F) : Type 0 where
  pub left : ℕ
  pub some : 0 < left
  pub enough : length here.rest ≤ left
  pub same : behind_all F (drains F (length start.rest) room start) start ≡ behind_all F (drains F left room here) here

module _ (F : Format) (room : ℕ) (start : Reader F) where
  pub drain_start : 0 < length start.rest → Draining F room start start
  drain_start h = record { left = length start.rest; some = h; enough = omega arith; same = refl }

  module _ (here : Reader F) where
    -- another turn follows
    pub drain_again : F.longest ≤ room → header_size ≤ length here.rest → again F room here ≡ true → Draining F room start here
        → Draining F room start (behind F (turns room) here)
    unfolding drains behind_all
    drain_again l h e d = by d.left d.some d.enough d.same
      where
        by : (n : ℕ) → 0 < n → length here.rest ≤ n
            → behind_all F (drains F (length start.rest) room start) start ≡ behind_all F (drains F n room here) here
            → Draining F room start (behind F (turns room) here)
        by zero p q s = absurd (omega arith)
        by (suc k) p q s =
            record {
              left = k;
              some = omega arith;
              enough = again_shorter F room here l e k q;
              same = rw e at s;
            }

    -- it was the last
    pub drain_last : again F room here ≡ false → Draining F room start here
        → behind_all F (drains F (length start.rest) room start) start ≡ behind F (turns room) here
    unfolding drains behind_all
    drain_last e d = by d.left d.some d.same
      where
        by : (n : ℕ) → 0 < n → behind_all F (drains F (length start.rest) room start) start ≡ behind_all F (drains F n room here) here
            → behind_all F (drains F (length start.rest) room start) start ≡ behind F (turns room) here
        by zero p s = absurd (omega arith)
        by (suc k) p s = s ∙ rw e
