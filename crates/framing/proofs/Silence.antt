-- A turn that is refused something writes the refusal last, and after that nothing is written, whatever arrives. Assumes nothing.
use Prim.Native.Nat.{ℕ}
use mathlib.Core.Bool.{Bool, true, false, not}
use mathlib.Core.List.{List, [], ◌∷◌, ◌++◌}
use mathlib.Core.Path.{◌≡◌, refl}
use native.Mathlib.Omega.{arith}
use lib.ListN.{drop}
use Rattle.octets.specs.Choice.{pick}
use Rattle.framing.specs.declared.next.Next.TheVariants.{Full, More, Over}
use Rattle.framing.specs.Formats.{Format, front_refused}
use Rattle.framing.specs.Stream.{Event, arrives, turns, Batch, Reader, roomy, batch, going, ending, turn_of, turn, behind, prints, behind_all, prints_all, closes}

module _ (F : Format) where
  -- the lines of the frames, then the refusal
  pub over-writes : (room : ℕ) (st : F.Carried) (s : List ℕ) → (turn F room st s).next ≡ Over
      → (turn F room st s).text ≡ (batch F room st s).text ++ F.refusal (batch F room st s).state
  unfolding turn turn_of going ending
  over-writes room st s =
      by (batch F room st s) (roomy F room (batch F room st s).text) (front_refused F (batch F room st s).state (drop (batch F room st s).used s))
    where
      by : (p : Batch F) (f v : Bool) → (pick (not f) (going F Full p) (pick v (ending F p) (going F More p))).next ≡ Over
          → (pick (not f) (going F Full p) (pick v (ending F p) (going F More p))).text ≡ p.text ++ F.refusal p.state
      by p false v e = let z : ◌≡◌ {A = ℕ} 0 1 = cc in absurd (omega arith)
      by p true true e = refl
      by p true false e = let z : ◌≡◌ {A = ℕ} 0 1 = cc in absurd (omega arith)

  -- nothing more, by what arrives, by turns or by the end of the file
  pub over_silent : (es : List Event) (r : Reader F) → r.over ≡ true → prints_all F es r ++ closes F (behind_all F es r) ≡ []
  unfolding prints_all behind_all closes behind prints
  over_silent [] r e = rw e
  over_silent (arrives p ∷ es) r e = over_silent es (behind F (arrives p) r) e
  over_silent (turns room ∷ es) r e = rw e (over_silent es (record { rest = r.rest; state = r.state; over = true }) refl)
