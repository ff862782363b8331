-- What a file ends with: nothing is left and the format closes it, or what is left is broken and refused. Assumes nothing.
use Prim.Native.Nat.{ℕ, ◌<◌}
use mathlib.Core.List.{List, []}
use mathlib.Core.Path.{◌≡◌, ◌∙◌}
use native.Mathlib.Omega.{arith}
use borrow.Author.Tests.{ne_eqb}
use lib.ListN.{length}
use Rattle.framing.specs.Broken.{Broken}
use Rattle.framing.specs.Formats.{Format, taken, last_line, lines_from}
use Rattle.framing.proofs.Fronts.{short_not_taken}
use Rattle.framing.proofs.Headers.{broken_not_whole}
use Rattle.framing.proofs.Files.{lines_last}

module _ (F : Format) (st : F.Carried) where
  -- nothing is left
  pub empty-closes : lines_from F st [] ≡ F.closing st
  unfolding last_line
  empty-closes = lines_last F st [] (short_not_taken F st [] (omega arith))

  -- what is left is no frame, if by its last byte alone
  pub broken_refused : (s : List ℕ) → Broken F.ok s → 0 < length s → lines_from F st s ≡ F.refusal st
  unfolding last_line taken
  broken_refused s b h =
      let n : length s ≡ 0 → ⊥ = λ e. omega arith in
      lines_last F st s (rw (broken_not_whole F.ok s b)) ∙ rw (ne_eqb (length s) 0 n)
