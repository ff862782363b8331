-- A file, frame by frame: its lines are those of its first frame and then of the rest. Assumes nothing.
use Prim.Native.Nat.{ℕ, zero, suc, ◌≤◌}
use mathlib.Core.Bool.{Bool, true, false}
use mathlib.Core.List.{List, ◌++◌}
use mathlib.Core.Path.{◌≡◌, refl, ap, ◌∙◌}
use native.Mathlib.Omega.{arith}
use borrow.Author.Tests.{ne_eqb}
use lib.ListN.{length, drop, length-append}
use Rattle.octets.specs.Choice.{pick}
use Rattle.framing.specs.Frames.{frame_size}
use Rattle.framing.specs.Formats.{Format, taken, front_refused, next_of, line_of, last_line, lines_in, lines_from}
use Rattle.framing.proofs.Fronts.{rest_shorter, kind_append, data_append, rest-append, taken-whole, short_not_taken, taken-append, refused-append, refused_not_taken, refused-long}

by_first : (b : Bool) (x s t last : List ℕ) → (b ≡ true → s ≡ t) → pick b (x ++ s) last ≡ pick b (x ++ t) last
by_first true x s t last h = ap (λ (u : List ℕ). x ++ u) (h refl)
by_first false x s t last h = refl

module _ (F : Format) where
  -- more frames than there are bytes change nothing
  same_lines : (k j : ℕ) (st : F.Carried) (s : List ℕ) → length s ≤ k → length s ≤ j → lines_in F k st s ≡ lines_in F j st s
  unfolding lines_in
  same_lines zero zero st s h l = refl
  same_lines zero (suc j) st s h l = rw (short_not_taken F st s (omega arith))
  same_lines (suc k) zero st s h l = rw (short_not_taken F st s (omega arith))
  same_lines (suc k) (suc j) st s h l =
      by_first (taken F st s) (line_of F st s) _ _ (last_line F st s)
      (λ e. let n = rest_shorter F.ok s (taken-whole F st s e) in same_lines k j (next_of F st s) (drop (frame_size s) s) (omega arith) (omega arith))

  module _ (st : F.Carried) where
    pub lines-taken : (s : List ℕ) → taken F st s ≡ true → lines_from F st s ≡ line_of F st s ++ lines_from F (next_of F st s) (drop (frame_size s) s)
    unfolding lines_from lines_in
    lines-taken s e =
        let n = rest_shorter F.ok s (taken-whole F st s e) in
        rw (same_lines (length s) (suc (length s)) st s (omega arith) (omega arith), e)
        (ap (λ (u : List ℕ). line_of F st s ++ u) (same_lines (length s) (length (drop (frame_size s) s)) (next_of F st s) (drop (frame_size s) s) (omega arith) (omega arith)))

    -- where no frame leads that is taken
    pub lines_last : (s : List ℕ) → taken F st s ≡ false → lines_from F st s ≡ last_line F st s
    unfolding lines_from lines_in
    lines_last s e = rw (same_lines (length s) (suc (length s)) st s (omega arith) (omega arith), e)

    -- a frame in hand, and bytes that follow
    pub lines_in_hand : (s t : List ℕ) → taken F st s ≡ true
        → lines_from F st (s ++ t) ≡ line_of F st s ++ lines_from F (next_of F st s) (drop (frame_size s) s ++ t)
    lines_in_hand s t e =
        let w = taken-whole F st s e in
        let k = kind_append F.ok s t w in
        let d = data_append F.ok s t w in
        let line : line_of F st (s ++ t) ≡ line_of F st s = λ i. F.line st (k i) (d i) in
        let next : next_of F st (s ++ t) ≡ next_of F st s = λ i. F.next st (k i) (d i) in
        lines-taken (s ++ t) (taken-append F st s t e) ∙ rw (rest-append F.ok s t w, line, next)

    -- what no byte can mend
    pub lines-refused : (s t : List ℕ) → front_refused F st s ≡ true → lines_from F st (s ++ t) ≡ F.refusal st
    unfolding last_line
    lines-refused s t e =
        let h = refused-long F st s e in
        let n : length (s ++ t) ≡ 0 → ⊥ = λ z. omega (arith, length-append s t) in
        lines_last (s ++ t) (refused_not_taken F st (s ++ t) (refused-append F st s t e)) ∙ rw (ne_eqb (length (s ++ t)) 0 n)
