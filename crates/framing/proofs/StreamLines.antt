-- However a file is split into pieces, and however large the output areas are, what is written in all are its lines. Assumes nothing.
use Prim.Native.Nat.{ℕ, zero, suc, ◌+◌, ◌≤◌}
use mathlib.Core.Bool.{Bool, true, false, not}
use mathlib.Core.List.{List, [], ◌∷◌, ◌++◌, append_assoc, append-nil}
use mathlib.Core.Path.{◌≡◌, refl, sym, ◌∙◌}
use native.Mathlib.Omega.{arith}
use lib.ListN.{length, drop, drop_of_length-le}
use lib.Seq.{drop-drop}
use Rattle.octets.specs.Choice.{pick}
use Rattle.octets.proofs.Rules.{and_right}
use Rattle.framing.specs.declared.next.Next.TheVariants.{Full, More}
use Rattle.framing.specs.Frames.{frame_size}
use Rattle.framing.specs.Formats.{Format, taken, front_refused, lines_from}
use Rattle.framing.specs.Stream.{Event, arrives, turns, arrived, is_over, Batch, Reader, still, roomy, goes_on, extended, batch_in, batch, going, ending, turn_of, turn, first, after_turn, behind, prints, behind_all, prints_all, closes}
use Rattle.framing.proofs.Fronts.{both, short_not_taken}
use Rattle.framing.proofs.Files.{lines_in_hand, lines_last, lines-refused}

module _ (F : Format) where
  -- ---- a batch

  -- what was written, and the lines of what is to come
  abbrev ahead : Batch F → List ℕ → List ℕ → List ℕ
  ahead p s t = p.text ++ lines_from F p.state (drop p.used s ++ t)

  module _ (room : ℕ) (s t : List ℕ) where
    one_more : (p : Batch F) → goes_on F room p s ≡ true → ahead p s t ≡ ahead (extended F p s) s t
    unfolding goes_on extended
    one_more p e =
        let w = (both (roomy F room p.text) (taken F p.state (drop p.used s)) e).1 in
        rw (lines_in_hand F p.state (drop p.used s) t w, append_assoc, drop-drop)

    by_going : (p q : Batch F) (b : Bool) → (b ≡ true → ahead p s t ≡ ahead q s t) → ahead p s t ≡ ahead (pick b q p) s t
    by_going p q true h = h refl
    by_going p q false h = refl

    batch-lines : (k : ℕ) (p : Batch F) → ahead p s t ≡ ahead (batch_in F k room p s) s t
    unfolding batch_in
    batch-lines zero p = refl
    batch-lines (suc k) p = by_going p _ (goes_on F room p s) (λ e. one_more p e ∙ batch-lines k (extended F p s))

  -- as many frames as there are bytes: a batch ends where none goes on
  by_end : (room : ℕ) (s : List ℕ) (p q : Batch F) → (goes_on F room p s ≡ true → goes_on F room q s ≡ false) → (b : Bool) → goes_on F room p s ≡ b
      → goes_on F room (pick b q p) s ≡ false
  by_end room s p q h true e = h e
  by_end room s p q h false e = e

  pub batch_ends : (room : ℕ) (s : List ℕ) (k : ℕ) (p : Batch F) → length s ≤ p.used + k → goes_on F room (batch_in F k room p s) s ≡ false
  unfolding batch_in goes_on extended frame_size
  batch_ends room s zero p h =
      let l : length s ≤ p.used = omega arith in
      and_right (roomy F room p.text) (taken F p.state (drop p.used s)) (rw (drop_of_length-le s l) (short_not_taken F p.state [] (omega arith)))
  batch_ends room s (suc k) p h =
      by_end room s p _ (λ e. batch_ends room s k (extended F p s) (omega arith)) (goes_on F room p s) refl

  -- ---- a turn

  -- the lines of what is to come
  abbrev remaining : Reader F → List ℕ → List ℕ
  remaining r t = pick r.over [] (lines_from F r.state (r.rest ++ t))

  module _ (room : ℕ) (s t : List ℕ) where
    behind-batch : (p : Batch F) → ahead p s t ≡ (turn_of F room p s).text ++ remaining (after_turn F (turn_of F room p s) s) t
    unfolding turn_of going ending after_turn is_over
    behind-batch p = by (roomy F room p.text) (front_refused F p.state (drop p.used s)) refl
      where
        by : (f v : Bool) → front_refused F p.state (drop p.used s) ≡ v
            → ahead p s t ≡ (pick (not f) (going F Full p) (pick v (ending F p) (going F More p))).text
            ++ remaining (after_turn F (pick (not f) (going F Full p) (pick v (ending F p) (going F More p))) s) t
        by false v e = refl
        by true true e = rw (lines-refused F p.state (drop p.used s) t e) (sym (append-nil _))
        by true false e = refl

    turn_lines : (st : F.Carried) → lines_from F st (s ++ t) ≡ (turn F room st s).text ++ remaining (after_turn F (turn F room st s) s) t
    unfolding turn batch still
    turn_lines st = batch-lines room s t (length s) (still F st) ∙ behind-batch (batch F room st s)

  -- behind a turn that is not full no frame is left that is taken
  pub settled : (room : ℕ) (st : F.Carried) (s : List ℕ) → ((turn F room st s).next ≡ Full → ⊥) → taken F (turn F room st s).state (drop (turn F room st s).used s) ≡ false
  unfolding turn turn_of going ending batch still goes_on
  settled room st s = by (batch F room st s) (batch_ends room s (length s) (still F st) (omega arith)) _ refl (front_refused F _ _)
    where
      by : (p : Batch F) → goes_on F room p s ≡ false → (f : Bool) → roomy F room p.text ≡ f → (v : Bool)
          → ((pick (not f) (going F Full p) (pick v (ending F p) (going F More p))).next ≡ Full → ⊥)
          → taken F (pick (not f) (going F Full p) (pick v (ending F p) (going F More p))).state (drop (pick (not f) (going F Full p) (pick v (ending F p) (going F More p))).used s) ≡ false
      by p e false l v h = absurd (h refl)
      by p e true l true h = rw l at e
      by p e true l false h = rw l at e

  -- ---- pieces

  one_turn : (room : ℕ) (r : Reader F) (t : List ℕ) → remaining r t ≡ prints F (turns room) r ++ remaining (behind F (turns room) r) t
  unfolding prints behind
  one_turn room r t = by r.over refl
    where
      by : (o : Bool) → r.over ≡ o
          → pick o [] (lines_from F r.state (r.rest ++ t))
          ≡ pick o [] (turn F room r.state r.rest).text ++ remaining (pick o r (after_turn F (turn F room r.state r.rest) r.rest)) t
      by true e = rw e
      by false e = turn_lines room r.rest t r.state

  -- at every moment: what was written, and the lines of what is to come
  pub events_lines : (es : List Event) (r : Reader F) (t : List ℕ) → remaining r (arrived es ++ t) ≡ prints_all F es r ++ remaining (behind_all F es r) t
  unfolding arrived prints_all behind_all behind prints
  events_lines [] r t = refl
  events_lines (arrives p ∷ es) r t = rw (append_assoc, ← append_assoc r.rest p (arrived es ++ t)) (events_lines es (behind F (arrives p) r) t)
  events_lines (turns room ∷ es) r t =
      one_turn room r (arrived es ++ t) ∙ rw (events_lines es (behind F (turns room) r) t, append_assoc)

  closing_lines : (r : Reader F) → taken F r.state r.rest ≡ false → remaining r [] ≡ closes F r
  unfolding closes
  closing_lines r h = rw (append-nil, lines_last F r.state r.rest h)

  -- the pieces that arrived, and turns among them such that no frame is left at the end that is taken
  pub settled_lines : (st : F.Carried) (es : List Event) → taken F (behind_all F es (first F st)).state (behind_all F es (first F st)).rest ≡ false
      → prints_all F es (first F st) ++ closes F (behind_all F es (first F st)) ≡ lines_from F st (arrived es)
  unfolding first
  settled_lines st es h =
      rw (← closing_lines (behind_all F es (first F st)) h, ← events_lines es (first F st) [], append-nil)
