-- A file in pieces of any size, with an output area that takes a line: what is written in all are the file's lines. Assumes nothing.
use Prim.Native.Nat.{ℕ, zero, suc, ◌+◌, ◌≤◌, ◌<◌}
use mathlib.Core.Bool.{Bool, true, false, not, ◌&&◌, false≢true}
use mathlib.Core.List.{List, [], ◌∷◌, ◌++◌, append_assoc, append-nil}
use mathlib.Core.Path.{◌≡◌, refl, sym, ap, ◌∙◌}
use native.Mathlib.Omega.{arith}
use borrow.Author.Tests.{leb-false}
use lib.Dec.{leb}
use lib.ListN.{length, drop, length-drop}
use Rattle.octets.specs.Choice.{pick}
use Rattle.framing.specs.declared.next.Next.{Next}
use Rattle.framing.specs.declared.next.Next.TheVariants.{Full, More}
use Rattle.framing.specs.Frames.{header_size, frame_size}
use Rattle.framing.specs.Formats.{Format, taken, front_refused, lines_from}
use Rattle.framing.specs.Stream.{Event, arrives, turns, arrived, together, is_over, is_full, Batch, Reader, still, roomy, goes_on, extended, batch_in, batch, going, ending, turn_of, turn, first, after_turn, behind, behind_all, prints_all, closes, again, drains, on_piece, on_pieces}
use Rattle.framing.proofs.Fronts.{short_not_taken, refused-append, refused_not_taken}
use Rattle.framing.proofs.StreamLines.{settled, settled_lines}

not_full : (n : Next) → is_full n ≡ false → n ≡ Full → ⊥
unfolding is_full
not_full n e f = let z : true ≡ false = rw f at e in absurd (false≢true (sym z))

arrived-append : (es fs : List Event) → arrived (es ++ fs) ≡ arrived es ++ arrived fs
unfolding arrived
arrived-append [] fs = refl
arrived-append (arrives p ∷ es) fs = rw (arrived-append es fs, append_assoc)
arrived-append (turns room ∷ es) fs = arrived-append es fs

module _ (F : Format) where
  -- ---- a full turn uses a frame at least

  moves : (room : ℕ) (s : List ℕ) (k : ℕ) (st : Batch F) → (0 < length st.text → header_size ≤ st.used) → 0 < length (batch_in F k room st s).text → header_size ≤ (batch_in F k room st s).used
  unfolding batch_in extended frame_size
  moves room s zero st h = h
  moves room s (suc k) st h = by (goes_on F room st s) (moves room s k (extended F st s) (λ l. omega arith))
    where
      by : (b : Bool) → (0 < length (batch_in F k room (extended F st s) s).text → header_size ≤ (batch_in F k room (extended F st s) s).used)
          → 0 < length (pick b (batch_in F k room (extended F st s) s) st).text → header_size ≤ (pick b (batch_in F k room (extended F st s) s) st).used
      by true f = f
      by false f = h

  pub full_moves : (room : ℕ) (b : F.Carried) (s : List ℕ) → F.longest ≤ room → is_full (turn F room b s).next ≡ true → header_size ≤ (turn F room b s).used
  unfolding turn turn_of going ending batch still is_full
  full_moves room b s l =
      by (batch F room b s) (moves room s (length s) (still F b) (λ z. omega arith)) _ refl (front_refused F _ _)
    where
      by : (st : Batch F) → (0 < length st.text → header_size ≤ st.used) → (f : Bool) → leb (length st.text + F.longest) room ≡ f → (v : Bool)
          → is_full (pick (not f) (going F Full st) (pick v (ending F st) (going F More st))).next ≡ true
          → header_size ≤ (pick (not f) (going F Full st) (pick v (ending F st) (going F More st))).used
      by st h false e v z = let g = leb-false (length st.text + F.longest) room e in h (omega arith)
      by st h true e true z = absurd (false≢true z)
      by st h true e false z = absurd (false≢true z)

  -- ---- after X nothing can be mended

  abbrev Mendless : Reader F → Type 0
  Mendless r = r.over ≡ true → front_refused F r.state r.rest ≡ true

  over-refused : (room : ℕ) (b : F.Carried) (s : List ℕ) → Mendless (after_turn F (turn F room b s) s)
  unfolding turn turn_of going ending after_turn is_over
  over-refused room b s = by (batch F room b s) (roomy F room (batch F room b s).text) _ refl
    where
      by : (st : Batch F) (f v : Bool) → front_refused F st.state (drop st.used s) ≡ v → Mendless (after_turn F (pick (not f) (going F Full st) (pick v (ending F st) (going F More st))) s)
      by st false v e z = absurd (false≢true z)
      by st true true e z = e
      by st true false e z = absurd (false≢true z)

  turn_mendless : (room : ℕ) (r : Reader F) → Mendless r → Mendless (behind F (turns room) r)
  unfolding behind
  turn_mendless room r h = by r.over refl
    where
      by : (o : Bool) → r.over ≡ o → Mendless (pick o r (after_turn F (turn F room r.state r.rest) r.rest))
      by true e = h
      by false e = over-refused room r.state r.rest

  refused_settled : (r : Reader F) → Mendless r → r.over ≡ true → taken F r.state r.rest ≡ false
  refused_settled r h e = refused_not_taken F r.state r.rest (h e)

  -- ---- turns until one is not full

  -- the turn is the last
  last_settled : (room : ℕ) (r : Reader F) → Mendless r → again F room r ≡ false → taken F (behind F (turns room) r).state (behind F (turns room) r).rest ≡ false
  unfolding again behind after_turn
  last_settled room r h = by r.over refl
    where
      by : (o : Bool) → r.over ≡ o → (not o && is_full (turn F room r.state r.rest).next) ≡ false
          → taken F (pick o r (after_turn F (turn F room r.state r.rest) r.rest)).state (pick o r (after_turn F (turn F room r.state r.rest) r.rest)).rest ≡ false
      by true e z = refused_settled r h e
      by false e z = settled F room r.state r.rest (not_full _ z)

  -- it is not, and leaves fewer bytes
  pub again_shorter : (room : ℕ) (r : Reader F) → F.longest ≤ room → again F room r ≡ true → (k : ℕ) → length r.rest ≤ suc k → length (behind F (turns room) r).rest ≤ k
  unfolding again behind after_turn
  again_shorter room r l = by r.over
    where
      by : (o : Bool) → (not o && is_full (turn F room r.state r.rest).next) ≡ true → (k : ℕ) → length r.rest ≤ suc k
          → length (pick o r (after_turn F (turn F room r.state r.rest) r.rest)).rest ≤ k
      by true z k h = absurd (false≢true z)
      by false z k h =
          let m = full_moves room r.state r.rest l z in
          rw length-drop (omega arith)

  -- what holds behind them
  record Drained (r : Reader F) : Type 0 where
    pub done : taken F r.state r.rest ≡ false
    pub mendless : Mendless r

  by_again : (b : Bool) (es : List Event) (r : Reader F) → (b ≡ true → Drained (behind_all F es r)) → (b ≡ false → Drained r) → Drained (behind_all F (pick b es []) r)
  unfolding behind_all
  by_again true es r f g = f refl
  by_again false es r f g = g refl

  drains-done : (room k : ℕ) (r : Reader F) → F.longest ≤ room → Mendless r → length r.rest ≤ k → Drained (behind_all F (drains F k room r) r)
  unfolding drains behind_all
  drains-done room zero r l h n = record { done = short_not_taken F r.state r.rest (omega arith); mendless = h }
  drains-done room (suc k) r l h n =
      let m = turn_mendless room r h in
      by_again (again F room r) _ (behind F (turns room) r)
      (λ e. drains-done room k (behind F (turns room) r) l m (again_shorter room r l e k n))
      (λ e. record { done = last_settled room r h e; mendless = m })

  -- ---- pieces

  piece_mendless : (p : List ℕ) (r : Reader F) → Mendless r → Mendless (behind F (arrives p) r)
  unfolding behind
  piece_mendless p r h e = refused-append F r.state r.rest p (h e)

  behind-append : (es fs : List Event) (r : Reader F) → behind_all F (es ++ fs) r ≡ behind_all F fs (behind_all F es r)
  unfolding behind_all
  behind-append [] fs r = refl
  behind-append (e ∷ es) fs r = behind-append es fs (behind F e r)

  pieces_done : (room : ℕ) (ps : List (List ℕ)) (r : Reader F) → F.longest ≤ room → Drained r → Drained (behind_all F (on_pieces F room ps r) r)
  unfolding on_pieces behind_all on_piece
  pieces_done room [] r l h = h
  pieces_done room (p ∷ ps) r l h =
      let now = behind F (arrives p) r in
      rw (behind-append (on_piece F room p r) (on_pieces F room ps (behind_all F (on_piece F room p r) r)) r)
      (pieces_done room ps (behind_all F (on_piece F room p r) r) l
      (drains-done room (length now.rest) now l (piece_mendless p r h.mendless) (omega arith)))

  drains-arrived : (room k : ℕ) (r : Reader F) → arrived (drains F k room r) ≡ []
  unfolding drains arrived
  drains-arrived room zero r = refl
  drains-arrived room (suc k) r = by (again F room r) (drains-arrived room k (behind F (turns room) r))
    where
      by : (b : Bool) → arrived (drains F k room (behind F (turns room) r)) ≡ [] → arrived (pick b (drains F k room (behind F (turns room) r)) []) ≡ []
      by true e = e
      by false e = refl

  pieces_arrived : (room : ℕ) (ps : List (List ℕ)) (r : Reader F) → arrived (on_pieces F room ps r) ≡ together ps
  unfolding on_pieces on_piece together arrived
  pieces_arrived room [] r = refl
  pieces_arrived room (p ∷ ps) r =
      let now = behind F (arrives p) r in
      rw (arrived-append (on_piece F room p r) (on_pieces F room ps (behind_all F (on_piece F room p r) r)), drains-arrived room (length now.rest) now, append-nil, pieces_arrived room ps (behind_all F (on_piece F room p r) r))

  -- THE PIECES: however a file is split, what is written for the pieces and at the end are the file's lines
  pub pieces_lines : (st : F.Carried) (room : ℕ) → F.longest ≤ room → (ps : List (List ℕ))
      → prints_all F (on_pieces F room ps (first F st)) (first F st) ++ closes F (behind_all F (on_pieces F room ps (first F st)) (first F st)) ≡ lines_from F st (together ps)
  unfolding first
  pieces_lines st room l ps =
      let d = pieces_done room ps (first F st) l (record { done = short_not_taken F st [] (omega arith); mendless = λ e. absurd (false≢true e) }) in
      settled_lines F st (on_pieces F room ps (first F st)) d.done ∙ ap (lines_from F st) (pieces_arrived room ps (first F st))
