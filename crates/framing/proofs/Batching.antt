-- What the loop of a turn keeps, whatever the format. Assumes nothing.
use Prim.Native.Nat.{ℕ, zero, suc, ◌+◌, ◌-◌, ◌≤◌, ◌<◌}
use mathlib.Core.Bool.{Bool, true, false, ◌&&◌}
use mathlib.Core.List.{List}
use mathlib.Core.Path.{◌≡◌, refl, sym, subst, ◌∙◌}
use native.Mathlib.Omega.{arith}
use native.Mathlib.Nat.{zero-add}
use borrow.Author.Tests.{leb-true}
use lib.Dec.{leb}
use lib.ListN.{length, drop, length-append, length-drop}
use Rattle.octets.specs.Bytes.{paste}
use Rattle.octets.proofs.Pasting.{length-paste, paste-next, paste-nothing}
use Rattle.framing.specs.declared.output.Output.{Output}
use Rattle.framing.specs.Frames.{frame_size, whole}
use Rattle.framing.specs.Formats.{Format, taken, next_of, line_of}
use Rattle.framing.specs.Stream.{Batch, still, roomy, goes_on, extended, batch_in, batch}
use Rattle.framing.specs.Step.{Fitting, PutsBehind, Stepped, Batches}
use Rattle.framing.proofs.Fronts.{both, whole_is, taken-whole}

-- a whole frame behind the used bytes lies within what is in hand
module _ (ok : ℕ → ℕ → Bool) (input : List ℕ) (used : ℕ) (w : whole ok (drop used input) ≡ true) where
  pub used-within : used ≤ length input
  used-within = omega (arith, (whole_is ok (drop used input) w).header, length-drop used input)

  pub size-within : used + frame_size (drop used input) ≤ length input
  size-within = omega (arith, (whole_is ok (drop used input) w).long, length-drop used input, used-within)

module _ (F : Format) where
  -- a batch that doesn't go on is the whole batch
  stops : (k room : ℕ) (p : Batch F) (s : List ℕ) → goes_on F room p s ≡ false → batch_in F k room p s ≡ p
  unfolding batch_in
  stops zero room p s e = refl
  stops (suc k) room p s e = rw e

  -- one that goes on is one frame and a batch
  goes : (k room : ℕ) (p : Batch F) (s : List ℕ) → goes_on F room p s ≡ true → length s ≤ p.used + k
      → (j : ℕ) × (length s ≤ (extended F p s).used + j) × (batch_in F k room p s ≡ batch_in F j room (extended F p s) s)
  unfolding batch_in extended frame_size goes_on
  goes zero room p s e h =
      let w = (both (roomy F room p.text) (taken F p.state (drop p.used s)) e).1 in
      absurd (omega (arith, (whole_is F.ok (drop p.used s) (taken-whole F p.state (drop p.used s) w)).header, length-drop p.used s))
  goes (suc k) room p s e h = (k, omega arith, rw e)

-- one frame more: its size, its line behind the others, and the state behind it
module _ (F : Format) (st : F.Carried) (input rest : List ℕ) (used : ℕ) (l : rest ≡ drop used input) where
  pub stepped : (o o' : Output) (size : ℕ) (st' : F.Carried) → size ≡ frame_size rest → PutsBehind (line_of F st rest) o o'
      → st' ≡ next_of F st rest → Stepped F st input used o.area.now o.written (used + size) o'.written st' o'.area.now
  stepped o o' size st' h g i = record { uses = rw (h, l); writes = g.writes ∙ rw l; state = i ∙ rw l; shows = g.shows ∙ rw l }

-- the batch so far that the code's numbers, state and output area stand for, and how many frames at most are left of it
pub record Going (F : Format) (S : Fitting F) (st₀ : F.Carried) (input out₀ out : List ℕ) (used written : ℕ) (st : F.Carried) : Type 0 where
  pub far : Batch F
  pub left : ℕ
  pub uses : used ≡ far.used
  pub writes : written ≡ length far.text
  pub state : st ≡ far.state
  pub shows : out ≡ paste out₀ 0 far.text
  pub fits : length far.text ≤ length out₀
  pub inside : far.used ≤ length input
  pub fuel : length input ≤ far.used + left
  pub same : batch F (length out₀) st₀ input ≡ batch_in F left (length out₀) far input
  pub good : S.Good far.state (length input - far.used)

module _ (F : Format) (S : Fitting F) (st₀ : F.Carried) (input out₀ : List ℕ) where
  pub going_start : S.Good st₀ (length input) → Going F S st₀ input out₀ out₀ 0 0 st₀
  unfolding batch still
  going_start g =
      record {
        far = still F st₀;
        left = length input;
        uses = refl;
        writes = refl;
        state = refl;
        shows = sym (paste-nothing out₀ 0);
        fits = omega arith;
        inside = omega arith;
        fuel = omega arith;
        same = refl;
        good = subst (S.Good st₀) (omega arith) g;
      }

  module _ (out : List ℕ) (used written : ℕ) (st : F.Carried) (g : Going F S st₀ input out₀ out used written st) where
    pub going-within : used ≤ length input
    going-within = rw g.uses g.inside

    pub going_good : S.Good st (length input - used)
    going_good = rw (g.uses, g.state) g.good

    pub out_length : length out ≡ length out₀
    out_length = rw g.shows (length-paste out₀ 0 g.far.text)

    -- the code's test is the definition's
    module _ (b : Bool) (e : b ≡ (leb (written + F.longest) (length out) && taken F st (drop used input))) where
      tested : b ≡ goes_on F (length out₀) g.far input
      unfolding goes_on
      tested = e ∙ rw (out_length, g.uses, g.writes, g.state)

      pub going-room : b ≡ true → (taken F st (drop used input) ≡ true) × (written + F.longest ≤ length out)
      going-room t =
          let w = both (leb (written + F.longest) (length out)) (taken F st (drop used input)) (sym e ∙ t) in
          (w.1, leb-true _ _ w.0)

      pub going_step : b ≡ true → (out' : List ℕ) (used' written' : ℕ) (st' : F.Carried) → Stepped F st input used out written used' written' st' out'
          → Going F S st₀ input out₀ out' used' written' st'
      unfolding goes_on extended
      going_step t out' used' written' st' h =
          let p = g.far in
          let rest = drop p.used input in
          let text = line_of F p.state rest in
          let x : goes_on F (length out₀) p input ≡ true = sym tested ∙ t in
          let w = both (roomy F (length out₀) p.text) (taken F p.state rest) x in
          let room = leb-true (length p.text + F.longest) (length out₀) w.0 in
          let j = goes F g.left (length out₀) p input x g.fuel in
          let n = S.line_fits p.state rest _ g.good in
          let m = size-within F.ok input p.used (taken-whole F p.state rest w.1) in
          let a : 0 + length p.text ≤ length out₀ = omega arith in
          let f : 0 + length p.text + length text ≤ length out₀ = omega arith in
          let d : length input - p.used - frame_size rest ≡ length input - (p.used + frame_size rest) = omega arith in
          record {
            far = extended F p input;
            left = j.0;
            uses = h.uses ∙ rw g.uses;
            writes = h.writes ∙ rw (g.uses, g.writes, g.state, length-append);
            state = h.state ∙ rw (g.uses, g.state);
            shows = h.shows ∙ rw (g.uses, g.writes, g.state, g.shows) (rw zero-add at (paste-next out₀ 0 p.text a text f));
            fits = rw length-append (omega arith);
            inside = m;
            fuel = j.1;
            same = g.same ∙ j.2;
            good = subst (S.Good (next_of F p.state rest)) d (S.good_next p.state rest _ g.good w.1 (omega arith));
          }

      pub going_less : b ≡ true → (out' : List ℕ) (used' written' : ℕ) (st' : F.Carried) → Stepped F st input used out written used' written' st' out'
          → length input - used' < length input - used
      unfolding frame_size
      going_less t out' used' written' st' h =
          let w = taken-whole F st (drop used input) (going-room t).0 in
          rw h.uses (omega (arith, size-within F.ok input used w))

      pub going_done : b ≡ false → Batches F st₀ input out₀ used written st out
      going_done t =
          let d = g.same ∙ stops F g.left (length out₀) g.far input (sym tested ∙ t) in
          record { uses = rw d g.uses; writes = rw d g.writes; state = rw d g.state; shows = rw d g.shows }
