-- A turn: what is behind a batch, whatever the format. Assumes nothing.
use Prim.Native.Nat.{ℕ, zero, suc, ◌+◌, ◌-◌, ◌≤◌}
use mathlib.Core.Bool.{Bool, true, false, not}
use mathlib.Core.List.{List}
use mathlib.Core.Path.{◌≡◌, refl, sym, ap, subst, ◌∙◌}
use native.Mathlib.Omega.{arith}
use native.Mathlib.Nat.{zero-add}
use borrow.Author.Tests.{leb-true}
use lib.Dec.{leb}
use lib.ListN.{length, drop, length-append}
use Rattle.octets.specs.Choice.{pick}
use Rattle.octets.proofs.Pasting.{length-paste, paste-next}
use Rattle.framing.specs.declared.next.Next.{Next}
use Rattle.framing.specs.declared.next.Next.TheVariants.{Full, More, Over}
use Rattle.framing.specs.declared.output.Output.{Output}
use Rattle.framing.specs.Frames.{frame_size}
use Rattle.framing.specs.Formats.{Format, taken, front_refused, next_of}
use Rattle.framing.specs.Stream.{Batch, still, roomy, goes_on, extended, batch_in, batch, going, ending, turn_of, turn}
use Rattle.framing.specs.Step.{Fitting, PutsBehind, Batches, Turns}
use Rattle.framing.proofs.Fronts.{both, taken-whole}
use Rattle.framing.proofs.Batching.{size-within}

-- what is used was in hand, what is written has room, and the state is good for what is left
pub record Fitted (F : Format) (S : Fitting F) (room : ℕ) (s : List ℕ) (p : Batch F) : Type 0 where
  pub used : p.used ≤ length s
  pub text : length p.text ≤ room
  pub good : S.Good p.state (length s - p.used)

module _ (F : Format) (S : Fitting F) where
  more-kept : (room : ℕ) (s : List ℕ) (p : Batch F) → Fitted F S room s p → goes_on F room p s ≡ true → Fitted F S room s (extended F p s)
  unfolding goes_on extended
  more-kept room s p k e =
      let rest = drop p.used s in
      let w = both (roomy F room p.text) (taken F p.state rest) e in
      let l = leb-true (length p.text + F.longest) room w.0 in
      let n = S.line_fits p.state rest _ k.good in
      let m = size-within F.ok s p.used (taken-whole F p.state rest w.1) in
      let d : length s - p.used - frame_size rest ≡ length s - (p.used + frame_size rest) = omega arith in
      record {
        used = m;
        text = rw length-append (omega arith);
        good = subst (S.Good (next_of F p.state rest)) d (S.good_next p.state rest _ k.good w.1 (omega arith));
      }

  by_kept : (room : ℕ) (s : List ℕ) (p q : Batch F) (b : Bool) → Fitted F S room s p → (b ≡ true → Fitted F S room s q) → Fitted F S room s (pick b q p)
  by_kept room s p q true h f = f refl
  by_kept room s p q false h f = h

  batch-kept : (room : ℕ) (s : List ℕ) (k : ℕ) (p : Batch F) → Fitted F S room s p → Fitted F S room s (batch_in F k room p s)
  unfolding batch_in
  batch-kept room s zero p h = h
  batch-kept room s (suc k) p h =
      by_kept room s p _ (goes_on F room p s) h (λ e. batch-kept room s k (extended F p s) (more-kept room s p h e))

  pub kept : (room : ℕ) (st : F.Carried) (s : List ℕ) → S.Good st (length s) → Fitted F S room s (batch F room st s)
  unfolding batch still
  kept room st s g = batch-kept room s (length s) (still F st) (record { used = omega arith; text = omega arith; good = subst (S.Good st) (omega arith) g })

  module _ (st : F.Carried) (input out : List ℕ) (good : S.Good st (length input)) (used written : ℕ) (st' : F.Carried) (out' : List ℕ) (e : Batches F st input out used written st' out') where
    pub done-used : used ≤ length input
    done-used = rw e.uses (kept (length out) st input good).used

    pub done_good : S.Good st' (length input - used)
    done_good = rw (e.uses, e.state) (kept (length out) st input good).good

    pub same-room : length out' ≡ length out
    same-room = rw e.shows (length-paste out 0 (batch F (length out) st input).text)

    -- a line has no room
    pub turn_full : leb (written + F.longest) (length out') ≡ false → Turns F st input out used written st' Full out'
    unfolding turn turn_of going
    turn_full h =
        let t : leb (length (batch F (length out) st input).text + F.longest) (length out) ≡ false = rw (← e.writes, ← same-room) h in
        record { uses = rw t e.uses; writes = rw t e.writes; state = rw t e.state; goes = rw t; shows = rw t e.shows }

    module _ (enough : leb (written + F.longest) (length out') ≡ true) (b : Bool) (h : b ≡ front_refused F st' (drop used input)) where
      fits : leb (length (batch F (length out) st input).text + F.longest) (length out) ≡ true
      fits = rw (← e.writes, ← same-room) enough

      behind : (v : Bool) → b ≡ v → front_refused F (batch F (length out) st input).state (drop (batch F (length out) st input).used input) ≡ v
      behind v t = rw (← e.uses, ← e.state) (sym h ∙ t)

      -- more bytes are awaited
      pub turn_more : b ≡ false → Turns F st input out used written st' More out'
      unfolding turn turn_of going
      turn_more t =
          let i = fits in
          let j = behind false t in
          record { uses = rw (i, j) e.uses; writes = rw (i, j) e.writes; state = rw (i, j) e.state; goes = rw (i, j); shows = rw (i, j) e.shows }

      -- the refusal, and the end
      module _ (o o' : Output) (w : o.written ≡ written) (a : o.area.now ≡ out') (puts : o.written + length (F.refusal st') ≤ length o.area.now → PutsBehind (F.refusal st') o o') where
        put : PutsBehind (F.refusal st') o o'
        put = puts (rw (w, a) (omega (arith, S.refusal_fits st' _ done_good, leb-true _ _ enough)))

        pub turn-over : b ≡ true → Turns F st input out used o'.written st' Over o'.area.now
        unfolding turn turn_of ending
        turn-over t =
            let q = batch F (length out) st input in
            let x : F.refusal st' ≡ F.refusal q.state = ap F.refusal e.state in
            let y = fits in
            let j = behind true t in
            let p = put in
            let k : length (F.refusal q.state) ≤ F.longest = rw (← x) (S.refusal_fits st' _ done_good) in
            let r = leb-true _ _ y in
            let g : 0 + length q.text ≤ length out = omega arith in
            let f : 0 + length q.text + length (F.refusal q.state) ≤ length out = omega arith in
            record {
              uses = rw (y, j) e.uses;
              writes = rw (y, j, length-append) (p.writes ∙ rw (w, x, e.writes));
              state = rw (y, j) e.state;
              goes = rw (y, j);
              shows = rw (y, j) (p.shows ∙ rw (a, w, x, e.shows, e.writes) (rw zero-add at (paste-next out 0 q.text g (F.refusal q.state) f)));
            }

  -- what every turn keeps
  pub turn-kept : (room : ℕ) (st : F.Carried) (s : List ℕ) → S.Good st (length s)
      → ((turn F room st s).used ≤ length s) × (length (turn F room st s).text ≤ room) × S.Good (turn F room st s).state (length s - (turn F room st s).used)
  unfolding turn turn_of going ending
  turn-kept room st s g = by (batch F room st s) (kept room st s g) (roomy F room (batch F room st s).text) refl (front_refused F (batch F room st s).state (drop (batch F room st s).used s))
    where
      by : (p : Batch F) → Fitted F S room s p → (f : Bool) → roomy F room p.text ≡ f → (v : Bool)
          → (let t = pick (not f) (going F Full p) (pick v (ending F p) (going F More p)) in (t.used ≤ length s) × (length t.text ≤ room) × S.Good t.state (length s - t.used))
      by p k false e v = (k.used, k.text, k.good)
      by p k true e true = (k.used, rw length-append (let l : length p.text + F.longest ≤ room = leb-true _ _ e in let n = S.refusal_fits p.state _ k.good in omega arith), k.good)
      by p k true e false = (k.used, k.text, k.good)

  -- the output area is left so
  pub turn_left : (st : F.Carried) (input out : List ℕ) (used written : ℕ) (st' : F.Carried) (next : Next) (out' out'' : List ℕ)
      → Turns F st input out used written st' next out' → out'' ≡ out' → Turns F st input out used written st' next out''
  turn_left st input out used written st' next out' out'' e h = rw h e
