-- The balance law of bench files: behind every bench file that starts with a finished installation and has no torn one, memory reads as a
-- card whose balance is completed credits less completed debits. Assumes nothing.
use Prim.Native.Nat.{ℕ, zero, suc}
use mathlib.Core.Bool.{Bool, true, false, not, ◌&&◌, false≢true}
use mathlib.Core.List.{List, [], ◌∷◌}
use mathlib.Core.Path.{◌≡◌, refl, sym, ◌∙◌}
use lib.Dec.{eqb}
use lib.ListN.{length, drop}
use Rattle.octets.specs.Choice.{pick}
use Rattle.octets.specs.Bytes.{AreBytes, zeros, byte_at, part}
use Rattle.octets.specs.Words.{word_at}
use Rattle.octets.proofs.Ranges.{drop-bytes, part_bytes, zeros-bytes}
use Rattle.framing.specs.Frames.{header_size, frame_data, data_size, frame_size, whole}
use Rattle.memory.specs.Layout.{memory_size}
use Rattle.memory.specs.Reading.{readable}
use Rattle.memory.proofs.Cards.{read_readable}
use Rattle.session.specs.declared.Session.{Session}
use Rattle.session.specs.Transitions.{unselected}
use Rattle.session.proofs.Sizes.{unselected-sized}
use Rattle.purse_spec.specs.Calls.{Run}
use Rattle.purse_spec.specs.History.{Call, install, start, send, Situation, OfBytes, AllOfBytes, run, is_start, is_install, next, after_calls, Admissible, IsHistory}
use Rattle.purse_spec.specs.Ledger.{Ledger, empty, kept}
use Rattle.purse_spec.proofs.Starting.{startup_keeps, startup_finishes}
use Rattle.purse_spec.proofs.Answers.{hands_unselected}
use Rattle.purse_spec.proofs.Typed.{Typed, typed_next}
use Rattle.purse_spec.proofs.Readable.{readable_stays}
use Rattle.purse_spec.proofs.Balance.{Balanced, balance_law}
use Rattle.bench_file.specs.Kinds.{area_size, size_ok, call_of, first_call, frameless, leading, file_in, file}
use Rattle.bench_file.specs.Lines.{Bench, begun, ran, moved, session_after}
use Rattle.bench_file.specs.WithStartups.{state_of, moved_all, NoneCut, inserted, missing, with_startups, StartsInstalled}

-- ---- the calls of a file of bytes are of bytes

first-bytes : (s : List ℕ) → AreBytes s → OfBytes (first_call s)
unfolding OfBytes call_of
first-bytes s f = by (eqb (byte_at s 2) 0x01) (eqb (byte_at s 2) 0x02) (frame_data s) (part_bytes s header_size (data_size s) f)
  where
    by : (t u : Bool) (d : List ℕ) → AreBytes d
        → OfBytes (pick t (install (drop 2 d) (word_at d 0)) (pick u (start (word_at d 0)) (send (drop 10 d) (part d 2 8) (zeros area_size) (word_at d 0))))
    by true u d g = drop-bytes 2 d g
    by false true d g = tt
    by false false d g = (drop-bytes 10 d g, part_bytes d 2 8 g)

file-bytes : (k : ℕ) (s : List ℕ) → AreBytes s → AllOfBytes (file_in k s).calls
unfolding AllOfBytes file_in frameless leading
file-bytes zero s f = tt
file-bytes (suc k) s f = by (whole size_ok s) (file-bytes k (drop (frame_size s) s) (drop-bytes (frame_size s) s f))
  where
    by : (b : Bool) → AllOfBytes (file_in k (drop (frame_size s) s)).calls
        → AllOfBytes (pick b (leading (first_call s) (file_in k (drop (frame_size s) s))) (frameless s)).calls
    by true h = (first-bytes s f, h)
    by false h = tt

-- ---- the bench beside a state of demand 3

record Beside (b : Bench) (st : Situation) : Type 0 where
  pub memory : b.memory ≡ st.memory
  pub session : b.session ≡ pick st.cut unselected st.session
  pub typed : Typed st
  pub reads : readable st.memory ≡ true

-- a call is given memory and session alone
same-run : (c : Call) (x y : Situation) → x.memory ≡ y.memory → x.session ≡ y.session → run c x ≡ run c y
unfolding run
same-run (install d limit) x y e f = rw e
same-run (start limit) x y e f = rw e
same-run (send bytes random area limit) x y e f = rw (e, f)

-- and a start-up memory alone
start-run : (c : Call) (x y : Situation) → is_start c ≡ true → x.memory ≡ y.memory → run c x ≡ run c y
unfolding run is_start
start-run (install d limit) x y h e = absurd (false≢true h)
start-run (start limit) x y h e = rw e
start-run (send bytes random area limit) x y h e = absurd (false≢true h)

ran-run : (c : Call) (b : Bench) (st : Situation) → Beside b st → (st.cut ≡ true → is_start c ≡ true) → ran c b ≡ run c st
unfolding ran
ran-run c b st h f = by st.cut refl
  where
    by : (t : Bool) → st.cut ≡ t → run c (record { memory = b.memory; session = b.session; cut = false }) ≡ run c st
    by true e = start-run c _ st (f e) h.memory
    by false e = same-run c _ st h.memory (rw e at h.session)

-- the session behind a call
sessions : (s t : Session) (cut : Bool) (r : Run) → s ≡ pick cut unselected t
    → session_after s r.answer r.session
    ≡ pick (pick (eqb r.answer 7) true (pick (eqb r.answer 0) false cut)) unselected (pick (eqb r.answer 0) r.session t)
unfolding session_after
sessions s t cut r e = by (eqb r.answer 7) (eqb r.answer 0)
  where
    by : (x y : Bool) → pick x unselected (pick y r.session s) ≡ pick (pick x true (pick y false cut)) unselected (pick y r.session t)
    by true y = refl
    by false true = refl
    by false false = e

beside_next : (c : Call) (b : Bench) (st : Situation) → Beside b st → (st.cut ≡ true → is_start c ≡ true) → OfBytes c → (is_install c ≡ true → (ran c b).answer ≡ 7 → ⊥)
    → Beside (moved c b) (next c st)
unfolding moved next
beside_next c b st h f o n =
    let e = ran-run c b st h f in
    record {
      memory = rw e;
      session = rw e (sessions b.session st.session st.cut (run c st) h.session);
      typed = typed_next c st h.typed o;
      reads = readable_stays c st h.typed o h.reads (λ i. rw e at (n i));
    }

-- the start-up that is put in
module _ (b : Bench) (st : Situation) (h : Beside b st) (cut : st.cut ≡ true) where
  finishes : (run inserted st).answer ≡ 0
  unfolding run inserted
  finishes = startup_finishes st.memory 0xFFFF h.reads

  keeps : (run inserted st).memory ≡ st.memory
  unfolding run inserted
  keeps = startup_keeps st.memory 0xFFFF

  hands : (run inserted st).session ≡ unselected
  unfolding inserted is_start is_install
  hands = hands_unselected inserted st refl

  inserted_ends_cut : (next inserted st).cut ≡ false
  unfolding next
  inserted_ends_cut = rw finishes

  beside_inserted : Beside b (next inserted st)
  unfolding next inserted OfBytes
  beside_inserted =
      record {
        memory = h.memory ∙ sym keeps;
        session = rw cut at h.session ∙ rw (finishes, hands);
        typed = typed_next inserted st h.typed tt;
        reads = rw keeps h.reads;
      }

-- ---- the list

record AsList (xs : List Call) (b : Bench) (st : Situation) : Type 0 where
  pub admissible : Admissible xs st
  pub bytes : AllOfBytes xs
  pub memory : (after_calls xs st).memory ≡ b.memory

not_missing : (cut starts : Bool) → (cut && not starts) ≡ false → cut ≡ true → starts ≡ true
not_missing true true e f = refl
not_missing true false e f = absurd (false≢true (sym e))
not_missing false starts e f = absurd (false≢true f)

is-missing : (cut starts : Bool) → (cut && not starts) ≡ true → cut ≡ true
is-missing true starts e = refl
is-missing false starts e = e

module _ (c : Call) (cs : List Call) (b last : Bench) (st : Situation) (h : Beside b st) (o : OfBytes c) (n : is_install c ≡ true → (ran c b).answer ≡ 7 → ⊥)
    (rest : (st' : Situation) → Beside (moved c b) st' → AsList (with_startups cs st') last st') where
  one_kept : (st.cut ≡ true → is_start c ≡ true) → AsList (c ∷ with_startups cs (next c st)) last st
  unfolding Admissible AllOfBytes after_calls
  one_kept f =
      let r = rest (next c st) (beside_next c b st h f o n) in
      record {
        admissible = (f, (λ i. rw (ran-run c b st h f) at (n i)), r.admissible);
        bytes = (o, r.bytes);
        memory = r.memory;
      }

one_inserted : (c : Call) (cs : List Call) (b last : Bench) (st : Situation) → Beside b st → OfBytes c → (is_install c ≡ true → (ran c b).answer ≡ 7 → ⊥)
    → ((st' : Situation) → Beside (moved c b) st' → AsList (with_startups cs st') last st') → (t : Bool) → missing c st ≡ t
    → AsList (pick t (inserted ∷ c ∷ with_startups cs (next c (next inserted st))) (c ∷ with_startups cs (next c st))) last st
unfolding missing Admissible AllOfBytes after_calls inserted is_start is_install OfBytes
one_inserted c cs b last st h o n rest false e = one_kept c cs b last st h o n rest (not_missing st.cut (is_start c) e)
one_inserted c cs b last st h o n rest true e =
    let cut = is-missing st.cut (is_start c) e in
    let g = beside_inserted b st h cut in
    let r = one_kept c cs b last (next inserted st) g o n rest (λ z. absurd (false≢true (sym (inserted_ends_cut b st h cut) ∙ z))) in
    record { admissible = ((λ z. refl), (λ z. absurd (false≢true z)), r.admissible); bytes = (tt, r.bytes); memory = r.memory }

lists : (cs : List Call) (b : Bench) (st : Situation) → Beside b st → AllOfBytes cs → NoneCut cs b → AsList (with_startups cs st) (moved_all cs b) st
unfolding with_startups Admissible AllOfBytes after_calls moved_all NoneCut
lists [] b st h f n = record { admissible = tt; bytes = tt; memory = sym h.memory }
lists (c ∷ cs) b st h f n =
    one_inserted c cs b (moved_all cs (moved c b)) st h f.0 n.0 (λ st' g. lists cs (moved c b) st' g f.1 n.1) (missing c st) refl

-- ---- the law

-- behind the first call, a finished installation
beside_first : (c : Call) (b : Bench) → Typed (state_of b) → OfBytes c → is_install c ≡ true → (ran c b).answer ≡ 0 → Beside (moved c b) (next c (state_of b))
unfolding state_of ran moved next AllOfBytes IsHistory Admissible after_calls
beside_first c b t f i e =
    let st = state_of b in
    let z = balance_law (c ∷ []) st empty (f, tt) (i, e, tt) in
    record {
      memory = refl;
      session = sessions b.session b.session false (run c st) refl;
      typed = typed_next c st t f;
      reads = read_readable _ z.card z.reads;
    }

-- behind calls on any memory and in any session, whatever the ledger held before
pub calls-balance : (cs : List Call) (b : Bench) (l : Ledger) → Typed (state_of b) → AllOfBytes cs → StartsInstalled cs b
    → Balanced (state_of (moved_all cs b)) (kept (with_startups cs (state_of b)) (state_of b) l)
unfolding StartsInstalled AllOfBytes moved_all with_startups missing state_of ran IsHistory after_calls
calls-balance [] b l t f h = absurd h
calls-balance (c ∷ cs) b l t f h =
    let st = state_of b in
    let m = lists cs (moved c b) (next c st) (beside_first c b t f.0 h.0 h.1) f.1 h.2 in
    let z = balance_law (c ∷ with_startups cs (next c st)) st l (f.0, m.bytes) (h.0, h.1, m.admissible) in
    record { card = z.card; reads = rw (← m.memory) z.reads; sum = z.sum; limit = z.limit }

-- THE BALANCE LAW of bench files
pub bench-balance : (s : List ℕ) → AreBytes s → StartsInstalled (file s).calls begun
    → Balanced (state_of (moved_all (file s).calls begun)) (kept (with_startups (file s).calls (state_of begun)) (state_of begun) empty)
unfolding file begun state_of
bench-balance s f h =
    calls-balance (file s).calls begun empty (record { memory = zeros-bytes memory_size; session = unselected-sized }) (file-bytes (length s) s f) h
