-- What a change's stores leave alone, and what they put: its pieces, where they go, and memory after the whole run. Assumes nothing.
use mathlib.Core.Path.{◌≡◌, refl, ap, ◌∙◌}
use mathlib.Core.Logic.{◌≢◌}
use mathlib.Core.Bool.{Bool, true, false}
use mathlib.Core.List.{List, [], ◌++◌, append_assoc}
use Rattle.std.specs.Prelude.{Option, Some, None, is_some, unwrap_or, option_map}
use Prim.Native.Nat.{ℕ, ◌+◌, ◌*◌, ◌/◌, ◌%◌, ◌≤◌, ◌<◌}
use native.Mathlib.Omega.{arith}
use lib.ListN.{length}
use lib.Seq.{get_or-set_same}
use Rattle.octets.specs.Choice.{pick}
use Rattle.octets.specs.Bytes.{byte_at, part}
use Rattle.stores.specs.Stores.{Store, applied, writes, Out, OnlyAt}
use Rattle.stores.proofs.Plans.{applied-length, applied-append, only-append, only-writes}
use Rattle.stores.proofs.Parts.{part-applied, byte_applied, part-writes}
use Rattle.card.specs.declared.log.Record.{Record}
use Rattle.card.specs.declared.change.Change.{Change}
use Rattle.card.specs.Log.{record_size, record_bytes}
use Rattle.card.specs.Card.{Card}
use Rattle.memory.specs.Layout.{memory_size, fixed_at, hot_at, cold_at, ring_at, next_root, slot, slot_at}
use Rattle.memory.specs.Structs.{fixed_size, hot_size, newest_in, filled_in, cold_size, cold_bytes}
use Rattle.memory.specs.Reading.{root_of, fixed_of, hot_of, cold_of, size_in}
use Rattle.memory.specs.Changes.{spare, newest_after, filled_after, hot_after, hot_piece, record_piece, cold_piece, Fills, root_store, plan}
use Rattle.memory.proofs.RoundTrip.{hot_length}
use Rattle.memory.proofs.Ring.{slot-at, slots_apart}
use Rattle.memory.proofs.Seen.{view, Dead, ReadsAs}

-- ---- the next_root root

pub next_root_small : (cold : Bool) (r : ℕ) → next_root cold r < 4
next_root_small true r = omega arith
next_root_small false r = omega arith

-- it names the other copy of H
pub hot_next : (cold : Bool) (r : ℕ) → hot_at (next_root cold r) ≡ hot_at (next_root true r)
hot_next true r = refl
hot_next false r = omega arith

-- the live copy of C, where C is not written
pub cold_next : (r : ℕ) → cold_at (next_root false r) ≡ cold_at r
cold_next r = let e : next_root false r / 2 % 2 ≡ r / 2 % 2 = omega arith in ap (λ (t : ℕ). 256 + 768 * t) e

cold-writes : (cold : Bool) (r : ℕ) (bytes : List ℕ) → writes (cold_at (next_root cold r)) (pick cold bytes []) ≡ writes (cold_at (next_root true r)) (pick cold bytes [])
unfolding writes
cold-writes true r bytes = refl
cold-writes false r bytes = refl

-- ---- the pieces of a change

-- a piece that is written or not
pub piece_length : (b : Bool) (bytes : List ℕ) (n : ℕ) → (b ≡ true → length bytes ≡ n) → length (pick b bytes []) ≡ pick b n 0
piece_length true bytes n f = f refl
piece_length false bytes n f = refl

-- the same of a log record
pub logged_length : (o : Option Record) (n : ℕ) → ((r : Record) → o ≡ Some r → length (record_bytes r) ≡ n)
    → length (unwrap_or (option_map record_bytes o) []) ≡ pick (is_some o) n 0
logged_length (Some r) n f = f r refl
logged_length None n f = refl

pick_most : (b : Bool) (n : ℕ) → pick b n 0 ≤ n
pick_most true n = omega arith
pick_most false n = omega arith

pub hot_fits : (x : Change) (m : List ℕ) → length (hot_piece x m) ≡ hot_size
unfolding hot_after
hot_fits x m = hot_length x.head.state (newest_after (is_some x.logged) m) (filled_after (is_some x.logged) m) x.head.purse.balance

-- its stores before the root's
abbrev pub body : Change → List ℕ → List Store
body x m =
    writes (hot_at (next_root true (root_of m))) (hot_piece x m)
    ++ writes (slot_at (spare m)) (record_piece x)
    ++ writes (cold_at (next_root true (root_of m))) (cold_piece x)

pub plan_body : (x : Change) (m : List ℕ) → plan x m ≡ body x m ++ root_store (next_root x.cold (root_of m))
unfolding plan
plan_body x m =
    let r = root_of m in
    λ i. writes (hot_next x.cold r i) (hot_piece x m) ++ writes (slot_at (spare m)) (record_piece x)
    ++ cold-writes x.cold r (cold_bytes x.head) i ++ root_store (next_root x.cold r)

-- ---- what a readable memory says

pub record Bounded (m : List ℕ) : Type 0 where
  pub size : length m ≡ memory_size
  pub root : root_of m < 4
  pub newest : newest_in (hot_of m) ≤ size_in m
  pub filled : filled_in (hot_of m) ≤ size_in m
  pub some : 1 ≤ size_in m
  pub most : size_in m ≤ 50

pub sound : (m : List ℕ) (c : Card) → ReadsAs (view m) c → Bounded m
unfolding view
sound m c r =
    record {
      size = r.formed.size;
      root = r.formed.root;
      newest = r.formed.newest;
      filled = r.formed.filled;
      some = r.range.some;
      most = r.range.most;
    }

-- ---- its stores

-- bytes that no later store touches are read
pub written : (p q : List Store) (a k : ℕ) (bytes m : List ℕ) → length bytes ≡ k → a + k ≤ length m → OnlyAt (Out a k) q
    → part (applied (p ++ writes a bytes ++ q) m) a k ≡ bytes
written p q a k bytes m e l o =
    let b : a + length bytes ≤ length (applied p m) = omega (arith, applied-length p m) in
    ap (λ (t : List ℕ). part t a k) (applied-append (p ++ writes a bytes) q m ∙ ap (applied q) (applied-append p (writes a bytes) m))
    ∙ part-applied q (applied (writes a bytes) (applied p m)) a k o
    ∙ (rw e at (part-writes bytes (applied p m) a b))

module _ (m : List ℕ) (f : Bounded m) (x : Change) (w : Fills x) where
  abbrev r : ℕ
  r = root_of m

  abbrev n : ℕ
  n = size_in m

  abbrev h : ℕ
  h = newest_in (hot_of m)

  abbrev H : ℕ
  H = hot_at (next_root true r)

  abbrev C : ℕ
  C = cold_at (next_root true r)

  abbrev S : ℕ
  S = slot_at (slot n h n)

  abbrev A : List Store
  A = writes H (hot_piece x m)

  abbrev D : List Store
  D = writes S (record_piece x)

  abbrev B : List Store
  B = writes C (cold_piece x)

  abbrev R : List Store
  R = root_store (next_root x.cold r)

  spare-at : (ring_at ≤ S) × (S ≤ ring_at + record_size * 50)
  spare-at = slot-at n h n f.most f.newest (omega arith)

  -- a property of every address of H's other copy, of the spare slot, of C's other copy
  only_hot : (P : ℕ → Type 0) → ((i : ℕ) → H ≤ i → i < H + hot_size → P i) → OnlyAt P A
  only_hot P a = let l = hot_fits x m in only-writes P H (hot_piece x m) (λ i p q. a i p (omega arith))

  only-slot : (P : ℕ → Type 0) → ((i : ℕ) → S ≤ i → i < S + record_size → P i) → OnlyAt P D
  only-slot P a =
      let l = logged_length x.logged record_size w.logged in
      let k = pick_most (is_some x.logged) record_size in
      only-writes P S (record_piece x) (λ i p q. a i p (omega arith))

  only-cold : (P : ℕ → Type 0) → ((i : ℕ) → C ≤ i → i < C + cold_size → P i) → OnlyAt P B
  only-cold P a =
      let l = piece_length x.cold (cold_bytes x.head) cold_size w.cold in
      let k = pick_most x.cold cold_size in
      only-writes P C (cold_piece x) (λ i p q. a i p (omega arith))

  only_body : (P : ℕ → Type 0) → ((i : ℕ) → H ≤ i → i < H + hot_size → P i) → ((i : ℕ) → S ≤ i → i < S + record_size → P i)
      → ((i : ℕ) → C ≤ i → i < C + cold_size → P i) → OnlyAt P (body x m)
  only_body P a b c = only-append P (A ++ D) B (only-append P A D (only_hot P a) (only-slot P b)) (only-cold P c)

  only-plan : (P : ℕ → Type 0) → ((i : ℕ) → H ≤ i → i < H + hot_size → P i) → ((i : ℕ) → S ≤ i → i < S + record_size → P i)
      → ((i : ℕ) → C ≤ i → i < C + cold_size → P i) → P 1 → OnlyAt P (plan x m)
  only-plan P a b c d = rw (plan_body x m) (only-append P (body x m) R (only_body P a b c) (d, tt))

  -- they are dead, but the root's
  pub body_dead : OnlyAt (Dead (view m)) (body x m)
  unfolding view
  body_dead =
      let q = f.root in
      only_body (Dead (view m))
      (λ i a b.
      record {
        magic = omega arith;
        root = omega arith;
        fixed = omega arith;
        hot = omega arith;
        cold = omega arith;
        slots = λ k l. let s = slot-at n h k f.most f.newest (omega arith) in omega arith;
      })
      (λ i a b.
      record {
        magic = omega (arith, spare-at);
        root = omega (arith, spare-at);
        fixed = omega (arith, spare-at);
        hot = omega (arith, spare-at);
        cold = omega (arith, spare-at);
        slots = λ k l. slots_apart n h n k f.newest (omega arith) (omega arith) (omega arith) i a b;
      })
      (λ i a b.
      record {
        magic = omega arith;
        root = omega arith;
        fixed = omega arith;
        hot = omega arith;
        cold = omega arith;
        slots = λ k l. let s = slot-at n h k f.most f.newest (omega arith) in omega arith;
      })

  -- ---- memory after the whole run

  abbrev m' : List ℕ
  m' = applied (plan x m) m

  pub after-length : length m' ≡ memory_size
  after-length = applied-length (plan x m) m ∙ f.size

  pub after-magic : byte_at m' 0 ≡ byte_at m 0
  after-magic =
      byte_applied (plan x m) m 0
      (only-plan (λ a. 0 ≢ a) (λ i a b. omega arith) (λ i a b. omega (arith, spare-at)) (λ i a b. omega arith) (omega arith))

  pub after_root : root_of m' ≡ next_root x.cold r
  unfolding applied
  after_root =
      let l : 1 < length (applied (body x m) m) = omega (arith, applied-length (body x m) m, f.size) in
      ap (λ (p : List Store). root_of (applied p m)) (plan_body x m)
      ∙ ap root_of (applied-append (body x m) R m)
      ∙ get_or-set_same (applied (body x m) m) 1 (next_root x.cold r) 0 l

  -- a part that no piece touches stays
  stays : (a k : ℕ) → ((i : ℕ) → H ≤ i → i < H + hot_size → Out a k i) → ((i : ℕ) → S ≤ i → i < S + record_size → Out a k i)
      → ((i : ℕ) → C ≤ i → i < C + cold_size → Out a k i) → Out a k 1 → part m' a k ≡ part m a k
  stays a k p q s d = part-applied (plan x m) m a k (only-plan (Out a k) p q s d)

  pub fixed_stays : fixed_of m' ≡ fixed_of m
  fixed_stays = stays fixed_at fixed_size (omega arith) (λ i a b. omega (arith, spare-at)) (omega arith) (omega arith)

  pub cold_stays : part m' (cold_at r) cold_size ≡ cold_of m
  cold_stays =
      let q = f.root in
      stays (cold_at r) cold_size (omega arith) (λ i a b. omega (arith, spare-at)) (omega arith) (omega arith)

  pub slot_stays : (k : ℕ) → k < n → part m' (slot_at (slot n h k)) record_size ≡ part m (slot_at (slot n h k)) record_size
  slot_stays k l =
      let s = slot-at n h k f.most f.newest (omega arith) in
      stays (slot_at (slot n h k)) record_size (omega arith)
      (λ i a b. slots_apart n h n k f.newest (omega arith) (omega arith) (omega arith) i a b) (omega arith) (omega arith)

  -- the pieces are read where they went
  pub cold_new : length (cold_piece x) ≡ cold_size → part m' C cold_size ≡ cold_piece x
  cold_new e =
      ap (λ (p : List Store). part (applied p m) C cold_size) (plan_body x m)
      ∙ written (A ++ D) R C cold_size (cold_piece x) m e (omega (arith, f.size)) (omega arith, tt)

  pub slot_new : length (record_piece x) ≡ record_size → part m' S record_size ≡ record_piece x
  slot_new e =
      ap (λ (p : List Store). part (applied p m) S record_size) (plan_body x m ∙ append_assoc (A ++ D) B R)
      ∙ written A (B ++ R) S record_size (record_piece x) m e (omega (arith, spare-at, f.size))
      (only-append (Out S record_size) B R (only-cold (Out S record_size) (λ i a b. omega (arith, spare-at))) (omega (arith, spare-at), tt))

  pub hot_new : part m' H hot_size ≡ hot_piece x m
  hot_new =
      let P = Out H hot_size in
      ap (λ (p : List Store). part (applied p m) H hot_size) (plan_body x m ∙ append_assoc (A ++ D) B R ∙ append_assoc A D (B ++ R))
      ∙ written [] (D ++ (B ++ R)) H hot_size (hot_piece x m) m (hot_fits x m) (omega (arith, f.size))
      (only-append P D (B ++ R) (only-slot P (λ i a b. omega (arith, spare-at))) (only-append P B R (only-cold P (λ i a b. omega arith)) (omega arith, tt)))
