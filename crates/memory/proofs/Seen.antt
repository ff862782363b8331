-- What the reading sees of memory, and which addresses are dead: a store there changes nothing that is seen. Assumes nothing.
use mathlib.Core.Path.{◌≡◌, refl, sym, ap, ◌∙◌}
use mathlib.Core.Logic.{◌≢◌}
use mathlib.Core.Bool.{Bool, true, false}
use mathlib.Core.List.{List, [], ◌∷◌, ◌++◌}
use mathlib.Core.Option.{Option, none, some}
use Prim.Native.Nat.{ℕ, ◌≤◌, ◌<◌}
use native.Mathlib.Omega.{arith}
use borrow.Author.Tests.{eqb-true, ltb-true, leb-true, eq-eqb, lt-ltb, le-leb}
use lib.Dec.{ltb, leb, eqb}
use lib.ListN.{length, set, length-set}
use lib.Seq.{get_or-set_other}
use Rattle.octets.specs.Choice.{pick}
use Rattle.octets.specs.Tests.{all_true}
use Rattle.octets.specs.Bytes.{byte_at, part}
use Rattle.octets.proofs.Conditions.{each, all_true_lem}
use Rattle.stores.specs.Stores.{Out}
use Rattle.stores.proofs.Parts.{part-set}
use Rattle.card.specs.declared.head.Head.{Head}
use Rattle.card.specs.declared.log.Record.{Record}
use Rattle.card.specs.Log.{record_size, void, record_in}
use Rattle.card.specs.Card.{Card}
use Rattle.card.specs.Proper.{log_ok, proper_tests}
use Rattle.card.proofs.Ranges.{all_append, all_left, all_right, Size, size_range}
use Rattle.memory.specs.Layout.{memory_size, magic, fixed_at, hot_at, cold_at, slot, slot_at}
use Rattle.memory.specs.Structs.{fixed_size, fixed_in, hot_size, newest_in, filled_in, cold_size, head_of}
use Rattle.memory.specs.Reading.{root_of, fixed_of, hot_of, cold_of, head_in, record_at, rows, log_in, formed_tests, readable, read_card}
use Rattle.memory.proofs.Ring.{rows_ext}

pub record Seen : Type 0 where
  pub size : ℕ
  pub magic : ℕ
  pub root : ℕ
  pub fixed : List ℕ
  pub hot : List ℕ
  pub cold : List ℕ
  pub log : List Record

unfoldable pub view : List ℕ → Seen
view m =
    record { size = length m; magic = byte_at m 0; root = root_of m; fixed = fixed_of m; hot = hot_of m; cold = cold_of m; log = log_in m }

-- the log's size in a fixed part
abbrev pub size_of : List ℕ → ℕ
size_of fixed = (fixed_in fixed).logsize

-- the log of memory under a fixed part and a block H
abbrev pub log_of : List ℕ → List ℕ → List ℕ → List Record
log_of m fixed hot =
    rows (size_of fixed) (λ k. pick (ltb k (filled_in hot)) (record_in (part m (slot_at (slot (size_of fixed) (newest_in hot) k)) record_size)) void)

-- ---- the card of what is seen

abbrev pub head_seen : Seen → Head
head_seen s = head_of s.fixed s.hot s.cold

abbrev tests_of : Seen → List Bool
tests_of s =
    eqb s.size memory_size ∷ eqb s.magic magic ∷ ltb s.root 4
    ∷ leb (newest_in s.hot) (size_of s.fixed)
    ∷ leb (filled_in s.hot) (size_of s.fixed)
    ∷ log_ok (head_seen s).purse.parameters.personalized s.log ∷ []

abbrev card_of : Seen → Card
card_of s = record { head = head_seen s; log = s.log }

unfoldable pub decode : Seen → Option Card
decode s = pick (all_true (tests_of s ++ proper_tests (head_seen s))) (some (card_of s)) none

pub read_view : (m : List ℕ) → read_card m ≡ decode (view m)
unfolding read_card readable formed_tests head_in head_of decode view
read_view m = refl

pub read_same : (m n : List ℕ) → view n ≡ view m → read_card n ≡ read_card m
read_same m n e = read_view n ∙ ap decode e ∙ sym (read_view m)

-- what is seen has a card's form
pub record Formed (s : Seen) : Type 0 where
  pub size : s.size ≡ memory_size
  pub magic : s.magic ≡ magic
  pub root : s.root < 4
  pub newest : newest_in s.hot ≤ size_of s.fixed
  pub filled : filled_in s.hot ≤ size_of s.fixed
  pub log : log_ok (head_seen s).purse.parameters.personalized s.log ≡ true

-- it reads as the card c
pub record ReadsAs (s : Seen) (c : Card) : Type 0 where
  pub formed : Formed s
  pub head : head_seen s ≡ c.head
  pub log : s.log ≡ c.log
  pub tests : all_true (proper_tests c.head) ≡ true
  pub range : Size (size_of s.fixed)

formed_of : (s : Seen) → all_true (tests_of s) ≡ true → Formed s
formed_of s e =
    let t = each (tests_of s) e in
    record {
      size = eqb-true _ _ t.0;
      magic = eqb-true _ _ t.1.0;
      root = ltb-true _ _ t.1.1.0;
      newest = leb-true _ _ t.1.1.1.0;
      filled = leb-true _ _ t.1.1.1.1.0;
      log = t.1.1.1.1.1.0;
    }

tests_of_lem : (s : Seen) → Formed s → all_true (tests_of s) ≡ true
tests_of_lem s f =
    all_true_lem (tests_of s)
    (eq-eqb _ _ f.size, (eq-eqb _ _ f.magic, (lt-ltb _ _ f.root, (le-leb _ _ f.newest, (le-leb _ _ f.filled, (f.log, tt))))))

reads_of : (s : Seen) (c : Card) → decode s ≡ some c → ReadsAs s c
unfolding decode head_of
reads_of s c e = go (all_true (tests_of s ++ proper_tests (head_seen s))) refl e
  where
    taken : all_true (tests_of s ++ proper_tests (head_seen s)) ≡ true → card_of s ≡ c → ReadsAs s c
    taken t q =
        let u = all_right (tests_of s) (proper_tests (head_seen s)) t in
        let h : head_seen s ≡ c.head = ap (λ (x : Card). x.head) q in
        record {
          formed = formed_of s (all_left (tests_of s) (proper_tests (head_seen s)) t);
          head = h;
          log = ap (λ (x : Card). x.log) q;
          tests = ap (λ (x : Head). all_true (proper_tests x)) (sym h) ∙ u;
          range = size_range (head_seen s) u;
        }

    go : (b : Bool) → all_true (tests_of s ++ proper_tests (head_seen s)) ≡ b → pick b (some (card_of s)) none ≡ some c → ReadsAs s c
    go true t q = taken t (cc)
    go false t q = absurd (let z : ◌≡◌ {A = ℕ} 0 1 = cc in omega arith)

-- a memory that reads as c
pub reads : (m : List ℕ) (c : Card) → read_card m ≡ some c → ReadsAs (view m) c
reads m c e = reads_of (view m) c (sym (read_view m) ∙ e)

pub read_is : (m : List ℕ) (s : Seen) (c : Card) → view m ≡ s → Formed s → head_seen s ≡ c.head → s.log ≡ c.log → all_true (proper_tests c.head) ≡ true
    → read_card m ≡ some c
unfolding decode
read_is m s c v f h l p =
    let t : all_true (tests_of s ++ proper_tests (head_seen s)) ≡ true =
    all_append (tests_of s) (proper_tests (head_seen s)) (tests_of_lem s f) (ap (λ (x : Head). all_true (proper_tests x)) h ∙ p)
    in
    read_view m ∙ ap decode v ∙ rw t (λ i. some (record { head = h i; log = l i }))

-- ---- dead addresses

pub record Dead (s : Seen) (i : ℕ) : Type 0 where
  pub magic : i ≢ 0
  pub root : i ≢ 1
  pub fixed : Out fixed_at fixed_size i
  pub hot : Out (hot_at s.root) hot_size i
  pub cold : Out (cold_at s.root) cold_size i
  pub slots : (k : ℕ) → k < size_of s.fixed → Out (slot_at (slot (size_of s.fixed) (newest_in s.hot) k)) record_size i

-- what is seen, from its parts
pub seen_of : (m : List ℕ) (s : Seen) → length m ≡ s.size → byte_at m 0 ≡ s.magic → root_of m ≡ s.root → fixed_of m ≡ s.fixed
    → part m (hot_at s.root) hot_size ≡ s.hot → part m (cold_at s.root) cold_size ≡ s.cold
    → log_of m s.fixed s.hot ≡ s.log → view m ≡ s
unfolding view log_in record_at head_in
seen_of m s a b c x d e f =
    let h : hot_of m ≡ s.hot = ap (λ (r : ℕ). part m (hot_at r) hot_size) c ∙ d in
    let g : cold_of m ≡ s.cold = ap (λ (r : ℕ). part m (cold_at r) cold_size) c ∙ e in
    let l : log_in m ≡ log_of m s.fixed s.hot = λ i. log_of m (x i) (h i) in
    let k : log_in m ≡ s.log = l ∙ f in
    λ i. record { size = a i; magic = b i; root = c i; fixed = x i; hot = h i; cold = g i; log = k i }

pub kept : (m : List ℕ) (i v : ℕ) → Dead (view m) i → view (set m i v) ≡ view m
unfolding view log_in record_at head_in
kept m i v d =
    seen_of (set m i v) (view m) (length-set m i v) (get_or-set_other m i 0 v 0 (λ e. d.magic (sym e))) (get_or-set_other m i 1 v 0 (λ e. d.root (sym e)))
    (part-set m fixed_at fixed_size i v d.fixed) (part-set m (hot_at (root_of m)) hot_size i v d.hot) (part-set m (cold_at (root_of m)) cold_size i v d.cold)
    (rows_ext (size_of (fixed_of m)) _ _
    (λ k q. ap (λ (x : List ℕ). pick (ltb k (filled_in (hot_of m))) (record_in x) void)
    (part-set m (slot_at (slot (size_of (fixed_of m)) (newest_in (hot_of m)) k)) record_size i v (d.slots k q))))
