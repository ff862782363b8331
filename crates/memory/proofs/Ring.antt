-- The ring of log records: its slots lie apart, and with the spare slot for newest each record has one newer record more. Assumes nothing.
use mathlib.Core.Path.{◌≡◌, refl, ap}
use mathlib.Core.Logic.{◌≢◌}
use mathlib.Core.List.{List, [], ◌∷◌, ◌++◌}
use Prim.Native.Nat.{ℕ, zero, suc, ◌+◌, ◌-◌, ◌*◌, ◌≤◌, ◌<◌}
use native.Mathlib.Omega.{arith}
use native.Mathlib.Nat.{lt_of_not-le, not-suc-le-zero, suc_inj}
use native.Mathlib.Decide.{dec_le}
use borrow.Author.Tests.{le-leb, lt-leb}
use lib.ListN.{length, get_or, take, replicate, length-append}
use lib.Seq.{take_at, drop_at, drop-drop}
use Rattle.octets.specs.Bytes.{part}
use Rattle.stores.specs.Stores.{Out}
use Rattle.stores.specs.Fields.{joined}
use Rattle.card.specs.Log.{record_size}
use Rattle.memory.specs.Layout.{ring_at, slot, slot_at}
use Rattle.memory.specs.Reading.{rows}

-- ---- slots

pub slot_cases : (n h k : ℕ) (P : ℕ → Type 0) → (k ≤ h → P (h - k)) → (h < k → P (h + suc n - k)) → P (slot n h k)
unfolding slot
slot_cases n h k P f g =
    elim (dec_le k h) [ yes q ↦ rw (le-leb k h q) (f q) | no q ↦ rw (lt-leb k h (lt_of_not-le q)) (g (lt_of_not-le q)) ]

pub slot_in : (n h k : ℕ) → h ≤ n → k ≤ n → slot n h k ≤ n
slot_in n h k hh hk = slot_cases n h k (λ x. x ≤ n) (λ q. omega arith) (λ q. omega arith)

slot_apart : (n h j k : ℕ) → h ≤ n → j ≤ n → k ≤ n → j ≢ k → slot n h j ≢ slot n h k
slot_apart n h j k hh hj hk ne =
    slot_cases n h j (λ x. x ≢ slot n h k)
    (λ q. slot_cases n h k (λ y. h - j ≢ y) (λ r. omega arith) (λ r. omega arith))
    (λ q. slot_cases n h k (λ y. h + suc n - j ≢ y) (λ r. omega arith) (λ r. omega arith))

pub slot_newest : (n h : ℕ) → slot n h 0 ≡ h
slot_newest n h = slot_cases n h 0 (λ x. x ≡ h) (λ q. omega arith) (λ q. omega arith)

-- in a ring whose newest slot is the last
pub slot_last : (n k : ℕ) → k ≤ n → slot n n k ≡ n - k
slot_last n k h = slot_cases n n k (λ x. x ≡ n - k) (λ q. refl) (λ q. omega arith)

-- with the spare slot for newest, each record has one newer record more
pub slot_next : (n h k : ℕ) → h ≤ n → k < n → slot n (slot n h n) (suc k) ≡ slot n h k
slot_next n h k hh hk =
    slot_cases n h k (λ y. slot n (slot n h n) (suc k) ≡ y)
    (λ q. slot_cases n h n (λ x. slot n x (suc k) ≡ h - k)
    (λ r. slot_cases n (h - n) (suc k) (λ z. z ≡ h - k) (λ u. omega arith) (λ u. omega arith))
    (λ r. slot_cases n (h + suc n - n) (suc k) (λ z. z ≡ h - k) (λ u. omega arith) (λ u. omega arith)))
    (λ q. slot_cases n h n (λ x. slot n x (suc k) ≡ h + suc n - k)
    (λ r. slot_cases n (h - n) (suc k) (λ z. z ≡ h + suc n - k) (λ u. omega arith) (λ u. omega arith))
    (λ r. slot_cases n (h + suc n - n) (suc k) (λ z. z ≡ h + suc n - k) (λ u. omega arith) (λ u. omega arith)))

-- ---- where they lie

-- the last of at most 51 slots starts at 50 records
pub slot-at : (n h k : ℕ) → n ≤ 50 → h ≤ n → k ≤ n → (ring_at ≤ slot_at (slot n h k)) × (slot_at (slot n h k) ≤ ring_at + record_size * 50)
slot-at n h k hn hh hk = let s = slot_in n h k hh hk in (omega arith, omega arith)

pub slots_apart : (n h j k : ℕ) → h ≤ n → j ≤ n → k ≤ n → j ≢ k
    → (i : ℕ) → slot_at (slot n h j) ≤ i → i < slot_at (slot n h j) + record_size → Out (slot_at (slot n h k)) record_size i
slots_apart n h j k hh hj hk ne i a b = let d = slot_apart n h j k hh hj hk ne in omega arith

-- ---- rows

pub rows_ext : {A : Type 0} (n : ℕ) (f g : ℕ → A) → ((k : ℕ) → k < n → f k ≡ g k) → rows n f ≡ rows n g
rows_ext zero f g e = refl
rows_ext (suc n) f g e =
    let a : f 0 ≡ g 0 = e 0 (omega arith) in
    let b : rows n (λ k. f (suc k)) ≡ rows n (λ k. g (suc k)) = rows_ext n (λ k. f (suc k)) (λ k. g (suc k)) (λ k h. e (suc k) (omega arith)) in
    cc

pub length-rows : {A : Type 0} (n : ℕ) (f : ℕ → A) → length (rows n f) ≡ n
length-rows zero f = refl
length-rows (suc n) f = ap suc (length-rows n (λ k. f (suc k)))

pub row_at : {A : Type 0} (n k : ℕ) (f : ℕ → A) (d : A) → k < n → get_or (rows n f) k d ≡ f k
row_at zero k f d h = absurd (not-suc-le-zero h)
row_at (suc n) zero f d h = refl
row_at (suc n) (suc k) f d h = row_at n k (λ j. f (suc j)) d (omega arith)

pub rows_same : {A : Type 0} (n : ℕ) (x : A) → rows n (λ k. x) ≡ replicate n x
rows_same zero x = refl
rows_same (suc n) x = rw (rows_same n x)

pub rows_list : {A : Type 0} (n : ℕ) (l : List A) (d : A) → length l ≡ n → rows n (λ k. get_or l k d) ≡ l
rows_list zero [] d e = refl
rows_list zero (x ∷ l) d e = absurd (omega arith)
rows_list (suc n) [] d e = absurd (omega arith)
rows_list (suc n) (x ∷ l) d e = rw (rows_list n l d (suc_inj e))

take-rows : {A : Type 0} (n : ℕ) (f : ℕ → A) → take n (rows (suc n) f) ≡ rows n f
take-rows zero f = refl
take-rows (suc n) f = rw (take-rows n (λ k. f (suc k)))

-- a new row before the others, of which the last drops out
pub rows_push : {A : Type 0} (n : ℕ) (f g : ℕ → A) (x : A) → 0 < n → g 0 ≡ x → ((k : ℕ) → suc k < n → g (suc k) ≡ f k)
    → rows n g ≡ x ∷ take (n - 1) (rows n f)
rows_push zero f g x h a b = absurd (not-suc-le-zero h)
rows_push (suc n) f g x h a b =
    let e : suc n - 1 ≡ n = omega arith in
    rw (e, take-rows n f, a, rows_ext n (λ k. g (suc k)) f (λ k q. b k (omega arith)))

-- ---- records one after the other

pub joined_length : (n : ℕ) (f : ℕ → List ℕ) → ((k : ℕ) → k < n → length (f k) ≡ record_size) → length (joined (rows n f)) ≡ record_size * n
joined_length zero f e = refl
joined_length (suc n) f e =
    let i = joined_length n (λ k. f (suc k)) (λ k q. e (suc k) (omega arith)) in
    omega (arith, length-append (f 0) (joined (rows n (λ k. f (suc k)))), e 0 (omega arith))

pub joined_at : (n j : ℕ) (f : ℕ → List ℕ) → ((k : ℕ) → k < n → length (f k) ≡ record_size) → j < n
    → part (joined (rows n f)) (record_size * j) record_size ≡ f j
joined_at zero j f e h = absurd (not-suc-le-zero h)
joined_at (suc n) zero f e h = take_at (f 0) (joined (rows n (λ k. f (suc k)))) record_size (e 0 (omega arith))
joined_at (suc n) (suc j) f e h =
    let x : record_size * suc j ≡ record_size + record_size * j = omega arith in
    rw (x, ← drop-drop (record_size * j) record_size (f 0 ++ joined (rows n (λ k. f (suc k)))), drop_at (f 0) (joined (rows n (λ k. f (suc k)))) record_size (e 0 (omega arith)))
    (joined_at n j (λ k. f (suc k)) (λ k q. e (suc k) (omega arith)) (omega arith))
