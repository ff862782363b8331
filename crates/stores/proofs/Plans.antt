-- Plans joined and cut, how many stores they have, and where their stores are. Assumes nothing.
use Prim.Native.Nat.{ℕ, zero, suc, ◌+◌, ◌≤◌, ◌<◌}
use mathlib.Core.Path.{◌≡◌, refl, ap, ◌∙◌}
use mathlib.Core.List.{List, [], ◌∷◌, ◌++◌}
use native.Mathlib.Nat.{add-zero, suc-add, add-suc}
use native.Mathlib.Omega.{arith}
use lib.ListN.{length, take, set, length-set}
use lib.Seq.{set_out, take-nil}
use Rattle.octets.specs.Bytes.{AreBytes}
use Rattle.octets.proofs.Ranges.{set-bytes}
use Rattle.stores.specs.Stores.{Store, applied, writes, leaves, OnlyAt}

pub applied-length : (p : List Store) (m : List ℕ) → length (applied p m) ≡ length m
unfolding applied
applied-length [] m = refl
applied-length (s ∷ p) m = applied-length p (set m s.at s.value) ∙ length-set m s.at s.value

pub leaves-length : (p : List Store) (L : ℕ) (m : List ℕ) → length (leaves p L m) ≡ length m
unfolding leaves
leaves-length p L m = applied-length (take L p) m

pub applied-append : (p q : List Store) (m : List ℕ) → applied (p ++ q) m ≡ applied q (applied p m)
unfolding applied
applied-append [] q m = refl
applied-append (s ∷ p) q m = applied-append p q (set m s.at s.value)

pub writes-length : (a : ℕ) (bytes : List ℕ) → length (writes a bytes) ≡ length bytes
unfolding writes
writes-length a [] = refl
writes-length a (b ∷ bytes) = ap suc (writes-length (suc a) bytes)

pub writes-append : (a : ℕ) (bytes more : List ℕ) → writes a (bytes ++ more) ≡ writes a bytes ++ writes (a + length bytes) more
unfolding writes
writes-append a [] more = rw add-zero
writes-append a (b ∷ bytes) more = rw (writes-append (suc a) bytes more, suc-add, add-suc)

pub writes_nothing : (a L : ℕ) (m : List ℕ) → leaves (writes a []) L m ≡ m
unfolding applied writes leaves
writes_nothing a L m = rw (take-nil {A = Store} L)

-- past memory's end nothing changes
pub writes_past : (a : ℕ) (bytes : List ℕ) (L : ℕ) (m : List ℕ) → length m ≤ a → leaves (writes a bytes) L m ≡ m
unfolding applied writes leaves
writes_past a [] L m h = rw (take-nil {A = Store} L)
writes_past a (b ∷ bytes) zero m h = refl
writes_past a (b ∷ bytes) (suc L) m h = rw (set_out m a b h) (writes_past (suc a) bytes L m (omega arith))

-- ---- where the stores are

pub only-append : (P : ℕ → Type 0) (p q : List Store) → OnlyAt P p → OnlyAt P q → OnlyAt P (p ++ q)
only-append P [] q hp hq = hq
only-append P (s ∷ p) q hp hq = (hp.0, only-append P p q hp.1 hq)

pub only-take : (P : ℕ → Type 0) (L : ℕ) (p : List Store) → OnlyAt P p → OnlyAt P (take L p)
only-take P zero p h = tt
only-take P (suc L) [] h = tt
only-take P (suc L) (s ∷ p) h = (h.0, only-take P L p h.1)

pub only-writes : (P : ℕ → Type 0) (a : ℕ) (bytes : List ℕ) → ((i : ℕ) → a ≤ i → i < a + length bytes → P i) → OnlyAt P (writes a bytes)
unfolding writes
only-writes P a [] f = tt
only-writes P a (b ∷ bytes) f = (f a (omega arith) (omega arith), only-writes P (suc a) bytes (λ i h k. f i (omega arith) (omega arith)))

pub only_weaker : (P Q : ℕ → Type 0) (p : List Store) → ((i : ℕ) → P i → Q i) → OnlyAt P p → OnlyAt Q p
only_weaker P Q [] f h = tt
only_weaker P Q (s ∷ p) f h = (f s.at h.0, only_weaker P Q p f h.1)

-- ---- memory of bytes stays so

pub writes_bytes : (a : ℕ) (bytes : List ℕ) (L : ℕ) (m : List ℕ) → AreBytes bytes → AreBytes m → AreBytes (leaves (writes a bytes) L m)
unfolding applied writes leaves
writes_bytes a [] L m f g = rw (take-nil {A = Store} L) g
writes_bytes a (b ∷ bytes) zero m f g = g
writes_bytes a (b ∷ bytes) (suc L) m f g = writes_bytes (suc a) bytes L (set m a b) (λ i. f (suc i)) (set-bytes m a b g (f 0))
