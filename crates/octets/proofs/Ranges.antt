-- What is made of bytes has bytes. Assumes nothing.
use Prim.Native.Nat.{ℕ, zero, suc, ◌+◌, ◌/◌, ◌%◌, ◌<◌}
use mathlib.Core.List.{List, [], ◌∷◌, ◌++◌}
use native.Mathlib.Omega.{arith}
use lib.ListN.{set, take, drop}
use lib.Seq.{get_or-drop}
use Rattle.octets.specs.Bytes.{AreBytes, zeros, part, field}
use Rattle.octets.specs.Words.{word}

pub none-bytes : AreBytes []
none-bytes i = omega arith

pub cons-bytes : (x : ℕ) (s : List ℕ) → x < 256 → AreBytes s → AreBytes (x ∷ s)
cons-bytes x s h f zero = h
cons-bytes x s h f (suc i) = f i

pub append-bytes : (s t : List ℕ) → AreBytes s → AreBytes t → AreBytes (s ++ t)
append-bytes [] t f g i = g i
append-bytes (x ∷ s) t f g zero = f zero
append-bytes (x ∷ s) t f g (suc i) = append-bytes s t (λ j. f (suc j)) g i

pub zeros-bytes : (n : ℕ) → AreBytes (zeros n)
zeros-bytes zero i = omega arith
zeros-bytes (suc n) zero = omega arith
zeros-bytes (suc n) (suc i) = zeros-bytes n i

pub take-bytes : (n : ℕ) (s : List ℕ) → AreBytes s → AreBytes (take n s)
take-bytes zero s f i = omega arith
take-bytes (suc n) [] f i = omega arith
take-bytes (suc n) (x ∷ s) f zero = f zero
take-bytes (suc n) (x ∷ s) f (suc i) = take-bytes n s (λ j. f (suc j)) i

pub drop-bytes : (n : ℕ) (s : List ℕ) → AreBytes s → AreBytes (drop n s)
drop-bytes n s f i = rw (get_or-drop n s i 0) (f (n + i))

pub set-bytes : (s : List ℕ) (at x : ℕ) → AreBytes s → x < 256 → AreBytes (set s at x)
set-bytes [] at x f h i = f i
set-bytes (y ∷ s) zero x f h zero = h
set-bytes (y ∷ s) zero x f h (suc i) = f (suc i)
set-bytes (y ∷ s) (suc at) x f h zero = f zero
set-bytes (y ∷ s) (suc at) x f h (suc i) = set-bytes s at x (λ j. f (suc j)) h i

pub part_bytes : (s : List ℕ) (at n : ℕ) → AreBytes s → AreBytes (part s at n)
part_bytes s at n f = take-bytes n (drop at s) (drop-bytes at s f)

pub field-bytes : (s : List ℕ) (at n : ℕ) → AreBytes s → AreBytes (field s at n)
unfolding field
field-bytes s at n f = take-bytes n (drop at s ++ zeros n) (append-bytes (drop at s) (zeros n) (drop-bytes at s f) (zeros-bytes n))

pub word_bytes : (n : ℕ) → n < 65536 → AreBytes (word n)
word_bytes n h = cons-bytes (n / 256) (n % 256 ∷ []) (omega arith) (cons-bytes (n % 256) [] (omega arith) none-bytes)
