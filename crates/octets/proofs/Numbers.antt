-- Numbers of two bytes: written and read, read and written, and where they lie. Assumes nothing.
use Prim.Native.Nat.{ℕ, ◌+◌, ◌/◌, ◌%◌, ◌≤◌, ◌<◌}
use mathlib.Core.Path.{◌≡◌}
use mathlib.Core.List.{List, ◌++◌}
use native.Mathlib.Omega.{arith}
use native.Mathlib.Nat.{div-add-mod', add-zero, add_assoc}
use lib.ListN.{length}
use lib.Seq.{get_or-append-add}
use Rattle.octets.specs.Bytes.{AreBytes, byte_at, part}
use Rattle.octets.specs.Words.{word, word_of, word_at}
use Rattle.octets.proofs.Parts.{part_at}

-- written and read
pub word_read : (n : ℕ) → word_of (n / 256) (n % 256) ≡ n
word_read n = div-add-mod' n 256

pub word-between : (p : List ℕ) (n : ℕ) (t : List ℕ) (at : ℕ) → length p ≡ at → word_at (p ++ (word n ++ t)) at ≡ n
word-between p n t at e =
    let s = p ++ (word n ++ t) in
    let a : byte_at s at ≡ n / 256 = rw (← e, ← add-zero (length p)) (get_or-append-add p (word n ++ t) 0 0) in
    let b : byte_at s (at + 1) ≡ n % 256 = rw (← e) (get_or-append-add p (word n ++ t) 1 0) in
    rw (a, b) (word_read n)

-- a number in a part or a field
pub word_in_part : (s : List ℕ) (at n i : ℕ) → i + 2 ≤ n → word_at (part s at n) i ≡ word_at s (at + i)
word_in_part s at n i h =
    rw (part_at s at n i (omega arith), part_at s at n (i + 1) (omega arith), add_assoc)

-- the range
pub word_below : (high low : ℕ) → high < 256 → low < 256 → word_of high low < 65536
word_below high low h l = omega arith

pub word-at_below : (s : List ℕ) (at : ℕ) → AreBytes s → word_at s at < 65536
word-at_below s at f = word_below (byte_at s at) (byte_at s (at + 1)) (f at) (f (at + 1))
