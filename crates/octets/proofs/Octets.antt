-- What is made of n bytes is as many bytes as it has. Assumes nothing.
use Prim.Native.Nat.{ℕ, suc, ◌+◌, ◌≤◌, ◌<◌}
use mathlib.Core.Bool.{Bool, true, false}
use mathlib.Core.List.{List, [], ◌∷◌, ◌++◌}
use mathlib.Core.Path.{◌≡◌, refl, ap, ◌∙◌}
use native.Mathlib.Omega.{arith}
use lib.ListN.{length, length-append, length-replicate}
use Rattle.octets.specs.Bytes.{AreBytes, Octets, zeros, part, field}
use Rattle.octets.specs.Words.{word}
use Rattle.octets.specs.Tests.{flag_byte}
use Rattle.octets.proofs.Parts.{length_part, length-field}
use Rattle.octets.proofs.Ranges.{none-bytes, cons-bytes, append-bytes, zeros-bytes, part_bytes, field-bytes, word_bytes}

pub none_octets : Octets 0 []
none_octets = record { size = refl; each = none-bytes }

pub cons_octets : {x n : ℕ} {s : List ℕ} → x < 256 → Octets n s → Octets (suc n) (x ∷ s)
cons_octets {x} {n} {s} h o = record { size = ap suc o.size; each = cons-bytes x s h o.each }

pub append_octets : {n m : ℕ} {s t : List ℕ} → Octets n s → Octets m t → Octets (n + m) (s ++ t)
append_octets {n} {m} {s} {t} a b =
    let p : length s ≡ n = a.size in
    let q : length t ≡ m = b.size in
    record { size = length-append s t ∙ omega arith; each = append-bytes s t a.each b.each }

pub zeros_octets : (n : ℕ) → Octets n (zeros n)
zeros_octets n = record { size = length-replicate n 0; each = zeros-bytes n }

pub word_octets : (n : ℕ) → n < 65536 → Octets 2 (word n)
word_octets n h = record { size = refl; each = word_bytes n h }

pub byte_octets : {x : ℕ} → x < 256 → Octets 1 (x ∷ [])
byte_octets h = cons_octets h none_octets

-- a flag is a byte
pub flag_below : (b : Bool) → flag_byte b < 256
flag_below true = omega arith
flag_below false = omega arith

pub flag_octets : (b : Bool) → Octets 1 (flag_byte b ∷ [])
flag_octets b = byte_octets (flag_below b)

pub part_octets : (s : List ℕ) (at n : ℕ) → AreBytes s → at + n ≤ length s → Octets n (part s at n)
part_octets s at n f h = record { size = length_part s at n h; each = part_bytes s at n f }

pub field_octets : (s : List ℕ) (at n : ℕ) → AreBytes s → Octets n (field s at n)
field_octets s at n f = record { size = length-field s at n; each = field-bytes s at n f }
