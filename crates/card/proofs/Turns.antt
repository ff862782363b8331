-- What the next nibble says of a test of all, and the nibbles of a block by their places: the turns of the loops. Assumes nothing.
use mathlib.Core.Path.{◌≡◌, refl, sym, ap, ◌∙◌}
use mathlib.Core.Bool.{Bool, true, false, ◌&&◌}
use mathlib.Core.List.{List, [], ◌∷◌}
use Prim.Native.Nat.{ℕ, zero, suc, ◌+◌, ◌-◌, ◌*◌, ◌/◌, ◌%◌}
use native.Mathlib.Omega.{arith}
use lib.Dec.{leb, eqb}
use lib.ListN.{length, get_or, take, drop, length-drop}
use lib.Seq.{take_all, drop-drop}
use Rattle.std.specs.List.{list_all}
use Rattle.card.specs.Pin.{nibbles, between, well_formed}

-- ---- all numbers are from low to high

pub between_all : (low high : ℕ) (l : List ℕ) → between low high l ≡ list_all (λ d. leb low d && leb d high) l
unfolding between
between_all low high [] = refl
between_all low high (d ∷ l) = ap (λ t. leb low d && leb d high && t) (between_all low high l)

-- ---- nibbles

nibbles-length : (b : List ℕ) → length (nibbles b) ≡ 2 * length b
unfolding nibbles
nibbles-length [] = refl
nibbles-length (x ∷ b) = let i = nibbles-length b in omega arith

-- a block has sixteen
pub nibbles_sixteen : (b : List ℕ) → length b ≡ 8 → length (nibbles b) ≡ 16
nibbles_sixteen b e = nibbles-length b ∙ omega arith

pub nibble_high : (b : List ℕ) (i : ℕ) → get_or (nibbles b) (2 * i) 0 ≡ get_or b i 0 / 16
unfolding nibbles
nibble_high [] i = refl
nibble_high (x ∷ b) zero = refl
nibble_high (x ∷ b) (suc i) =
    let e : 2 * suc i ≡ suc (suc (2 * i)) = omega arith in
    rw e (nibble_high b i)

pub nibble_low : (b : List ℕ) (i : ℕ) → get_or (nibbles b) (2 * i + 1) 0 ≡ get_or b i 0 % 16
unfolding nibbles
nibble_low [] i = refl
nibble_low (x ∷ b) zero = refl
nibble_low (x ∷ b) (suc i) =
    let e : 2 * suc i + 1 ≡ suc (suc (2 * i + 1)) = omega arith in
    rw e (nibble_low b i)

-- ---- a PIN block

-- its digits, and what follows them, as slices of its sixteen nibbles
pub formed_by : (block l : List ℕ) → l ≡ nibbles block → length l ≡ 16
    → let n = get_or l 1 0 in
    well_formed block
    ≡ (eqb (get_or l 0 0) 2 && (leb 4 n && (leb n 12 && (between 0 9 (take (n + 2 - 2) (drop 2 l)) && between 15 15 (take (16 - (n + 2)) (drop (n + 2) l))))))
unfolding well_formed
formed_by block l e h =
    let n = get_or l 1 0 in
    let k : n + 2 - 2 ≡ n = omega arith in
    let j : 2 + n ≡ n + 2 = omega arith in
    let v : take (16 - (n + 2)) (drop (n + 2) l) ≡ drop n (drop 2 l) =
    take_all (16 - (n + 2)) (drop (n + 2) l) (rw length-drop (omega arith)) ∙ ap (λ (t : ℕ). drop t l) (sym j) ∙ sym (drop-drop n 2 l)
    in
    rw (← e, v, k, and_true (between 15 15 (drop n (drop 2 l))))
  where
    and_true : (b : Bool) → (b && true) ≡ b
    and_true true = refl
    and_true false = refl
