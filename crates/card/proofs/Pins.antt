-- The PIN block of document 01 made of its digits: every such block is well formed, and no other. Assumes nothing.
use mathlib.Core.Bool.{true, ◌&&◌}
use mathlib.Core.List.{List, [], ◌∷◌, ◌++◌}
use mathlib.Core.Path.{◌≡◌, refl, sym, ap, ◌∙◌}
use Prim.Native.Nat.{ℕ, zero, suc, ◌+◌, ◌-◌, ◌*◌, ◌/◌, ◌%◌, ◌≤◌}
use native.Mathlib.Omega.{arith}
use borrow.Author.Tests.{le-leb, leb-true, eqb-true}
use lib.Dec.{leb, eqb}
use lib.ListN.{length, get_or, take, drop, replicate, length-append, length-replicate, length-drop, take-append-drop}
use lib.Seq.{length-take-le, take_at, drop_at}
use Rattle.octets.specs.Bytes.{Octets}
use Rattle.octets.specs.Tests.{all_true}
use Rattle.octets.proofs.Conditions.{each, and_both}
use Rattle.octets.proofs.Ranges.{none-bytes, cons-bytes}
use Rattle.card.specs.Pin.{nibbles, between, well_formed, paired, block_of, Digits}

-- ---- nibbles and bytes

-- an even number of nibbles, back from their bytes
nibbles-paired : (k : ℕ) (l : List ℕ) → length l ≡ 2 * k → ((i : ℕ) → get_or l i 0 ≤ 15) → nibbles (paired l) ≡ l
unfolding nibbles paired
nibbles-paired zero [] e f = refl
nibbles-paired zero (x ∷ l) e f = absurd (omega arith)
nibbles-paired (suc k) [] e f = absurd (omega arith)
nibbles-paired (suc k) (x ∷ []) e f = absurd (omega arith)
nibbles-paired (suc k) (x ∷ y ∷ l) e f =
    let a : y ≤ 15 = f 1 in
    let p : (x * 16 + y) / 16 ≡ x = omega arith in
    let q : (x * 16 + y) % 16 ≡ y = omega arith in
    rw (p, q, nibbles-paired k l (omega arith) (λ i. f (suc (suc i))))

-- they make half as many bytes
paired-bytes : (k : ℕ) (l : List ℕ) → length l ≡ 2 * k → ((i : ℕ) → get_or l i 0 ≤ 15) → Octets k (paired l)
unfolding paired
paired-bytes zero [] e f = record { size = refl; each = none-bytes }
paired-bytes zero (x ∷ l) e f = absurd (omega arith)
paired-bytes (suc k) [] e f = absurd (omega arith)
paired-bytes (suc k) (x ∷ []) e f = absurd (omega arith)
paired-bytes (suc k) (x ∷ y ∷ l) e f =
    let r = paired-bytes k l (omega arith) (λ i. f (suc (suc i))) in
    let a : x ≤ 15 = f 0 in
    let b : y ≤ 15 = f 1 in
    record { size = ap suc r.size; each = cons-bytes (x * 16 + y) (paired l) (omega arith) r.each }

-- bytes, back from their nibbles
paired-nibbles : (b : List ℕ) → paired (nibbles b) ≡ b
unfolding nibbles paired
paired-nibbles [] = refl
paired-nibbles (x ∷ b) =
    let p : x / 16 * 16 + x % 16 ≡ x = omega arith in
    rw (p, paired-nibbles b)

length-nibbles : (b : List ℕ) → length (nibbles b) ≡ 2 * length b
unfolding nibbles
length-nibbles [] = refl
length-nibbles (x ∷ b) = omega (arith, length-nibbles b)

-- ---- ranges

between-each : (high : ℕ) (l : List ℕ) → ((i : ℕ) → get_or l i 0 ≤ high) → between 0 high l ≡ true
unfolding between
between-each high [] f = refl
between-each high (x ∷ l) f = rw (le-leb 0 x (omega arith), le-leb x high (f 0), between-each high l (λ i. f (suc i)))

-- what bounds the elements of two lists bounds those of both together
most-append : (m : ℕ) (a b : List ℕ) → ((i : ℕ) → get_or a i 0 ≤ m) → ((i : ℕ) → get_or b i 0 ≤ m) → (i : ℕ) → get_or (a ++ b) i 0 ≤ m
most-append m [] b f g i = g i
most-append m (x ∷ a) b f g zero = f 0
most-append m (x ∷ a) b f g (suc i) = most-append m a b (λ j. f (suc j)) g i

most-replicate : (m k : ℕ) (i : ℕ) → get_or (replicate k m) i 0 ≤ m
most-replicate m zero i = omega arith
most-replicate m (suc k) zero = omega arith
most-replicate m (suc k) (suc i) = most-replicate m k i

most-nibbles : (n : ℕ) (l : List ℕ) → n ≤ 15 → ((i : ℕ) → get_or l i 0 ≤ 15) → (i : ℕ) → get_or (2 ∷ n ∷ l) i 0 ≤ 15
most-nibbles n l h f zero = omega arith
most-nibbles n l h f (suc zero) = h
most-nibbles n l h f (suc (suc i)) = f i

-- a list between two equal bounds repeats one number
between-same : (m : ℕ) (l : List ℕ) → between m m l ≡ true → l ≡ replicate (length l) m
unfolding between
between-same m [] e = refl
between-same m (x ∷ l) e =
    let a = and_both (leb m x && leb x m) (between m m l) e in
    let b = and_both (leb m x) (leb x m) a.0 in
    let p : x ≡ m = omega (arith, leb-true m x b.0, leb-true x m b.1) in
    rw (p, ← between-same m l a.1)

between-most : (high : ℕ) (l : List ℕ) → between 0 high l ≡ true → (i : ℕ) → get_or l i 0 ≤ high
unfolding between
between-most high [] e i = omega arith
between-most high (x ∷ l) e zero = leb-true x high (and_both (leb 0 x) (leb x high) (and_both (leb 0 x && leb x high) (between 0 high l) e).0).1
between-most high (x ∷ l) e (suc i) = between-most high l (and_both (leb 0 x && leb x high) (between 0 high l) e).1 i

between_repeat : (m k : ℕ) → between m m (replicate k m) ≡ true
unfolding between
between_repeat m zero = refl
between_repeat m (suc k) = rw (le-leb m m (omega arith), between_repeat m k)

-- ---- the two directions

-- the sixteen nibbles of a PIN's block
module _ (digits : List ℕ) (d : Digits digits) where
  abbrev n : ℕ
  n = length digits

  abbrev fill : List ℕ
  fill = replicate (14 - n) 0xF

  abbrev sixteen : List ℕ
  sixteen = 2 ∷ n ∷ digits ++ fill

  sixteen_long : length sixteen ≡ 2 * 8
  sixteen_long = omega (arith, length-append digits fill, length-replicate {A = ℕ} (14 - n) 0xF, d.least, d.most)

  sixteen_most : (i : ℕ) → get_or sixteen i 0 ≤ 15
  sixteen_most =
      most-nibbles n (digits ++ fill) (omega (arith, d.most)) (most-append 15 digits fill (λ i. omega (arith, d.each i)) (most-replicate 15 (14 - n)))

  -- it has eight bytes
  pub block-bytes : Octets 8 (block_of digits)
  unfolding block_of
  block-bytes = paired-bytes 8 sixteen sixteen_long sixteen_most

  -- and is well formed
  pub block_formed : well_formed (block_of digits) ≡ true
  unfolding well_formed block_of
  block_formed =
      rw (
        nibbles-paired 8 sixteen sixteen_long sixteen_most,
        take_at digits fill n refl,
        drop_at digits fill n refl,
        le-leb 4 n d.least,
        le-leb n 12 d.most,
        between-each 9 digits d.each,
        between_repeat 0xF (14 - n),
      )

-- sixteen nibbles that pass the tests are 2, the number of digits, the digits, and F
formed_nibbles : (l : List ℕ) → length l ≡ 16
    → let n = get_or l 1 0 in
    let digits = take n (drop 2 l) in
    all_true (eqb (get_or l 0 0) 2 ∷ leb 4 n ∷ leb n 12 ∷ between 0 9 digits ∷ between 0xF 0xF (drop n (drop 2 l)) ∷ []) ≡ true
    → Digits digits × (l ≡ 2 ∷ length digits ∷ digits ++ replicate (14 - length digits) 0xF)
formed_nibbles [] s e = absurd (omega arith)
formed_nibbles (x ∷ []) s e = absurd (omega arith)
formed_nibbles (x ∷ n ∷ r) s e =
    let t = each (eqb x 2 ∷ leb 4 n ∷ leb n 12 ∷ between 0 9 (take n r) ∷ between 0xF 0xF (drop n r) ∷ []) e in
    let a = eqb-true x 2 t.0 in
    let b = leb-true 4 n t.1.0 in
    let d = leb-true n 12 t.1.1.0 in
    let z : length (take n r) ≡ n = length-take-le n r (omega arith) in
    let k : length (drop n r) ≡ 14 - n = omega (arith, length-drop n r) in
    let f : drop n r ≡ replicate (14 - n) 0xF = between-same 0xF (drop n r) t.1.1.1.1.0 ∙ ap (λ (m : ℕ). replicate m 0xF) k in (
      record { least = omega arith; most = omega arith; each = between-most 9 (take n r) t.1.1.1.0 },
      rw (a, z, ← f, take-append-drop n r),
    )

-- and every well-formed block is the block of its digits
pub formed_block : (block : List ℕ) → length block ≡ 8 → well_formed block ≡ true
    → let digits = take (get_or (nibbles block) 1 0) (drop 2 (nibbles block)) in
    Digits digits × (block ≡ block_of digits)
unfolding well_formed block_of
formed_block block size e =
    let f = formed_nibbles (nibbles block) (omega (arith, length-nibbles block)) e in
    (f.0, sym (paired-nibbles block) ∙ ap paired f.1)
