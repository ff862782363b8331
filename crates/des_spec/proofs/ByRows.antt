-- A permutation row by row: the eight rows are the permutation, each row holds the bits that its line lists, in order, and the initial
-- permutation and its inverse undo each other on blocks of bytes. Assumes nothing.
use Prim.Native.Nat.{ℕ, zero, suc, ◌+◌, ◌-◌, ◌*◌, ◌/◌, ◌%◌, ◌^◌, ◌<◌, ◌≤◌}
use mathlib.Core.Path.{◌≡◌, refl, sym, ap, ap₂, ◌∙◌}
use mathlib.Core.List.{List, [], ◌∷◌, map}
use native.Mathlib.Omega.{arith}
use lib.ListN.{length, get_or, take, drop}
use lib.Seq.{ext_get_or}
use lib.Dec.{eqb, eqb→eq}
use Rattle.des_spec.specs.Bits.{Bits, Bytes, Names, number, bits_of, bytes_of}
use Rattle.des_spec.specs.Tables.{IP, IP⁻¹}
use Rattle.des_spec.specs.Des.{permute, rounds, crypt, block_under}
use Rattle.des_spec.specs.Rows.{line, row, by_rows}
use Rattle.des_spec.proofs.Tests.{at}
use Rattle.des_spec.proofs.Lists.{get_d_map, length_part, get_d_part}
use Rattle.des_spec.proofs.Lengths.{length-permute, length-bytes_of, length-bits_of}
use Rattle.des_spec.proofs.Elements.{get_or-bits_of, get_or-bytes_of, get_or-permute}
use Rattle.des_spec.proofs.Ranges.{bits-permute, bits-bits_of, bytes-bytes_of}
use Rattle.des_spec.proofs.Binary.{bits_of_bytes, bytes_of_bits}
use Rattle.des_spec.proofs.Permutations.{names, initial_undoes_inverse, inverse_undoes_initial}

-- a part of what a table makes is what that part of the table makes
permute-take : (n : ℕ) (t x : List ℕ) → permute (take n t) x ≡ take n (permute t x)
unfolding permute
permute-take zero t x = refl
permute-take (suc n) [] x = refl
permute-take (suc n) (i ∷ t) x = ap (λ (l : List ℕ). get_or x (i - 1) 0 ∷ l) (permute-take n t x)

permute-drop : (n : ℕ) (t x : List ℕ) → permute (drop n t) x ≡ drop n (permute t x)
unfolding permute
permute-drop zero t x = refl
permute-drop (suc n) [] x = refl
permute-drop (suc n) (i ∷ t) x = permute-drop n t x

-- line r has eight entries, those of the table from place 8 * r on
pub length-line : (t : List ℕ) (r : ℕ) → length t ≡ 64 → r < 8 → length (line t r) ≡ 8
unfolding line
length-line t r e h = length_part t (8 * r) 8 (omega arith)

pub names_line : (t : List ℕ) (r n : ℕ) → length t ≡ 64 → r < 8 → Names t n → Names (line t r) n
unfolding line
names_line t r n e h p =
    let entry : (k : ℕ) → k < length (line t r) → (get_or (line t r) k 0 ≡ get_or t (8 * r + k) 0) × (8 * r + k < length t) =
    λ k l. let g : k < 8 = omega (arith, length-line t r e h) in (get_d_part t (8 * r) 8 k g, omega arith) in
    record {
      least = λ k l. rw (entry k l).0 (p.least (8 * r + k) (entry k l).1);
      most = λ k l. rw (entry k l).0 (p.most (8 * r + k) (entry k l).1);
    }

-- row r is the byte that the permutation has at place r
row_byte : (t x : List ℕ) (r : ℕ) → r < 8 → row t r x ≡ get_or (bytes_of 8 (permute t x)) r 0
unfolding row line
row_byte t x r h =
    ap number (permute-take 8 (drop (8 * r) t) x ∙ ap (take 8) (permute-drop (8 * r) t x)) ∙ sym (get_or-bytes_of 8 (permute t x) r h)

-- the permutation is its eight rows put together
pub rows-together : (t x : List ℕ) → by_rows t x ≡ bytes_of 8 (permute t x)
unfolding by_rows
rows-together t x =
    let places : List ℕ = 0 ∷ 1 ∷ 2 ∷ 3 ∷ 4 ∷ 5 ∷ 6 ∷ 7 ∷ [] in
    let y = bytes_of 8 (permute t x) in
    ext_get_or 0 (map (λ r. row t r x) places) y (sym (length-bytes_of 8 (permute t x)))
    λ r h.
    get_d_map (λ r. row t r x) places r 0 0 h
    ∙ ap (λ (k : ℕ). row t k x) (eqb→eq (get_or places r 0) r (at (λ i k. eqb k i) places tt r h))
    ∙ row_byte t x r h

pub length-rows : (t x : List ℕ) → length (by_rows t x) ≡ 8
length-rows t x = ap length (rows-together t x) ∙ length-bytes_of 8 (permute t x)

pub get_d_rows : (t x : List ℕ) (r : ℕ) → r < 8 → get_or (by_rows t x) r 0 ≡ row t r x
get_d_rows t x r h = ap (λ (l : List ℕ). get_or l r 0) (rows-together t x) ∙ sym (row_byte t x r h)

-- and its bits are those of the rows
pub bits_of_rows : (t x : List ℕ) → length t ≡ 64 → Bits x → bits_of (by_rows t x) ≡ permute t x
bits_of_rows t x e b =
    ap bits_of (rows-together t x) ∙ bits_of_bytes 8 (permute t x) (bits-permute t x b) (length-permute t x ∙ omega arith)

-- ---- what each row holds, in numbers
-- bit j of a byte, counted from 0, the highest first
abbrev pub byte_bit : ℕ → ℕ → ℕ
byte_bit v j = v / 2 ^ (7 - j) % 2

-- bit k of a block of bytes, counted from 1 from the left, as FIPS 46-3 counts
abbrev pub block_bit : List ℕ → ℕ → ℕ
block_bit block k = byte_bit (get_or block ((k - 1) / 8) 0) ((k - 1) % 8)

-- which bit of each byte the rows of the initial permutation have, counted from 1
abbrev pub columns : List ℕ
columns = 2 ∷ 4 ∷ 6 ∷ 8 ∷ 1 ∷ 3 ∷ 5 ∷ 7 ∷ []

-- entry j of line r names that bit of the last byte but j
initial_entry : (m : ℕ) → m < 64 → get_or IP m 0 ≡ 8 * (7 - m % 8) + get_or columns (m / 8) 0
unfolding IP
initial_entry m h = eqb→eq _ _ (at (λ i k. eqb k (8 * (7 - i % 8) + get_or columns (i / 8) 0)) IP tt m h)

column_of : (r : ℕ) → r < 8 → (1 ≤ get_or columns r 0) × (get_or columns r 0 ≤ 8)
column_of r h =
    let n = names 8 8 columns tt (omega arith) in
    (n.least r h, n.most r h)

-- v is a byte, and its bits are those of a block of bits that line r of a table lists, in that order, the first one highest
pub record Holds (t x : List ℕ) (r v : ℕ) : Type 0 where
  pub byte : v < 256
  pub bit : (j : ℕ) → j < 8 → byte_bit v j ≡ get_or x (get_or t (8 * r + j) 0 - 1) 0

pub rows_hold : (t x : List ℕ) → length t ≡ 64 → Bits x → (r : ℕ) → r < 8 → Holds t x r (get_or (by_rows t x) r 0)
rows_hold t x e b r h =
    record {
      byte = rw (rows-together t x) ((bytes-bytes_of 8 (permute t x) (bits-permute t x b)).at r);
      bit = λ j g.
          let z = by_rows t x in
          let m = 8 * r + j in
          let p : m / 8 ≡ r = omega arith in
          let q : m % 8 ≡ j = omega arith in
          ap₂ (λ (v w : ℕ). byte_bit (get_or z v 0) w) (sym p) (sym q)
          ∙ sym (get_or-bits_of z m (omega (arith, length-rows t x)))
          ∙ ap (λ (y : List ℕ). get_or y m 0) (bits_of_rows t x e b)
          ∙ get_or-permute t x m (omega arith);
    }

-- ---- blocks of bytes
module _ (block : List ℕ) (f : length block ≡ 8) (r j : ℕ) (h : r < 8) (g : j < 8) where
  bytes_hold : (t : List ℕ) → length t ≡ 64 → Names t 64
      → byte_bit (get_or (by_rows t (bits_of block)) r 0) j ≡ block_bit block (get_or t (8 * r + j) 0)
  bytes_hold t e n =
      let m = 8 * r + j in
      let a : get_or t m 0 - 1 < 64 = omega (arith, n.least m (omega arith), n.most m (omega arith)) in
      (rows_hold t (bits_of block) e (bits-bits_of block) r h).bit j g ∙ get_or-bits_of block (get_or t m 0 - 1) (omega arith)

  pub initial_rows : byte_bit (get_or (by_rows IP (bits_of block)) r 0) j ≡ block_bit block (get_or IP (8 * r + j) 0)
  unfolding IP
  initial_rows = bytes_hold IP refl (names 64 64 IP tt (omega arith))

  -- and in other words than the table: the row has one bit of each byte, the last byte's first
  pub initial_columns : byte_bit (get_or (by_rows IP (bits_of block)) r 0) j ≡ byte_bit (get_or block (7 - j) 0) (get_or columns r 0 - 1)
  initial_columns =
      let m = 8 * r + j in
      let k = get_or IP m 0 in
      let c = get_or columns r 0 in
      let a : m % 8 ≡ j = omega arith in
      let b : m / 8 ≡ r = omega arith in
      let e : k ≡ 8 * (7 - j) + c = initial_entry m (omega arith) ∙ ap₂ (λ (u v : ℕ). 8 * (7 - u) + get_or columns v 0) a b in
      let p : (k - 1) / 8 ≡ 7 - j = omega (arith, e, (column_of r h).0, (column_of r h).1) in
      let q : (k - 1) % 8 ≡ c - 1 = omega (arith, e, (column_of r h).0, (column_of r h).1) in
      initial_rows ∙ ap₂ (λ (u v : ℕ). byte_bit (get_or block u 0) v) p q

  pub inverse_rows : byte_bit (get_or (by_rows IP⁻¹ (bits_of block)) r 0) j ≡ block_bit block (get_or IP⁻¹ (8 * r + j) 0)
  unfolding IP⁻¹
  inverse_rows = bytes_hold IP⁻¹ refl (names 64 64 IP⁻¹ tt (omega arith))

module _ (block : List ℕ) (f : length block ≡ 8) (b : Bytes block) where
  -- where one table undoes another on 64 bits, its rows undo the other's
  rows_undone : (t u : List ℕ) → length u ≡ 64 → ((x : List ℕ) → length x ≡ 64 → permute t (permute u x) ≡ x)
      → by_rows t (bits_of (by_rows u (bits_of block))) ≡ block
  rows_undone t u e undo =
      let x = bits_of block in
      ap (by_rows t) (bits_of_rows u x e (bits-bits_of block))
      ∙ rows-together t (permute u x)
      ∙ ap (bytes_of 8) (undo x (length-bits_of block ∙ omega arith))
      ∙ ap (λ (n : ℕ). bytes_of n x) (sym f)
      ∙ bytes_of_bits block b

  pub initial_then_inverse : by_rows IP⁻¹ (bits_of (by_rows IP (bits_of block))) ≡ block
  initial_then_inverse = rows_undone IP⁻¹ IP (unfold IP in refl) inverse_undoes_initial

  pub inverse_then_initial : by_rows IP (bits_of (by_rows IP⁻¹ (bits_of block))) ≡ block
  inverse_then_initial = rows_undone IP IP⁻¹ (unfold IP⁻¹ in refl) initial_undoes_inverse

-- ---- a block under round keys, its first and its last permutation by rows
pub block_by_rows : (ks : List (List ℕ)) (block : List ℕ)
    → let x = bits_of (by_rows IP (bits_of block)) in block_under ks block ≡ by_rows IP⁻¹ (rounds ks (take 32 x) (drop 32 x))
unfolding block_under crypt
block_by_rows ks block =
    let b = bits_of block in
    let e : bits_of (by_rows IP b) ≡ permute IP b = bits_of_rows IP b (unfold IP in refl) (bits-bits_of block) in
    sym (ap (λ (x : List ℕ). by_rows IP⁻¹ (rounds ks (take 32 x) (drop 32 x))) e ∙ rows-together IP⁻¹ _)
