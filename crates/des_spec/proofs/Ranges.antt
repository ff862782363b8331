-- The lists of bits hold bits, and the lists of bytes bytes. Assumes nothing.
use Prim.Native.Nat.{ℕ, zero, suc, ◌+◌, ◌-◌, ◌%◌, ◌^◌, ◌<◌, ◌≤◌}
use mathlib.Core.Bool.{Bool}
use mathlib.Core.List.{List, [], ◌∷◌}
use native.Mathlib.Nat.{lt_of_lt_of_le, min-le_left, pow-succ'}
use native.Mathlib.Omega.{arith}
use lib.ListN.{length, get_or, take, drop, length-take}
use lib.Dec.{lit<}
use lib.Arith.{digits_lt}
use lib.Bits.{bit_xor, xor_lt}
use lib.Pow.{pow_mono}
use Rattle.des_spec.specs.Bits.{Bits, Bytes, binary, number, binaries, parts, bits_of, bytes_of, xor, xor_bytes}
use Rattle.des_spec.specs.Tables.{IP, IP⁻¹}
use Rattle.des_spec.specs.Des.{permute, cipher, rounds, crypt, round_keys, block_under, des}
use Rattle.des_spec.specs.Modes.{triple_des}
use Rattle.des_spec.proofs.Lists.{below_zip_with, below_cons, below_head, below_tail, below_append, below_drop, below_take}

pub bits-binary : (n v : ℕ) → Bits (binary n v)
unfolding binary
bits-binary zero v = record { at = λ k. lit< tt }
bits-binary (suc n) v = below_cons (omega arith) (bits-binary n v)

pub bits-binaries : (n : ℕ) (vs : List ℕ) → Bits (binaries n vs)
unfolding binaries
bits-binaries n [] = record { at = λ k. lit< tt }
bits-binaries n (v ∷ vs) = below_append (binary n v) (bits-binary n v) (bits-binaries n vs)

pub bits-bits_of : (l : List ℕ) → Bits (bits_of l)
unfolding bits_of
bits-bits_of l = bits-binaries 8 l

pub bits-xor : (a b : List ℕ) → Bits (xor a b)
unfolding xor
bits-xor a b = below_zip_with (λ (x y : ℕ). (x + y) % 2) a b (lit< tt) (λ k. omega arith)

pub bits-permute : (t l : List ℕ) → Bits l → Bits (permute t l)
unfolding permute
bits-permute [] l b = record { at = λ k. lit< tt }
bits-permute (x ∷ t) l b = below_cons (b.at (x - 1)) (bits-permute t l b)

pub bits-rounds : (ks : List (List ℕ)) (l r : List ℕ) → Bits l → Bits r → Bits (rounds ks l r)
unfolding rounds
bits-rounds [] l r a b = below_append r b a
bits-rounds (k ∷ ks) l r a b = bits-rounds ks r (xor l (cipher r k)) b (bits-xor l (cipher r k))

pub bits-crypt : (ks : List (List ℕ)) (x : List ℕ) → Bits x → Bits (crypt ks x)
unfolding crypt
bits-crypt ks x b =
    let y = permute IP x in
    let f : Bits y = bits-permute IP x b in
    bits-permute IP⁻¹ _ (bits-rounds ks (take 32 y) (drop 32 y) (below_take 32 y f) (below_drop 32 f))

-- n bits say a number below 2 ^ n
pub number_lt : (l : List ℕ) → Bits l → number l < 2 ^ length l
unfolding number
number_lt [] b = lit< tt
number_lt (x ∷ l) b = rw (pow-succ' 2 (length l)) (digits_lt (below_head b) (number_lt l (below_tail b)))

pub bytes-bytes_of : (n : ℕ) (l : List ℕ) → Bits l → Bytes (bytes_of n l)
unfolding bytes_of parts
bytes-bytes_of zero l b = record { at = λ k. lit< tt }
bytes-bytes_of (suc n) l b =
    let e : length (take 8 l) ≤ 8 = simp length-take (min-le_left 8 (length l)) in
    below_cons (lt_of_lt_of_le (number_lt (take 8 l) (below_take 8 l b)) (pow_mono e)) (bytes-bytes_of n (drop 8 l) (below_drop 8 b))

pub bytes-xor_bytes : (a b : List ℕ) → Bytes a → Bytes b → Bytes (xor_bytes a b)
unfolding xor_bytes
bytes-xor_bytes a b f g = below_zip_with bit_xor a b (lit< tt) (λ k. xor_lt 8 (get_or a k 0) (get_or b k 0) (f.at k) (g.at k))

pub bytes-block_under : (ks : List (List ℕ)) (block : List ℕ) → Bytes (block_under ks block)
unfolding block_under
bytes-block_under ks block = bytes-bytes_of 8 _ (bits-crypt ks (bits_of block) (bits-bits_of block))

pub bytes-des : (d : Bool) (key block : List ℕ) → Bytes (des d key block)
unfolding des
bytes-des d key block = bytes-block_under (round_keys d key) block

pub bytes-triple_des : (d : Bool) (key block : List ℕ) → Bytes (triple_des d key block)
unfolding triple_des
bytes-triple_des d key block = bytes-des d (take 8 key) _
