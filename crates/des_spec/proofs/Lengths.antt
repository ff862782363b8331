-- How long each list of the definitions is. Assumes nothing.
use Prim.Native.Nat.{ℕ, zero, suc, ◌+◌, ◌-◌, ◌*◌, ◌%◌, ◌≤◌}
use mathlib.Core.Path.{◌≡◌, refl, sym, ap, ◌∙◌}
use mathlib.Core.Bool.{Bool, true, false}
use mathlib.Core.List.{List, [], ◌∷◌}
use native.Mathlib.Nat.{mul-suc, mul-zero, add_comm}
use native.Mathlib.Omega.{arith}
use lib.ListN.{length, get_or, take, drop, length-map, length-append, length-take, length-drop, length-reverse}
use lib.Bits.{bit_xor}
use Rattle.des_spec.specs.Bits.{binary, number, binaries, parts, bits_of, bytes_of, xor, xor_bytes}
use Rattle.des_spec.specs.Tables.{IP⁻¹, P, shifts}
use Rattle.des_spec.specs.Des.{permute, selects, cipher, rotate, shift_halves, keys_from, schedule, rounds, crypt, order, round_keys, block_under, des}
use Rattle.des_spec.specs.Modes.{triple_des}
use Rattle.des_spec.proofs.Lists.{length-zip_with}

pub length-binary : (n v : ℕ) → length (binary n v) ≡ n
unfolding binary
length-binary zero v = refl
length-binary (suc n) v = ap suc (length-binary n v)

pub length-binaries : (n : ℕ) (vs : List ℕ) → length (binaries n vs) ≡ n * length vs
unfolding binaries
length-binaries n [] = sym (mul-zero n)
length-binaries n (v ∷ vs) =
    length-append (binary n v) (binaries n vs)
    ∙ ap (λ (m : ℕ). m + length (binaries n vs)) (length-binary n v)
    ∙ ap (λ (m : ℕ). n + m) (length-binaries n vs)
    ∙ add_comm n (n * length vs)
    ∙ sym (mul-suc n (length vs))

pub length-parts : (n w : ℕ) (l : List ℕ) → length (parts n w l) ≡ n
unfolding parts
length-parts zero w l = refl
length-parts (suc n) w l = ap suc (length-parts n w (drop w l))

pub length-bits_of : (l : List ℕ) → length (bits_of l) ≡ 8 * length l
unfolding bits_of
length-bits_of l = length-binaries 8 l

pub length-bytes_of : (n : ℕ) (l : List ℕ) → length (bytes_of n l) ≡ n
unfolding bytes_of
length-bytes_of n l = length-map (parts n 8 l) number ∙ length-parts n 8 l

pub length-xor : (a b : List ℕ) → length a ≤ length b → length (xor a b) ≡ length a
unfolding xor
length-xor a b h = length-zip_with (λ (x y : ℕ). (x + y) % 2) a b h

pub length-xor_bytes : (a b : List ℕ) → length a ≤ length b → length (xor_bytes a b) ≡ length a
unfolding xor_bytes
length-xor_bytes a b h = length-zip_with bit_xor a b h

pub length-permute : (t l : List ℕ) → length (permute t l) ≡ length t
unfolding permute
length-permute t l = length-map t (λ (i : ℕ). get_or l (i - 1) 0)

pub length-selects : (boxes : List (List (List ℕ))) (l : List ℕ) → length (selects boxes l) ≡ length boxes
unfolding selects
length-selects [] l = refl
length-selects (b ∷ boxes) l = ap suc (length-selects boxes (drop 6 l))

pub length-cipher : (r k : List ℕ) → length (cipher r k) ≡ 32
unfolding cipher P
length-cipher r k = length-permute P _

pub length-rotate : (n : ℕ) (l : List ℕ) → n ≤ length l → length (rotate n l) ≡ length l
unfolding rotate
length-rotate n l h = length-append (drop n l) (take n l) ∙ simp (length-drop, length-take) (omega arith)

pub length-shift_halves : (n : ℕ) (cd : List ℕ) → length cd ≡ 56 → n ≤ 28 → length (shift_halves n cd) ≡ 56
unfolding shift_halves
length-shift_halves n cd e h =
    let a : length (take 28 cd) ≡ 28 = simp length-take (omega arith) in
    let b : length (drop 28 cd) ≡ 28 = simp length-drop (omega arith) in
    length-append (rotate n (take 28 cd)) (rotate n (drop 28 cd))
    ∙ omega (arith, length-rotate n (take 28 cd) (omega arith), length-rotate n (drop 28 cd) (omega arith))

pub length-keys_from : (ns cd : List ℕ) → length (keys_from ns cd) ≡ length ns
unfolding keys_from
length-keys_from [] cd = refl
length-keys_from (n ∷ ns) cd = ap suc (length-keys_from ns (shift_halves n cd))

pub length-schedule : (key : List ℕ) → length (schedule key) ≡ 16
unfolding schedule shifts
length-schedule key = length-keys_from shifts _

pub length-rounds : (ks : List (List ℕ)) (l r : List ℕ) → length l ≡ 32 → length r ≡ 32 → length (rounds ks l r) ≡ 64
unfolding rounds
length-rounds [] l r e f = length-append r l ∙ omega arith
length-rounds (k ∷ ks) l r e f =
    length-rounds ks r (xor l (cipher r k)) f (length-xor l (cipher r k) (omega (arith, length-cipher r k)) ∙ e)

pub length-crypt : (ks : List (List ℕ)) (x : List ℕ) → length (crypt ks x) ≡ 64
unfolding crypt IP⁻¹
length-crypt ks x = length-permute IP⁻¹ _

pub length-round_keys : (d : Bool) (key : List ℕ) → length (round_keys d key) ≡ 16
unfolding round_keys order
length-round_keys false key = length-schedule (bits_of key)
length-round_keys true key = length-reverse (schedule (bits_of key)) ∙ length-schedule (bits_of key)

pub length-block_under : (ks : List (List ℕ)) (block : List ℕ) → length (block_under ks block) ≡ 8
unfolding block_under
length-block_under ks block = length-bytes_of 8 _

pub length-des : (d : Bool) (key block : List ℕ) → length (des d key block) ≡ 8
unfolding des
length-des d key block = length-block_under (round_keys d key) block

pub length-triple_des : (d : Bool) (key block : List ℕ) → length (triple_des d key block) ≡ 8
unfolding triple_des
length-triple_des d key block = length-des d (take 8 key) _
