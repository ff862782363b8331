-- Each direction undoes the other, for every key: a block of DES and of triple DES, and texts in ECB and CBC. Assumes nothing.
use Prim.Native.Nat.{ℕ, ◌*◌, ◌≤◌}
use mathlib.Core.Path.{◌≡◌, refl, sym, ap, ◌∙◌}
use mathlib.Core.Bool.{Bool, true, false, not}
use mathlib.Core.List.{List, [], ◌∷◌, ◌++◌, reverse, reverse-cons, reverse-reverse, append-nil}
use native.Mathlib.Omega.{arith}
use lib.ListN.{length, take, drop, length-append, length-take, length-drop, take-append-drop}
use lib.Seq.{take_at, drop_at}
use Rattle.des_spec.specs.Bits.{Bits, Bytes, bits_of, bytes_of, xor, xor_bytes}
use Rattle.des_spec.specs.Tables.{IP, IP⁻¹}
use Rattle.des_spec.specs.Des.{encipher, decipher, permute, cipher, rounds, crypt, order, schedule, round_keys, block_under, des}
use Rattle.des_spec.specs.Modes.{triple_des, ecb, cbc, ecb_text, cbc_text}
use Rattle.des_spec.proofs.Lists.{below_take, below_drop}
use Rattle.des_spec.proofs.Lengths.{length-permute, length-xor, length-xor_bytes, length-cipher, length-bits_of, length-crypt, length-des, length-triple_des}
use Rattle.des_spec.proofs.Ranges.{bits-permute, bits-xor, bits-bits_of, bits-crypt, bytes-xor_bytes, bytes-des}
use Rattle.des_spec.proofs.Binary.{bits_of_bytes, bytes_of_bits}
use Rattle.des_spec.proofs.Permutations.{initial_undoes_inverse, inverse_undoes_initial}
use Rattle.des_spec.proofs.Sums.{xor_twice, xor_bytes_twice}
use Rattle.des_spec.specs.Walk.{ecb_by, cbc_encipher_by, cbc_decipher_by, ecb_mode, cbc_mode, walk, walk_text}
use Rattle.des_spec.proofs.Walk.{Undoes, ecb-walk, cbc-walk, ecb_text-walk, cbc_text-walk, zeros, walk_undone, walk_text_undone}
use Rattle.des_spec.proofs.Texts.{ecb_sound, cbc_sound, bytes-zeros}

-- ---- the rounds
record Halves : Type 0 where
  pub l : List ℕ
  pub r : List ℕ

round : List ℕ → Halves → Halves
round k s = record { l = s.r; r = xor s.l (cipher s.r k) }

-- the halves after a round for each key
final : List (List ℕ) → Halves → Halves
final [] s = s
final (k ∷ ks) s = final ks (round k s)

swap : Halves → Halves
swap s = record { l = s.r; r = s.l }

record Good (s : Halves) : Type 0 where
  pub long_l : length s.l ≡ 32
  pub long_r : length s.r ≡ 32
  pub bits_l : Bits s.l
  pub bits_r : Bits s.r

rounds_final : (ks : List (List ℕ)) (s : Halves) → rounds ks s.l s.r ≡ (final ks s).r ++ (final ks s).l
unfolding rounds final round
rounds_final [] s = refl
rounds_final (k ∷ ks) s = rounds_final ks (round k s)

final_last : (ks : List (List ℕ)) (k : List ℕ) (s : Halves) → final (ks ++ (k ∷ [])) s ≡ round k (final ks s)
unfolding final
final_last [] k s = refl
final_last (j ∷ ks) k s = final_last ks k (round j s)

good_round : (k : List ℕ) (s : Halves) → Good s → Good (round k s)
unfolding round
good_round k s g =
    record {
      long_l = g.long_r;
      long_r = length-xor s.l (cipher s.r k) (omega (arith, length-cipher s.r k)) ∙ g.long_l;
      bits_l = g.bits_r;
      bits_r = bits-xor s.l (cipher s.r k);
    }

good_final : (ks : List (List ℕ)) (s : Halves) → Good s → Good (final ks s)
unfolding final
good_final [] s g = g
good_final (k ∷ ks) s g = good_final ks (round k s) (good_round k s g)

-- a round is undone by itself, with the halves exchanged; all of them, the last first
round_undone : (k : List ℕ) (s : Halves) → Good s → round k (swap (round k s)) ≡ swap s
unfolding round swap
round_undone k s g = λ i. record { l = s.r; r = xor_twice s.l (cipher s.r k) g.bits_l (omega (arith, length-cipher s.r k)) i }

final_undone : (ks : List (List ℕ)) (s : Halves) → Good s → final (reverse ks) (swap (final ks s)) ≡ swap s
unfolding final
final_undone [] s g = refl
final_undone (k ∷ ks) s g =
    let t = swap (final ks (round k s)) in
    ap (λ (l : List (List ℕ)). final l t) (reverse-cons k ks)
    ∙ final_last (reverse ks) k t
    ∙ ap (round k) (final_undone ks (round k s) (good_round k s g))
    ∙ round_undone k s g

-- ---- a block
-- 64 bits: the same keys the other way round
pub crypt_undone : (ks : List (List ℕ)) (x : List ℕ) → length x ≡ 64 → Bits x → crypt (reverse ks) (crypt ks x) ≡ x
unfolding crypt swap
crypt_undone ks x e b =
    let y : List ℕ = permute IP x in
    let ey : length y ≡ 64 = length-permute IP x ∙ unfold IP in refl in
    let by : Bits y = bits-permute IP x b in
    let s : Halves = record { l = take 32 y; r = drop 32 y } in
    let g : Good s = record { long_l = simp length-take (omega arith); long_r = simp length-drop (omega arith); bits_l = below_take 32 y by; bits_r = below_drop 32 by } in
    let f : Halves = final ks s in
    let gf : Good f = good_final ks s g in
    let z : List ℕ = rounds ks (take 32 y) (drop 32 y) in
    let ez : z ≡ f.r ++ f.l = rounds_final ks s in
    let lz : length z ≡ 64 = ap length ez ∙ length-append f.r f.l ∙ omega arith in
    let a : permute IP (permute IP⁻¹ z) ≡ f.r ++ f.l = initial_undoes_inverse z lz ∙ ez in
    let p : take 32 (permute IP (permute IP⁻¹ z)) ≡ f.r = ap (take 32) a ∙ take_at f.r f.l 32 gf.long_r in
    let q : drop 32 (permute IP (permute IP⁻¹ z)) ≡ f.l = ap (drop 32) a ∙ drop_at f.r f.l 32 gf.long_r in
    let u : rounds (reverse ks) f.r f.l ≡ take 32 y ++ drop 32 y =
    rounds_final (reverse ks) (swap f) ∙ ap (λ (h : Halves). h.r ++ h.l) (final_undone ks s g) in
    (λ i. permute IP⁻¹ (rounds (reverse ks) (p i) (q i)))
    ∙ ap (permute IP⁻¹) (u ∙ take-append-drop 32 y)
    ∙ inverse_undoes_initial x e

pub block_under_undone : (ks : List (List ℕ)) (block : List ℕ) → length block ≡ 8 → Bytes block → block_under (reverse ks) (block_under ks block) ≡ block
unfolding block_under
block_under_undone ks block e h =
    let x = crypt ks (bits_of block) in
    let a : bits_of (bytes_of 8 x) ≡ x = bits_of_bytes 8 x (bits-crypt ks (bits_of block) (bits-bits_of block)) (length-crypt ks (bits_of block)) in
    ap (λ (t : List ℕ). bytes_of 8 (crypt (reverse ks) t)) a
    ∙ ap (bytes_of 8) (crypt_undone ks (bits_of block) (length-bits_of block ∙ omega arith) (bits-bits_of block))
    ∙ ap (λ (n : ℕ). bytes_of n (bits_of block)) (sym e)
    ∙ bytes_of_bits block h

-- the round keys of the other direction are those of the one, the last first
pub round_keys_not : (d : Bool) (key : List ℕ) → round_keys (not d) key ≡ reverse (round_keys d key)
unfolding round_keys order
round_keys_not true key = sym (reverse-reverse (schedule (bits_of key)))
round_keys_not false key = refl

-- d is either direction: deciphering undoes enciphering, and enciphering deciphering
pub des_undone : (d : Bool) (key block : List ℕ) → length block ≡ 8 → Bytes block → des (not d) key (des d key block) ≡ block
unfolding des
des_undone d key block e h =
    ap (λ (ks : List (List ℕ)). block_under ks (des d key block)) (round_keys_not d key) ∙ block_under_undone (round_keys d key) block e h

pub triple_des_undone : (d : Bool) (key block : List ℕ) → length block ≡ 8 → Bytes block → triple_des (not d) key (triple_des d key block) ≡ block
unfolding triple_des
triple_des_undone d key block e h =
    let k = take 8 key in
    let m = drop 8 key in
    let x = des d k block in
    let y = des (not d) m x in
    let a : des (not d) k (des d k y) ≡ y = des_undone d k y (length-des (not d) m x) (bytes-des (not d) m x) in
    let b : des (not (not d)) m y ≡ x = des_undone (not d) m x (length-des d k block) (bytes-des d k block) in
    ap (λ (t : List ℕ). des (not d) k (des (not (not d)) m t)) a ∙ ap (des (not d) k) b ∙ des_undone d k block e h

-- ---- texts
ecb_undoes : (d : Bool) (key : List ℕ) → Undoes (ecb_mode (not d) key) (ecb_mode d key)
unfolding ecb_mode ecb_by
ecb_undoes d key = record { back = λ v b ev hv eb hb. triple_des_undone d key b eb hb; same = λ v b ev hv eb hb. refl }

cbc_undoes : (d : Bool) (key : List ℕ) → Undoes (cbc_mode (not d) key) (cbc_mode d key)
unfolding cbc_mode cbc_encipher_by cbc_decipher_by
cbc_undoes false key =
    record {
      back = λ v b ev hv eb hb.
          let l : length (xor_bytes b v) ≡ 8 = length-xor_bytes b v (omega arith) ∙ eb in
          ap (λ (x : List ℕ). xor_bytes x v) (triple_des_undone encipher key (xor_bytes b v) l (bytes-xor_bytes b v hb hv)) ∙ xor_bytes_twice b v hv (omega arith);
      same = λ v b ev hv eb hb. refl;
    }
cbc_undoes true key =
    record {
      back = λ v b ev hv eb hb. cbc_back v b ev hv eb hb;
      same = λ v b ev hv eb hb. cbc_back v b ev hv eb hb;
    }
  where
    cbc_back : (v b : List ℕ) → length v ≡ 8 → Bytes v → length b ≡ 8 → Bytes b
        → triple_des encipher key (xor_bytes (xor_bytes (triple_des decipher key b) v) v) ≡ b
    cbc_back v b ev hv eb hb =
        let l = length-triple_des decipher key b in
        ap (triple_des encipher key) (xor_bytes_twice (triple_des decipher key b) v hv (omega arith)) ∙ triple_des_undone decipher key b eb hb

-- the first n blocks
pub ecb_undone : (n : ℕ) (d : Bool) (key text : List ℕ) → 8 * n ≤ length text → Bytes text → ecb n (not d) key (ecb n d key text) ≡ take (8 * n) text
ecb_undone n d key text h b =
    ecb-walk n (not d) key zeros (ecb n d key text)
    ∙ ap (walk (ecb_mode (not d) key) n zeros) (ecb-walk n d key zeros text ∙ sym (append-nil _))
    ∙ walk_undone (ecb_mode (not d) key) (ecb_mode d key) (ecb_sound d key) (ecb_undoes d key) n zeros text [] refl bytes-zeros b h

pub cbc_undone : (n : ℕ) (d : Bool) (key start text : List ℕ) → length start ≡ 8 → Bytes start → 8 * n ≤ length text → Bytes text
    → cbc n (not d) key start (cbc n d key start text) ≡ take (8 * n) text
cbc_undone n d key start text e g h b =
    cbc-walk n (not d) key start (cbc n d key start text)
    ∙ ap (walk (cbc_mode (not d) key) n start) (cbc-walk n d key start text ∙ sym (append-nil _))
    ∙ walk_undone (cbc_mode (not d) key) (cbc_mode d key) (cbc_sound d key) (cbc_undoes d key) n start text [] e g b h

-- a text of any length
pub ecb_text_undone : (d : Bool) (key text : List ℕ) → Bytes text → ecb_text (not d) key (ecb_text d key text) ≡ text
ecb_text_undone d key text b =
    ecb_text-walk (not d) key (ecb_text d key text)
    ∙ ap (walk_text (ecb_mode (not d) key) zeros) (ecb_text-walk d key text)
    ∙ walk_text_undone (ecb_mode (not d) key) (ecb_mode d key) (ecb_sound d key) (ecb_undoes d key) zeros text refl bytes-zeros b

pub cbc_text_undone : (d : Bool) (key start text : List ℕ) → length start ≡ 8 → Bytes start → Bytes text
    → cbc_text (not d) key start (cbc_text d key start text) ≡ text
cbc_text_undone d key start text e g b =
    cbc_text-walk (not d) key start (cbc_text d key start text)
    ∙ ap (walk_text (cbc_mode (not d) key) start) (cbc_text-walk d key start text)
    ∙ walk_text_undone (cbc_mode (not d) key) (cbc_mode d key) (cbc_sound d key) (cbc_undoes d key) start text e g b
