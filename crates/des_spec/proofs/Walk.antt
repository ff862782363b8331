-- What holds of any walk over the blocks of a text is shown once, over the number of blocks; ECB and CBC are such walks. Assumes nothing.
use Prim.Native.Nat.{ℕ, zero, suc, ◌+◌, ◌*◌, ◌/◌, ◌≤◌}
use mathlib.Core.Path.{◌≡◌, refl, sym, ap, ◌∙◌}
use mathlib.Core.Bool.{Bool, true, false}
use mathlib.Core.List.{List, ◌++◌, append_assoc}
use native.Mathlib.Omega.{arith}
use lib.ListN.{length, take, drop, replicate, length-append, length-drop, take-append-drop}
use lib.Seq.{take_at, drop_at, take-add, length-take-le}
use Rattle.des_spec.specs.Bits.{Bytes, xor_bytes}
use Rattle.des_spec.specs.Des.{encipher, decipher}
use Rattle.des_spec.specs.Modes.{triple_des, ecb, cbc_encipher, cbc_decipher, cbc, blocks, rest, ecb_text, cbc_text}
use Rattle.des_spec.specs.Walk.{Mode, walk, walk_text, ecb_by, cbc_encipher_by, cbc_decipher_by, ecb_mode, cbc_mode}
use Rattle.des_spec.proofs.Lists.{below_append, below_drop, below_take}

-- ECB and CBC are such walks
pub ecb-walk : (n : ℕ) (d : Bool) (key value text : List ℕ) → ecb n d key text ≡ walk (ecb_mode d key) n value text
unfolding ecb walk ecb_mode ecb_by
ecb-walk zero d key value text = refl
ecb-walk (suc n) d key value text = ap (λ (l : List ℕ). triple_des d key (take 8 text) ++ l) (ecb-walk n d key value (drop 8 text))

pub cbc-walk : (n : ℕ) (d : Bool) (key start text : List ℕ) → cbc n d key start text ≡ walk (cbc_mode d key) n start text
unfolding cbc cbc_encipher cbc_decipher walk cbc_mode cbc_encipher_by cbc_decipher_by
cbc-walk zero false key start text = refl
cbc-walk (suc n) false key start text =
    let c = triple_des encipher key (xor_bytes (take 8 text) start) in
    ap (λ (l : List ℕ). c ++ l) (cbc-walk n false key c (drop 8 text))
cbc-walk zero true key start text = refl
cbc-walk (suc n) true key start text =
    ap (λ (l : List ℕ). xor_bytes (triple_des decipher key (take 8 text)) start ++ l) (cbc-walk n true key (take 8 text) (drop 8 text))

-- the value of ECB, which no block depends on
abbrev pub zeros : List ℕ
zeros = replicate 8 0

pub ecb_text-walk : (d : Bool) (key text : List ℕ) → ecb_text d key text ≡ walk_text (ecb_mode d key) zeros text
unfolding ecb_text walk_text
ecb_text-walk d key text = ap (λ (l : List ℕ). l ++ rest text) (ecb-walk (blocks text) d key zeros text)

pub cbc_text-walk : (d : Bool) (key start text : List ℕ) → cbc_text d key start text ≡ walk_text (cbc_mode d key) start text
unfolding cbc_text walk_text
cbc_text-walk d key start text = ap (λ (l : List ℕ). l ++ rest text) (cbc-walk (blocks text) d key start text)

-- ---- a mode that makes blocks of bytes of blocks of bytes
pub record Sound (m : Mode) : Type 0 where
  pub put-long : (v b : List ℕ) → length v ≡ 8 → length b ≡ 8 → length (m.put v b) ≡ 8
  pub next-long : (v b : List ℕ) → length v ≡ 8 → length b ≡ 8 → length (m.next v b) ≡ 8
  pub put-bytes : (v b : List ℕ) → Bytes v → Bytes b → Bytes (m.put v b)
  pub next-bytes : (v b : List ℕ) → Bytes v → Bytes b → Bytes (m.next v b)

-- whole blocks and the rest make up a text
pub length_rest : (t : List ℕ) → 8 * blocks t + length (rest t) ≡ length t
unfolding blocks rest
length_rest t = simp length-drop (omega arith)

pub blocks_fit : (t : List ℕ) → 8 * blocks t ≤ length t
unfolding blocks
blocks_fit t = omega arith

module _ (m : Mode) (s : Sound m) where
  pub length-walk : (n : ℕ) (v t : List ℕ) → length v ≡ 8 → 8 * n ≤ length t → length (walk m n v t) ≡ 8 * n
  unfolding walk
  length-walk zero v t e h = refl
  length-walk (suc n) v t e h =
      let b = take 8 t in
      let l : length b ≡ 8 = length-take-le 8 t (omega arith) in
      length-append (m.put v b) (walk m n (m.next v b) (drop 8 t))
      ∙ omega (arith, s.put-long v b e l, length-walk n (m.next v b) (drop 8 t) (s.next-long v b e l) (simp length-drop (omega arith)))

  pub bytes-walk : (n : ℕ) (v t : List ℕ) → Bytes v → Bytes t → Bytes (walk m n v t)
  unfolding walk
  bytes-walk zero v t f g = below_take 0 t g
  bytes-walk (suc n) v t f g =
      let h : Bytes (take 8 t) = below_take 8 t g in
      below_append (m.put v (take 8 t)) (s.put-bytes v (take 8 t) f h) (bytes-walk n (m.next v (take 8 t)) (drop 8 t) (s.next-bytes v (take 8 t) f h) (below_drop 8 g))

  pub length-walk_text : (v t : List ℕ) → length v ≡ 8 → length (walk_text m v t) ≡ length t
  unfolding walk_text
  length-walk_text v t e =
      length-append (walk m (blocks t) v t) (rest t) ∙ omega (arith, length-walk (blocks t) v t e (blocks_fit t), length_rest t)

  pub bytes-walk_text : (v t : List ℕ) → Bytes v → Bytes t → Bytes (walk_text m v t)
  unfolding walk_text rest
  bytes-walk_text v t f g = below_append (walk m (blocks t) v t) (bytes-walk (blocks t) v t f g) (below_drop (8 * blocks t) g)

-- ---- a mode that undoes another
pub record Undoes (w m : Mode) : Type 0 where
  pub back : (v b : List ℕ) → length v ≡ 8 → Bytes v → length b ≡ 8 → Bytes b → w.put v (m.put v b) ≡ b
  pub same : (v b : List ℕ) → length v ≡ 8 → Bytes v → length b ≡ 8 → Bytes b → w.next v (m.put v b) ≡ m.next v b

module _ (w m : Mode) (s : Sound m) (u : Undoes w m) where
  -- n blocks, whatever stands behind them
  pub walk_undone : (n : ℕ) (v t z : List ℕ) → length v ≡ 8 → Bytes v → Bytes t → 8 * n ≤ length t → walk w n v (walk m n v t ++ z) ≡ take (8 * n) t
  unfolding walk
  walk_undone zero v t z e f g h = refl
  walk_undone (suc n) v t z e f g h =
      let b = take 8 t in
      let l : length b ≡ 8 = length-take-le 8 t (omega arith) in
      let k : Bytes b = below_take 8 t g in
      let c = m.put v b in
      let lc : length c ≡ 8 = s.put-long v b e l in
      let y = walk m n (m.next v b) (drop 8 t) in
      let p : take 8 ((c ++ y) ++ z) ≡ c = ap (take 8) (append_assoc c y z) ∙ take_at c (y ++ z) 8 lc in
      let q : drop 8 ((c ++ y) ++ z) ≡ y ++ z = ap (drop 8) (append_assoc c y z) ∙ drop_at c (y ++ z) 8 lc in
      let a : 8 + 8 * n ≡ 8 * suc n = omega arith in
      (λ i. w.put v (p i) ++ walk w n (w.next v (p i)) (q i))
      ∙ ap (λ (x : List ℕ). x ++ walk w n (w.next v c) (y ++ z)) (u.back v b e f l k)
      ∙ ap (λ (x : List ℕ). b ++ walk w n x (y ++ z)) (u.same v b e f l k)
      ∙ ap (λ (x : List ℕ). b ++ x)
      (walk_undone n (m.next v b) (drop 8 t) z (s.next-long v b e l) (s.next-bytes v b f k) (below_drop 8 g) (simp length-drop (omega arith)))
      ∙ sym (take-add 8 (8 * n) t)
      ∙ ap (λ (j : ℕ). take j t) a

  pub walk_text_undone : (v t : List ℕ) → length v ≡ 8 → Bytes v → Bytes t → walk_text w v (walk_text m v t) ≡ t
  unfolding walk_text rest blocks
  walk_text_undone v t e f g =
      let n = blocks t in
      let x = walk m n v t in
      let y = walk_text m v t in
      let a : blocks y ≡ n = ap (λ (j : ℕ). j / 8) (length-walk_text m s v t e) in
      let b : drop (8 * n) y ≡ rest t = drop_at x (rest t) (8 * n) (length-walk m s n v t e (blocks_fit t)) in
      ap (λ (j : ℕ). walk w j v y ++ drop (8 * j) y) a
      ∙ ap (λ (l : List ℕ). l ++ drop (8 * n) y) (walk_undone n v t (rest t) e f g (blocks_fit t))
      ∙ ap (λ (l : List ℕ). take (8 * n) t ++ l) b
      ∙ take-append-drop (8 * n) t
