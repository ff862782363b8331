-- A signature, the last block of the CBC text, is the value that the chain ends in, found block by block. Assumes nothing.
use Prim.Native.Nat.{ℕ, zero, suc, ◌+◌, ◌-◌, ◌*◌, ◌<◌, ◌≤◌}
use mathlib.Core.Path.{◌≡◌, refl, sym, ap, ◌∙◌}
use mathlib.Core.List.{List, ◌++◌, append-nil}
use native.Mathlib.Omega.{arith}
use lib.ListN.{length, take, drop, length-drop}
use lib.Seq.{drop_at, drop-drop, take_all}
use Rattle.des_spec.specs.Bits.{Bytes, xor_bytes}
use Rattle.des_spec.specs.Des.{encipher}
use Rattle.des_spec.specs.Modes.{triple_des, cbc, blocks, cbc_text, padded, last_block, signature}
use Rattle.des_spec.proofs.Lists.{below_drop}
use Rattle.des_spec.proofs.Lengths.{length-triple_des}
use Rattle.des_spec.specs.Walk.{Mode, walk, after, cbc_encipher_by, cbc_mode}
use Rattle.des_spec.proofs.Walk.{cbc-walk}
use Rattle.des_spec.proofs.Texts.{length-cbc_text, bytes-cbc_text}
use Rattle.des_spec.proofs.Padding.{length-padded, blocks-padded, blocks-drop, blocks_short, rest-padded, take-padded, drop-padded, bytes-padded}

-- the value that a padded text leaves
unfoldable pub signed : Mode → List ℕ → List ℕ → List ℕ
signed m value text = after m (blocks (padded text)) value (padded text)

-- a text of a whole block or more: its first block is taken in, and the rest follows
pub signed-next : (m : Mode) (value text : List ℕ) → 8 ≤ length text → signed m value text ≡ signed m (m.next value (take 8 text)) (drop 8 text)
unfolding signed after
signed-next m value text h =
    let t = drop 8 text in
    let n : blocks (padded text) ≡ suc (blocks (padded t)) = blocks-padded text ∙ ap suc (blocks-drop text h ∙ sym (blocks-padded t)) in
    ap (λ (k : ℕ). after m k value (padded text)) n ∙ (λ i. after m (blocks (padded t)) (m.next value (take-padded text h i)) (drop-padded text h i))

-- a shorter one: padded, it is one block
pub signed_last : (m : Mode) (value text : List ℕ) → length text < 8 → signed m value text ≡ m.next value (padded text)
unfolding signed after
signed_last m value text h =
    let n : blocks (padded text) ≡ 1 = blocks-padded text ∙ ap suc (blocks_short text h) in
    ap (λ (k : ℕ). after m k value (padded text)) n ∙ ap (m.next value) (take_all 8 (padded text) (omega (arith, length-padded text)))

-- the last block of CBC is the value that the blocks leave
walk_after : (n : ℕ) (key value text : List ℕ) → drop (8 * n) (walk (cbc_mode encipher key) (suc n) value text) ≡ after (cbc_mode encipher key) (suc n) value text
unfolding walk after cbc_mode cbc_encipher_by
walk_after zero key value text = append-nil _
walk_after (suc n) key value text =
    let m : Mode = cbc_mode encipher key in
    let c = triple_des encipher key (xor_bytes (take 8 text) value) in
    let y = walk m (suc n) c (drop 8 text) in
    let e : 8 * suc n ≡ 8 + 8 * n = omega arith in
    ap (λ (k : ℕ). drop k (c ++ y)) e
    ∙ sym (drop-drop (8 * n) 8 (c ++ y))
    ∙ ap (drop (8 * n)) (drop_at c y 8 (length-triple_des encipher key (xor_bytes (take 8 text) value)))
    ∙ walk_after n key c (drop 8 text)

pub cbc-after : (n : ℕ) (key value text : List ℕ) → drop (8 * n) (cbc (suc n) encipher key value text) ≡ after (cbc_mode encipher key) (suc n) value text
cbc-after n key value text = ap (drop (8 * n)) (cbc-walk (suc n) encipher key value text) ∙ walk_after n key value text

-- and so a signature is the value that its padded text leaves
pub signature-signed : (key start text : List ℕ) → length start ≡ 8 → signature key start text ≡ signed (cbc_mode encipher key) start text
unfolding signature last_block signed
signature-signed key start text e =
    let p = padded text in
    let n = blocks text in
    let a : length (cbc_text encipher key start p) - 8 ≡ 8 * n = unfold blocks in omega (arith, length-cbc_text encipher key start p e, length-padded text) in
    let b : cbc_text encipher key start p ≡ cbc (suc n) encipher key start p =
    unfold cbc_text in (ap (λ (l : List ℕ). cbc (blocks p) encipher key start p ++ l) (rest-padded text) ∙ append-nil _ ∙ ap (λ (m : ℕ). cbc m encipher key start p) (blocks-padded text)) in
    ap (λ (m : ℕ). drop m (cbc_text encipher key start p)) a
    ∙ ap (drop (8 * n)) b
    ∙ cbc-after n key start p
    ∙ ap (λ (m : ℕ). after (cbc_mode encipher key) m start p) (sym (blocks-padded text))

-- the two laws again, of the signature itself
pub signature-next : (key start text : List ℕ) → length start ≡ 8 → 8 ≤ length text
    → signature key start text ≡ signature key (triple_des encipher key (xor_bytes (take 8 text) start)) (drop 8 text)
signature-next key start text e h =
    let c = triple_des encipher key (xor_bytes (take 8 text) start) in
    let m : Mode = cbc_mode encipher key in
    let n : m.next start (take 8 text) ≡ c = unfold cbc_mode cbc_encipher_by in refl in
    signature-signed key start text e
    ∙ signed-next m start text h
    ∙ ap (λ (v : List ℕ). signed m v (drop 8 text)) n
    ∙ sym (signature-signed key c (drop 8 text) (length-triple_des encipher key (xor_bytes (take 8 text) start)))

pub signature_last : (key start text : List ℕ) → length start ≡ 8 → length text < 8 → signature key start text ≡ triple_des encipher key (xor_bytes (padded text) start)
unfolding cbc_mode cbc_encipher_by
signature_last key start text e h = signature-signed key start text e ∙ signed_last (cbc_mode encipher key) start text h

pub length-last_block : (text : List ℕ) → 8 ≤ length text → length (last_block text) ≡ 8
unfolding last_block
length-last_block text h = simp length-drop (omega arith)

pub length-signature : (key start text : List ℕ) → length start ≡ 8 → length (signature key start text) ≡ 8
unfolding signature
length-signature key start text e =
    length-last_block (cbc_text encipher key start (padded text)) (omega (arith, length-cbc_text encipher key start (padded text) e, length-padded text))

pub bytes-signature : (key start text : List ℕ) → Bytes start → Bytes text → Bytes (signature key start text)
unfolding signature last_block
bytes-signature key start text g h =
    below_drop (length (cbc_text encipher key start (padded text)) - 8) (bytes-cbc_text encipher key start (padded text) g (bytes-padded text h))
