-- What ECB and CBC make of a text: as long as the text, and bytes. Assumes nothing.
use Prim.Native.Nat.{ℕ, ◌*◌, ◌≤◌}
use mathlib.Core.Path.{◌≡◌, refl, ap, ◌∙◌}
use mathlib.Core.Bool.{Bool, true, false}
use mathlib.Core.List.{List}
use native.Mathlib.Omega.{arith}
use lib.ListN.{length}
use lib.Dec.{lit<}
use Rattle.des_spec.specs.Bits.{Bytes, xor_bytes}
use Rattle.des_spec.specs.Des.{encipher, decipher}
use Rattle.des_spec.specs.Modes.{triple_des, ecb, cbc, ecb_text, cbc_text}
use Rattle.des_spec.proofs.Lists.{below_replicate}
use Rattle.des_spec.proofs.Lengths.{length-xor_bytes, length-triple_des}
use Rattle.des_spec.proofs.Ranges.{bytes-xor_bytes, bytes-triple_des}
use Rattle.des_spec.specs.Walk.{ecb_by, cbc_encipher_by, cbc_decipher_by, ecb_mode, cbc_mode}
use Rattle.des_spec.proofs.Walk.{Sound, ecb-walk, cbc-walk, ecb_text-walk, cbc_text-walk, zeros, length-walk, bytes-walk, length-walk_text, bytes-walk_text}

-- a cipher that makes a block of bytes
pub record Cipher (f : List ℕ → List ℕ) : Type 0 where
  pub long : (b : List ℕ) → length (f b) ≡ 8
  pub bytes : (b : List ℕ) → Bytes (f b)

module _ (f : List ℕ → List ℕ) (c : Cipher f) where
  pub ecb_by_sound : Sound (ecb_by f)
  unfolding ecb_by
  ecb_by_sound = record { put-long = λ v b e l. c.long b; next-long = λ v b e l. e; put-bytes = λ v b g h. c.bytes b; next-bytes = λ v b g h. g }

  pub cbc_encipher_by_sound : Sound (cbc_encipher_by f)
  unfolding cbc_encipher_by
  cbc_encipher_by_sound =
      record {
        put-long = λ v b e l. c.long (xor_bytes b v);
        next-long = λ v b e l. c.long (xor_bytes b v);
        put-bytes = λ v b g h. c.bytes (xor_bytes b v);
        next-bytes = λ v b g h. c.bytes (xor_bytes b v);
      }

  pub cbc_decipher_by_sound : Sound (cbc_decipher_by f)
  unfolding cbc_decipher_by
  cbc_decipher_by_sound =
      record {
        put-long = λ v b e l. length-xor_bytes (f b) v (omega (arith, c.long b)) ∙ c.long b;
        next-long = λ v b e l. l;
        put-bytes = λ v b g h. bytes-xor_bytes (f b) v (c.bytes b) g;
        next-bytes = λ v b g h. h;
      }

pub triple_des-cipher : (d : Bool) (key : List ℕ) → Cipher (triple_des d key)
triple_des-cipher d key = record { long = length-triple_des d key; bytes = bytes-triple_des d key }

pub ecb_sound : (d : Bool) (key : List ℕ) → Sound (ecb_mode d key)
unfolding ecb_mode
ecb_sound d key = ecb_by_sound (triple_des d key) (triple_des-cipher d key)

pub cbc_sound : (d : Bool) (key : List ℕ) → Sound (cbc_mode d key)
unfolding cbc_mode
cbc_sound false key = cbc_encipher_by_sound (triple_des encipher key) (triple_des-cipher encipher key)
cbc_sound true key = cbc_decipher_by_sound (triple_des decipher key) (triple_des-cipher decipher key)

pub bytes-zeros : Bytes zeros
bytes-zeros = below_replicate 8 0 (lit< tt)

-- ---- n blocks
pub length-ecb : (n : ℕ) (d : Bool) (key text : List ℕ) → 8 * n ≤ length text → length (ecb n d key text) ≡ 8 * n
length-ecb n d key text h = ap length (ecb-walk n d key zeros text) ∙ length-walk (ecb_mode d key) (ecb_sound d key) n zeros text refl h

pub length-cbc : (n : ℕ) (d : Bool) (key start text : List ℕ) → length start ≡ 8 → 8 * n ≤ length text → length (cbc n d key start text) ≡ 8 * n
length-cbc n d key start text e h = ap length (cbc-walk n d key start text) ∙ length-walk (cbc_mode d key) (cbc_sound d key) n start text e h

pub bytes-ecb : (n : ℕ) (d : Bool) (key text : List ℕ) → Bytes text → Bytes (ecb n d key text)
bytes-ecb n d key text h = rw (ecb-walk n d key zeros text) (bytes-walk (ecb_mode d key) (ecb_sound d key) n zeros text bytes-zeros h)

pub bytes-cbc : (n : ℕ) (d : Bool) (key start text : List ℕ) → Bytes start → Bytes text → Bytes (cbc n d key start text)
bytes-cbc n d key start text g h = rw (cbc-walk n d key start text) (bytes-walk (cbc_mode d key) (cbc_sound d key) n start text g h)

-- ---- a text of any length
pub length-ecb_text : (d : Bool) (key text : List ℕ) → length (ecb_text d key text) ≡ length text
length-ecb_text d key text = ap length (ecb_text-walk d key text) ∙ length-walk_text (ecb_mode d key) (ecb_sound d key) zeros text refl

pub length-cbc_text : (d : Bool) (key start text : List ℕ) → length start ≡ 8 → length (cbc_text d key start text) ≡ length text
length-cbc_text d key start text e = ap length (cbc_text-walk d key start text) ∙ length-walk_text (cbc_mode d key) (cbc_sound d key) start text e

pub bytes-ecb_text : (d : Bool) (key text : List ℕ) → Bytes text → Bytes (ecb_text d key text)
bytes-ecb_text d key text h = rw (ecb_text-walk d key text) (bytes-walk_text (ecb_mode d key) (ecb_sound d key) zeros text bytes-zeros h)

pub bytes-cbc_text : (d : Bool) (key start text : List ℕ) → Bytes start → Bytes text → Bytes (cbc_text d key start text)
bytes-cbc_text d key start text g h = rw (cbc_text-walk d key start text) (bytes-walk_text (cbc_mode d key) (cbc_sound d key) start text g h)
