-- ECB and CBC in both directions are one walk over the blocks of a text. Assumes nothing.
use Rattle.std.specs.Prelude.{ℕ, zero, suc, Bool, true, false, List, [], ◌++◌, take, drop}
use Rattle.des_spec.specs.Bits.{xor_bytes}
use Rattle.des_spec.specs.Des.{encipher, decipher}
use Rattle.des_spec.specs.Modes.{triple_des, blocks, rest}

-- what a block becomes after a value, and the value that the next block comes after
pub record Mode : Type 0 where
  pub put : List ℕ → List ℕ → List ℕ
  pub next : List ℕ → List ℕ → List ℕ

-- n blocks of a text, one after the other
unfoldable pub walk : Mode → ℕ → List ℕ → List ℕ → List ℕ
walk m zero value text = []
walk m (suc n) value text = m.put value (take 8 text) ++ walk m n (m.next value (take 8 text)) (drop 8 text)

-- the whole blocks of a text; the bytes after them stay
unfoldable pub walk_text : Mode → List ℕ → List ℕ → List ℕ
walk_text m value text = walk m (blocks text) value text ++ rest text

-- the value that n blocks leave
unfoldable pub after : Mode → ℕ → List ℕ → List ℕ → List ℕ
after m zero value text = value
after m (suc n) value text = after m n (m.next value (take 8 text)) (drop 8 text)

-- ---- the modes, of any cipher f of a block, and of triple DES under a key
unfoldable pub ecb_by : (List ℕ → List ℕ) → Mode
ecb_by f = record { put = λ value block. f block; next = λ value block. value }

unfoldable pub cbc_encipher_by : (List ℕ → List ℕ) → Mode
cbc_encipher_by f = record { put = λ value block. f (xor_bytes block value); next = λ value block. f (xor_bytes block value) }

unfoldable pub cbc_decipher_by : (List ℕ → List ℕ) → Mode
cbc_decipher_by f = record { put = λ value block. xor_bytes (f block) value; next = λ value block. block }

unfoldable pub ecb_mode : Bool → List ℕ → Mode
ecb_mode direction key = ecb_by (triple_des direction key)

unfoldable pub cbc_mode : Bool → List ℕ → Mode
cbc_mode false key = cbc_encipher_by (triple_des encipher key)
cbc_mode true key = cbc_decipher_by (triple_des decipher key)
