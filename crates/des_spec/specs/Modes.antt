-- Two-key triple DES, its modes ECB and CBC, padding and signatures: "Keys and signatures" of document 01.
-- A key is 16 bytes, a block and a start value 8. Assumes nothing.
use Rattle.std.specs.Prelude.{ℕ, zero, suc, ◌-◌, ◌*◌, ◌/◌, ◌%◌, Bool, true, false, not, List, [], ◌∷◌, ◌++◌, length, take, drop, replicate}
use Rattle.des_spec.specs.Bits.{xor_bytes}
use Rattle.des_spec.specs.Des.{encipher, decipher, des}

-- a block under the first half of the key, the other way round under the second, and again under the first
unfoldable pub triple_des : Bool → List ℕ → List ℕ → List ℕ
triple_des direction key block =
    des direction (take 8 key) (des (not direction) (drop 8 key) (des direction (take 8 key) block))

-- ECB: the first n blocks of a text, each by itself
unfoldable pub ecb : ℕ → Bool → List ℕ → List ℕ → List ℕ
ecb zero direction key text = []
ecb (suc n) direction key text = triple_des direction key (take 8 text) ++ ecb n direction key (drop 8 text)

-- CBC: the first n blocks of a text, each added to what the one before it became, the first to the start value, and enciphered
unfoldable pub cbc_encipher : ℕ → List ℕ → List ℕ → List ℕ → List ℕ
cbc_encipher zero key start text = []
cbc_encipher (suc n) key start text =
    let c = triple_des encipher key (xor_bytes (take 8 text) start) in
    c ++ cbc_encipher n key c (drop 8 text)

-- and back: each deciphered, and added to the one before it, the first to the start value
unfoldable pub cbc_decipher : ℕ → List ℕ → List ℕ → List ℕ → List ℕ
cbc_decipher zero key start text = []
cbc_decipher (suc n) key start text =
    xor_bytes (triple_des decipher key (take 8 text)) start ++ cbc_decipher n key (take 8 text) (drop 8 text)

-- CBC in either direction
unfoldable pub cbc : ℕ → Bool → List ℕ → List ℕ → List ℕ → List ℕ
cbc n false key start text = cbc_encipher n key start text
cbc n true key start text = cbc_decipher n key start text

-- the number of whole blocks of a text
unfoldable pub blocks : List ℕ → ℕ
blocks text = length text / 8

-- the bytes after the last whole block
unfoldable pub rest : List ℕ → List ℕ
rest text = drop (8 * blocks text) text

-- a text of any length in ECB: its whole blocks are replaced, the rest stays
unfoldable pub ecb_text : Bool → List ℕ → List ℕ → List ℕ
ecb_text direction key text = ecb (blocks text) direction key text ++ rest text

-- the same in CBC
unfoldable pub cbc_text : Bool → List ℕ → List ℕ → List ℕ → List ℕ
cbc_text direction key start text = cbc (blocks text) direction key start text ++ rest text

-- 01: "Padding: 80, then zeros to a multiple of 8"; it is always added
unfoldable pub padded : List ℕ → List ℕ
padded text = text ++ (0x80 ∷ replicate (7 - length text % 8) 0)

-- the last 8 bytes of a text
unfoldable pub last_block : List ℕ → List ℕ
last_block text = drop (length text - 8) text

-- 01: "A signature is the last block of triple-DES CBC", here of the padded text
unfoldable pub signature : List ℕ → List ℕ → List ℕ → List ℕ
signature key start text = last_block (cbc_text encipher key start (padded text))
