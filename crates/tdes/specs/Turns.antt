-- A turn of the walk over the blocks of a text: what a block becomes after a value, under outer and inner round keys. Assumes nothing.
use Rattle.std.specs.Prelude.{ℕ, Bool, List}
use Rattle.des_spec.specs.Des.{encipher, decipher, block_under}
use Rattle.des_spec.specs.Modes.{ecb_text, cbc_text}
use Rattle.des_spec.specs.Walk.{Mode, ecb_by, cbc_encipher_by, cbc_decipher_by}
use Rattle.tdes.specs.declared.modes.Way.{Way}
use Rattle.tdes.specs.declared.modes.Way.TheVariants.{Ecb, CbcEncipher, CbcDecipher}
use Rattle.tdes.specs.declared.modes.Turned.{Turned}

-- a block under the outer keys, the inner keys and the outer keys again
abbrev pub triple_under : List (List ℕ) → List (List ℕ) → List ℕ → List ℕ
triple_under outer inner block = block_under outer (block_under inner (block_under outer block))

-- the mode of a cipher
unfoldable pub mode : Way → (List ℕ → List ℕ) → Mode
mode Ecb f = ecb_by f
mode CbcEncipher f = cbc_encipher_by f
mode CbcDecipher f = cbc_decipher_by f

-- what a block becomes, and the value that the next block comes after
unfoldable pub turned : Way → List (List ℕ) → List (List ℕ) → List ℕ → List ℕ → Turned
turned way outer inner value block =
    record {
      put = (mode way (triple_under outer inner)).put value block;
      next = (mode way (triple_under outer inner)).next value block;
    }

-- a text in a mode; the direction is for ECB
unfoldable pub mode_text : Way → Bool → List ℕ → List ℕ → List ℕ → List ℕ
mode_text Ecb direction key start text = ecb_text direction key text
mode_text CbcEncipher direction key start text = cbc_text encipher key start text
mode_text CbcDecipher direction key start text = cbc_text decipher key start text
