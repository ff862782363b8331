-- Single DES over the whole blocks of a text, each by itself: under one key, and under a key each. Assumes nothing.
use Rattle.std.specs.Prelude.{ℕ, zero, suc, ◌*◌, Bool, List, [], ◌++◌, take, drop}
use Rattle.octets.specs.Bytes.{field}
use Rattle.des_spec.specs.Des.{des}
use Rattle.des_spec.specs.Modes.{blocks, rest}

-- n blocks of a text, the first of them number i, each by the cipher of its number
unfoldable pub each : (ℕ → List ℕ → List ℕ) → ℕ → ℕ → List ℕ → List ℕ
each f i zero text = []
each f i (suc n) text = f i (take 8 text) ++ each f (suc i) n (drop 8 text)

-- the whole blocks of a text; the bytes after them stay
unfoldable pub each_text : (ℕ → List ℕ → List ℕ) → List ℕ → List ℕ
each_text f text = each f 0 (blocks text) text ++ rest text

-- ECB under one key
unfoldable pub des_text : Bool → List ℕ → List ℕ → List ℕ
des_text direction key text = each_text (λ (i : ℕ). des direction key) text

-- block i under the eight bytes of keys from 8 * i on
unfoldable pub des_each : Bool → List ℕ → List ℕ → List ℕ
des_each direction keys text = each_text (λ (i : ℕ). des direction (field keys (8 * i) 8)) text
