-- Three keys: document 01, "administration key set, 48 bytes (S-ENC, S-MAC, DEK, 16 each)"; document 02, request 5, "FIPS 46-3 keeps an odd
-- number of ones in each key byte". Assumes nothing.
use Rattle.std.specs.Prelude.{Bool, true, ◌&&◌, Option, Some, None, List, [], ◌∷◌, ◌++◌, ◌≡◌, ℕ, ◌+◌, ◌/◌, ◌%◌, ◌<◌, eqb}
use Rattle.std.specs.Int.Count.{ones}
use Rattle.octets.specs.Choice.{pick}
use Rattle.octets.specs.Bytes.{byte_at, field}
use Rattle.card.specs.declared.head.Keys.{Keys}

-- how many bytes they have
abbrev pub keys_size : ℕ
keys_size = 48

-- their bytes
unfoldable pub key_bytes : Keys → List ℕ
key_bytes k = k.enc ++ k.mac ++ k.dek

-- the keys that bytes say
unfoldable pub keys_in : List ℕ → Keys
keys_in l = record { enc = field l 0 16; mac = field l 16 16; dek = field l 32 16 }

-- ---- parity

-- "Each .. key byte must have an odd number of ones"
unfoldable pub odd_parity : List ℕ → Bool
odd_parity [] = true
odd_parity (b ∷ l) = eqb (ones b % 2) 1 && odd_parity l

-- each of the 48 bytes of three keys
unfoldable pub odd_keys : Keys → Bool
odd_keys k = odd_parity (key_bytes k)

-- "the routine that takes a key set": the keys that bytes say, or none where a byte has an even number of ones
unfoldable pub take_keys : List ℕ → Option Keys
take_keys l = pick (odd_keys (keys_in l)) (Some (keys_in l)) None

-- ---- the same in other words

-- the binary digits of a byte add up to an odd number
abbrev pub OddDigits : ℕ → Type 0
OddDigits b = (b % 2 + b / 2 % 2 + b / 4 % 2 + b / 8 % 2 + b / 16 % 2 + b / 32 % 2 + b / 64 % 2 + b / 128 % 2) % 2 ≡ 1

-- so do those of each of n bytes
abbrev pub AllOdd : ℕ → List ℕ → Type 0
AllOdd n l = (i : ℕ) → i < n → OddDigits (byte_at l i)

-- and of each byte of three keys
pub record OddKeys (k : Keys) : Type 0 where
  pub enc : AllOdd 16 k.enc
  pub mac : AllOdd 16 k.mac
  pub dek : AllOdd 16 k.dek

-- what the routine promises: its definition, and odd parity of whatever it accepts
pub record Takes (l : List ℕ) (r : Option Keys) : Type 0 where
  pub taken : r ≡ take_keys l
  pub odd : (k : Keys) → r ≡ Some k → OddKeys k
