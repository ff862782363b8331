-- The data encryption standard of FIPS 46-3: the cipher function, the key schedule, sixteen rounds, and a block of 8 bytes under a key of
-- 8 bytes.
-- Assumes nothing.
use Rattle.std.specs.Prelude.{ℕ, ◌-◌, Bool, true, false, List, [], ◌∷◌, ◌++◌, map, reverse, get_or, take, drop}
use Rattle.des_spec.specs.Bits.{number, binaries, bits_of, bytes_of, xor}
use Rattle.des_spec.specs.Tables.{IP, IP⁻¹, E, P, S, PC1, PC2, shifts}

-- the direction of the cipher: enciphering
abbrev pub encipher : Bool
encipher = false

-- and deciphering
abbrev pub decipher : Bool
decipher = true

-- the bits of a list that a table names, counted from 1
unfoldable pub permute : List ℕ → List ℕ → List ℕ
permute table l = map (λ (i : ℕ). get_or l (i - 1) 0) table

-- the entry of a selection function for six bits: the first and the last say the row, the four between them the column
unfoldable pub select : List (List ℕ) → List ℕ → ℕ
select box b =
    get_or (get_or box (number (get_or b 0 0 ∷ get_or b 5 0 ∷ [])) [])
    (number (get_or b 1 0 ∷ get_or b 2 0 ∷ get_or b 3 0 ∷ get_or b 4 0 ∷ []))
    0

-- the entries of the selection functions, each for the next six bits of a list
unfoldable pub selects : List (List (List ℕ)) → List ℕ → List ℕ
selects [] l = []
selects (box ∷ boxes) l = select box (take 6 l) ∷ selects boxes (drop 6 l)

-- the cipher function f(R, K)
unfoldable pub cipher : List ℕ → List ℕ → List ℕ
cipher r k = permute P (binaries 4 (selects S (xor (permute E r) k)))

-- a list shifted left by n places, the bits that leave it coming in on the right
unfoldable pub rotate : ℕ → List ℕ → List ℕ
rotate n l = drop n l ++ take n l

-- the two halves C and D of the key, each shifted
unfoldable pub shift_halves : ℕ → List ℕ → List ℕ
shift_halves n cd = rotate n (take 28 cd) ++ rotate n (drop 28 cd)

-- the round keys from the halves C and D on, one for each number of shifts
unfoldable pub keys_from : List ℕ → List ℕ → List (List ℕ)
keys_from [] cd = []
keys_from (n ∷ ns) cd = permute PC2 (shift_halves n cd) ∷ keys_from ns (shift_halves n cd)

-- the key schedule: K1 to K16 of a key of 64 bits
unfoldable pub schedule : List ℕ → List (List ℕ)
schedule key = keys_from shifts (permute PC1 key)

-- the rounds, one for each key, from the halves L and R; the halves of the last are exchanged
unfoldable pub rounds : List (List ℕ) → List ℕ → List ℕ → List ℕ
rounds [] l r = r ++ l
rounds (k ∷ ks) l r = rounds ks r (xor l (cipher r k))

-- a block of 64 bits under round keys, in their order
unfoldable pub crypt : List (List ℕ) → List ℕ → List ℕ
crypt ks block =
    let x = permute IP block in
    permute IP⁻¹ (rounds ks (take 32 x) (drop 32 x))

-- the round keys in the order of use: K16 comes first where a block is deciphered
unfoldable pub order : Bool → List (List ℕ) → List (List ℕ)
order false ks = ks
order true ks = reverse ks

-- the round keys of a key of 8 bytes, in the order of use
unfoldable pub round_keys : Bool → List ℕ → List (List ℕ)
round_keys direction key = order direction (schedule (bits_of key))

-- a block of 8 bytes under round keys
unfoldable pub block_under : List (List ℕ) → List ℕ → List ℕ
block_under ks block = bytes_of 8 (crypt ks (bits_of block))

-- a block of 8 bytes under a key of 8 bytes
unfoldable pub des : Bool → List ℕ → List ℕ → List ℕ
des direction key block = block_under (round_keys direction key) block
