-- Worked examples, computed by the definitions: the first block of FIPS 81's ECB example, "Now is t" under the key 0123456789ABCDEF, and
-- the eight rows of that key's bytes. Assumes nothing.
use Prim.Native.Nat.{ℕ}
use mathlib.Core.Path.{◌≡◌, refl}
use mathlib.Core.List.{List, [], ◌∷◌, zip_with}
use Rattle.des_spec.specs.Bits.{binary, number, binaries, parts, bits_of, bytes_of, xor}
use Rattle.des_spec.specs.Tables.{IP, IP⁻¹, E, P, S, S1, S2, S3, S4, S5, S6, S7, S8, PC1, PC2, shifts}
use Rattle.des_spec.specs.Des.{encipher, decipher, permute, select, selects, cipher, rotate, shift_halves, keys_from, schedule, rounds, crypt, order, round_keys, block_under, des}
use Rattle.des_spec.specs.Rows.{line, row, by_rows}

abbrev key : List ℕ
key = 0x01 ∷ 0x23 ∷ 0x45 ∷ 0x67 ∷ 0x89 ∷ 0xAB ∷ 0xCD ∷ 0xEF ∷ []

abbrev plain : List ℕ
plain = 0x4E ∷ 0x6F ∷ 0x77 ∷ 0x20 ∷ 0x69 ∷ 0x73 ∷ 0x20 ∷ 0x74 ∷ []

abbrev enciphered : List ℕ
enciphered = 0x3F ∷ 0xA4 ∷ 0x0E ∷ 0x8A ∷ 0x98 ∷ 0x4D ∷ 0x48 ∷ 0x15 ∷ []

now_is_t : des encipher key plain ≡ enciphered
unfolding des round_keys block_under bytes_of number parts crypt order schedule bits_of binaries binary keys_from shift_halves rotate rounds cipher selects select xor zip_with permute IP IP⁻¹ E P S S1 S2 S3 S4 S5 S6 S7 S8 PC1 PC2 shifts
now_is_t = refl

and_back : des decipher key enciphered ≡ plain
unfolding des round_keys block_under bytes_of number parts crypt order schedule bits_of binaries binary keys_from shift_halves rotate rounds cipher selects select xor zip_with permute IP IP⁻¹ E P S S1 S2 S3 S4 S5 S6 S7 S8 PC1 PC2 shifts
and_back = refl

-- row r of the initial permutation has bits 2, 4, 6, 8, 1, 3, 5 and 7 of the bytes, a row for each, the last byte's first
its_rows : by_rows IP (bits_of key) ≡ 0xCC ∷ 0x00 ∷ 0xCC ∷ 0xFF ∷ 0xF0 ∷ 0xAA ∷ 0xF0 ∷ 0xAA ∷ []
unfolding by_rows row line permute IP bits_of binaries binary number
its_rows = refl

its_rows_back : by_rows IP⁻¹ (bits_of (0xCC ∷ 0x00 ∷ 0xCC ∷ 0xFF ∷ 0xF0 ∷ 0xAA ∷ 0xF0 ∷ 0xAA ∷ [])) ≡ key
unfolding by_rows row line permute IP⁻¹ bits_of binaries binary number
its_rows_back = refl
