-- The secure channel of GlobalPlatform SCP01 as document 01 has it, "Keys and signatures". Assumes nothing.
use Rattle.std.specs.Prelude.{List, ◌++◌, ℕ, take}
use Rattle.octets.specs.Bytes.{zeros, part}
use Rattle.octets.specs.Words.{word}
use Rattle.des_spec.specs.Des.{encipher, decipher}
use Rattle.des_spec.specs.Modes.{ecb_text, cbc_text, signature}

-- "card challenge bytes 5–8, host challenge 1–4, card 1–4, host 5–8"
unfoldable pub derivation : List ℕ → List ℕ → List ℕ
derivation host card = part card 4 4 ++ part host 0 4 ++ part card 0 4 ++ part host 4 4

-- "S-ENC and S-MAC encrypt, by triple DES in ECB"
unfoldable pub session_key : List ℕ → List ℕ → List ℕ → List ℕ
session_key key host card = ecb_text encipher key (derivation host card)

-- card cryptogram: "ENC key, zero start, host challenge then card challenge, padded"
unfoldable pub card_cryptogram : List ℕ → List ℕ → List ℕ → List ℕ
card_cryptogram enc host card = signature enc (zeros 8) (host ++ card)

-- "host cryptogram: card challenge first"
unfoldable pub host_cryptogram : List ℕ → List ℕ → List ℕ → List ℕ
host_cryptogram enc host card = signature enc (zeros 8) (card ++ host)

-- "C-MAC: MAC key over the five header bytes (Lc counting the MAC) and the data before it": the first n bytes of the command as sent
unfoldable pub cmac_of : List ℕ → List ℕ → List ℕ → ℕ → List ℕ
cmac_of mac start command n = signature mac start (take n command)

-- "R-MAC: MAC key over this command's C-MAC, response data, 90 00"
unfoldable pub rmac_of : List ℕ → List ℕ → List ℕ → List ℕ → List ℕ
rmac_of mac start cmac body = signature mac start (cmac ++ body ++ word 0x9000)

-- "Bank information is enciphered under it in CBC with zero start"
unfoldable pub bank_sent : List ℕ → List ℕ → List ℕ
bank_sent dek value = cbc_text encipher dek (zeros 8) value

-- and back
unfoldable pub bank_received : List ℕ → List ℕ → List ℕ
bank_received dek value = cbc_text decipher dek (zeros 8) value

-- "keys and PINs in ECB": what was sent under a key
unfoldable pub received : List ℕ → List ℕ → List ℕ
received key value = ecb_text decipher key value
