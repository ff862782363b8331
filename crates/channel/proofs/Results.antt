-- What the channel's definitions give: how long, and bytes; what is deciphered is what was enciphered; parity bits of keys don't matter.
-- Assumes nothing.
use Prim.Native.Nat.{ℕ}
use mathlib.Core.List.{List, ◌++◌}
use mathlib.Core.Path.{◌≡◌, refl, ◌∙◌}
use native.Mathlib.Omega.{arith}
use lib.ListN.{length, take, length-append}
use Rattle.octets.specs.Bytes.{AreBytes, zeros, part}
use Rattle.octets.specs.Words.{word}
use Rattle.octets.proofs.Parts.{length_part}
use Rattle.octets.proofs.Ranges.{append-bytes, part_bytes, take-bytes, word_bytes, zeros-bytes}
use Rattle.des_spec.specs.Bits.{Bytes}
use Rattle.des_spec.specs.Des.{encipher, decipher}
use Rattle.des_spec.specs.Modes.{ecb_text, signature}
use Rattle.des_spec.proofs.Texts.{length-ecb_text, length-cbc_text, bytes-ecb_text, bytes-cbc_text}
use Rattle.des_spec.proofs.Signature.{length-signature, bytes-signature}
use Rattle.des_spec.proofs.Inverse.{ecb_text_undone, cbc_text_undone}
use Rattle.des_spec.proofs.Parity.{ButParity, ecb_text_parity, cbc_text_parity, signature_parity}
use Rattle.channel.specs.Channel.{derivation, session_key, card_cryptogram, host_cryptogram, cmac_of, rmac_of, bank_sent, bank_received, received}

-- the cipher's word for bytes
as_bytes : (s : List ℕ) → AreBytes s → Bytes s
as_bytes s f = record { at = f }

-- ---- how long

pub length-derivation : (host card : List ℕ) → length host ≡ 8 → length card ≡ 8 → length (derivation host card) ≡ 16
unfolding derivation
length-derivation host card h c =
    simp (length-append, length_part card 4 4 (omega arith), length_part host 0 4 (omega arith), length_part card 0 4 (omega arith), length_part host 4 4 (omega arith))

pub length-session_key : (key host card : List ℕ) → length host ≡ 8 → length card ≡ 8 → length (session_key key host card) ≡ 16
unfolding session_key
length-session_key key host card h c = length-ecb_text encipher key (derivation host card) ∙ length-derivation host card h c

pub length-card_cryptogram : (enc host card : List ℕ) → length (card_cryptogram enc host card) ≡ 8
unfolding card_cryptogram
length-card_cryptogram enc host card = length-signature enc (zeros 8) (host ++ card) refl

pub length-host_cryptogram : (enc host card : List ℕ) → length (host_cryptogram enc host card) ≡ 8
unfolding host_cryptogram
length-host_cryptogram enc host card = length-signature enc (zeros 8) (card ++ host) refl

pub length-cmac_of : (mac start command : List ℕ) (n : ℕ) → length start ≡ 8 → length (cmac_of mac start command n) ≡ 8
unfolding cmac_of
length-cmac_of mac start command n h = length-signature mac start (take n command) h

pub length-rmac_of : (mac start cmac body : List ℕ) → length start ≡ 8 → length (rmac_of mac start cmac body) ≡ 8
unfolding rmac_of
length-rmac_of mac start cmac body h = length-signature mac start (cmac ++ body ++ word 0x9000) h

pub length-bank_sent : (dek value : List ℕ) → length (bank_sent dek value) ≡ length value
unfolding bank_sent
length-bank_sent dek value = length-cbc_text encipher dek (zeros 8) value refl

pub length-bank_received : (dek value : List ℕ) → length (bank_received dek value) ≡ length value
unfolding bank_received
length-bank_received dek value = length-cbc_text decipher dek (zeros 8) value refl

pub length-received : (key value : List ℕ) → length (received key value) ≡ length value
unfolding received
length-received key value = length-ecb_text decipher key value

-- ---- bytes

pub bytes-derivation : (host card : List ℕ) → AreBytes host → AreBytes card → AreBytes (derivation host card)
unfolding derivation
bytes-derivation host card h c =
    append-bytes (part card 4 4 ++ part host 0 4 ++ part card 0 4) (part host 4 4)
    (append-bytes (part card 4 4 ++ part host 0 4) (part card 0 4)
    (append-bytes (part card 4 4) (part host 0 4) (part_bytes card 4 4 c) (part_bytes host 0 4 h))
    (part_bytes card 0 4 c))
    (part_bytes host 4 4 h)

pub bytes-session_key : (key host card : List ℕ) → AreBytes host → AreBytes card → AreBytes (session_key key host card)
unfolding session_key
bytes-session_key key host card h c =
    (bytes-ecb_text encipher key (derivation host card) (as_bytes (derivation host card) (bytes-derivation host card h c))).at

module _ (key start text : List ℕ) (s : AreBytes start) (t : AreBytes text) where
  signed : AreBytes (signature key start text)
  signed = (bytes-signature key start text (as_bytes start s) (as_bytes text t)).at

pub bytes-card_cryptogram : (enc host card : List ℕ) → AreBytes host → AreBytes card → AreBytes (card_cryptogram enc host card)
unfolding card_cryptogram
bytes-card_cryptogram enc host card h c = signed enc (zeros 8) (host ++ card) (zeros-bytes 8) (append-bytes host card h c)

pub bytes-host_cryptogram : (enc host card : List ℕ) → AreBytes host → AreBytes card → AreBytes (host_cryptogram enc host card)
unfolding host_cryptogram
bytes-host_cryptogram enc host card h c = signed enc (zeros 8) (card ++ host) (zeros-bytes 8) (append-bytes card host c h)

pub bytes-cmac_of : (mac start command : List ℕ) (n : ℕ) → AreBytes start → AreBytes command → AreBytes (cmac_of mac start command n)
unfolding cmac_of
bytes-cmac_of mac start command n s c = signed mac start (take n command) s (take-bytes n command c)

pub bytes-rmac_of : (mac start cmac body : List ℕ) → AreBytes start → AreBytes cmac → AreBytes body → AreBytes (rmac_of mac start cmac body)
unfolding rmac_of
bytes-rmac_of mac start cmac body s c b =
    signed mac start (cmac ++ body ++ word 0x9000) s
    (append-bytes (cmac ++ body) (word 0x9000) (append-bytes cmac body c b) (word_bytes 0x9000 (omega arith)))

pub bytes-bank_sent : (dek value : List ℕ) → AreBytes value → AreBytes (bank_sent dek value)
unfolding bank_sent
bytes-bank_sent dek value v = (bytes-cbc_text encipher dek (zeros 8) value (as_bytes (zeros 8) (zeros-bytes 8)) (as_bytes value v)).at

pub bytes-bank_received : (dek value : List ℕ) → AreBytes value → AreBytes (bank_received dek value)
unfolding bank_received
bytes-bank_received dek value v = (bytes-cbc_text decipher dek (zeros 8) value (as_bytes (zeros 8) (zeros-bytes 8)) (as_bytes value v)).at

pub bytes-received : (key value : List ℕ) → AreBytes value → AreBytes (received key value)
unfolding received
bytes-received key value v = (bytes-ecb_text decipher key value (as_bytes value v)).at

-- ---- what was enciphered is deciphered, and the other way round

pub bank_back : (dek value : List ℕ) → AreBytes value → bank_received dek (bank_sent dek value) ≡ value
unfolding bank_received bank_sent
bank_back dek value v = cbc_text_undone encipher dek (zeros 8) value refl (as_bytes (zeros 8) (zeros-bytes 8)) (as_bytes value v)

pub bank-sent_back : (dek value : List ℕ) → AreBytes value → bank_sent dek (bank_received dek value) ≡ value
unfolding bank_received bank_sent
bank-sent_back dek value v = cbc_text_undone decipher dek (zeros 8) value refl (as_bytes (zeros 8) (zeros-bytes 8)) (as_bytes value v)

-- keys and PINs: what was enciphered in ECB is received
pub received_back : (key value : List ℕ) → AreBytes value → received key (ecb_text encipher key value) ≡ value
unfolding received
received_back key value v = ecb_text_undone encipher key value (as_bytes value v)

-- ---- "DES ignores parity bits": two keys that agree but for them do the same

module _ (a b : List ℕ) (p : ButParity 16 a b) where
  pub session_key_parity : (host card : List ℕ) → session_key a host card ≡ session_key b host card
  unfolding session_key
  session_key_parity host card = ecb_text_parity a b p encipher (derivation host card)

  pub card_cryptogram_parity : (host card : List ℕ) → card_cryptogram a host card ≡ card_cryptogram b host card
  unfolding card_cryptogram
  card_cryptogram_parity host card = signature_parity a b p (zeros 8) (host ++ card)

  pub host_cryptogram_parity : (host card : List ℕ) → host_cryptogram a host card ≡ host_cryptogram b host card
  unfolding host_cryptogram
  host_cryptogram_parity host card = signature_parity a b p (zeros 8) (card ++ host)

  pub cmac_of_parity : (start command : List ℕ) (n : ℕ) → cmac_of a start command n ≡ cmac_of b start command n
  unfolding cmac_of
  cmac_of_parity start command n = signature_parity a b p start (take n command)

  pub rmac_of_parity : (start cmac body : List ℕ) → rmac_of a start cmac body ≡ rmac_of b start cmac body
  unfolding rmac_of
  rmac_of_parity start cmac body = signature_parity a b p start (cmac ++ body ++ word 0x9000)

  pub bank_sent_parity : (value : List ℕ) → bank_sent a value ≡ bank_sent b value
  unfolding bank_sent
  bank_sent_parity value = cbc_text_parity a b p encipher (zeros 8) value

  pub bank_received_parity : (value : List ℕ) → bank_received a value ≡ bank_received b value
  unfolding bank_received
  bank_received_parity value = cbc_text_parity a b p decipher (zeros 8) value

  pub received_parity : (value : List ℕ) → received a value ≡ received b value
  unfolding received
  received_parity value = ecb_text_parity a b p decipher value
