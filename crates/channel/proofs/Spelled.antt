-- The secure channel spelled by bytes: what each key enciphers, what each signature covers, what travels enciphered. Assumes nothing.
use mathlib.Core.List.{List, [], ◌∷◌, ◌++◌, append_assoc, append-nil}
use mathlib.Core.Path.{◌≡◌, refl, sym, ap, ◌∙◌}
use Prim.Native.Nat.{ℕ, zero, suc, ◌+◌, ◌-◌, ◌*◌}
use native.Mathlib.Omega.{arith}
use lib.ListN.{length, take, drop, length-append, length-drop, drop_of_length-le}
use lib.Seq.{take_at, drop_at, drop-drop, take_all}
use Rattle.octets.specs.Bytes.{zeros}
use Rattle.des_spec.specs.Bits.{xor_bytes}
use Rattle.des_spec.specs.Des.{encipher, decipher}
use Rattle.des_spec.specs.Modes.{triple_des, ecb, cbc_encipher, cbc, blocks, rest, ecb_text, cbc_text, padded, last_block, signature}
use Rattle.des_spec.proofs.Lengths.{length-triple_des}
use Rattle.des_spec.proofs.Padding.{blocks-padded, rest-padded}
use Rattle.channel.specs.Channel.{derivation, session_key, card_cryptogram, host_cryptogram, cmac_of, rmac_of, bank_sent, received}

-- ---- a signature has eight bytes, whatever it starts from

cbc-long : (n : ℕ) (key start text : List ℕ) → length (cbc_encipher n key start text) ≡ 8 * n
unfolding cbc_encipher
cbc-long zero key start text = refl
cbc-long (suc n) key start text =
    let c = triple_des encipher key (xor_bytes (take 8 text) start) in
    let a : length c ≡ 8 = length-triple_des encipher key (xor_bytes (take 8 text) start) in
    let b : length (cbc_encipher n key c (drop 8 text)) ≡ 8 * n = cbc-long n key c (drop 8 text) in
    length-append c (cbc_encipher n key c (drop 8 text)) ∙ omega arith

-- so it has
pub signature-long : (key start text : List ℕ) → length (signature key start text) ≡ 8
unfolding signature last_block cbc_text cbc
signature-long key start text =
    let p = padded text in
    let t = cbc_text encipher key start p in
    let n : length t ≡ 8 * suc (blocks text) =
    length-append (cbc_encipher (blocks p) key start p) (rest p) ∙ rw (rest-padded text) (rw (cbc-long (blocks p) key start p, blocks-padded text) (omega arith)) in
    length-drop (length t - 8) t ∙ omega arith

-- ---- session keys and cryptograms

-- two challenges of eight bytes, h of the host and c of the card
module _ (h1 h2 h3 h4 h5 h6 h7 h8 c1 c2 c3 c4 c5 c6 c7 c8 : ℕ) where
  -- the host's
  abbrev host : List ℕ
  host = h1 ∷ h2 ∷ h3 ∷ h4 ∷ h5 ∷ h6 ∷ h7 ∷ h8 ∷ []

  -- the card's
  abbrev card : List ℕ
  card = c1 ∷ c2 ∷ c3 ∷ c4 ∷ c5 ∷ c6 ∷ c7 ∷ c8 ∷ []

  -- what is made of them under a stored key and under the ENC session key
  pub record Challenged (key enc : List ℕ) : Type 0 where
    -- "encrypt, by triple DES in ECB, card challenge bytes 5–8, host challenge 1–4, card 1–4, host 5–8"
    pub session : session_key key host card
        ≡ triple_des encipher key (c5 ∷ c6 ∷ c7 ∷ c8 ∷ h1 ∷ h2 ∷ h3 ∷ h4 ∷ []) ++ triple_des encipher key (c1 ∷ c2 ∷ c3 ∷ c4 ∷ h5 ∷ h6 ∷ h7 ∷ h8 ∷ [])
    -- "Card cryptogram: ENC key, zero start, host challenge then card challenge, padded"
    pub of_card : card_cryptogram enc host card
        ≡ signature enc (0 ∷ 0 ∷ 0 ∷ 0 ∷ 0 ∷ 0 ∷ 0 ∷ 0 ∷ [])
        (h1 ∷ h2 ∷ h3 ∷ h4 ∷ h5 ∷ h6 ∷ h7 ∷ h8 ∷ c1 ∷ c2 ∷ c3 ∷ c4 ∷ c5 ∷ c6 ∷ c7 ∷ c8 ∷ [])
    -- "host cryptogram: card challenge first"
    pub of_host : host_cryptogram enc host card
        ≡ signature enc (0 ∷ 0 ∷ 0 ∷ 0 ∷ 0 ∷ 0 ∷ 0 ∷ 0 ∷ [])
        (c1 ∷ c2 ∷ c3 ∷ c4 ∷ c5 ∷ c6 ∷ c7 ∷ c8 ∷ h1 ∷ h2 ∷ h3 ∷ h4 ∷ h5 ∷ h6 ∷ h7 ∷ h8 ∷ [])

  -- so they are made
  pub challenged : (key enc : List ℕ) → Challenged key enc
  unfolding session_key derivation ecb_text ecb blocks rest card_cryptogram host_cryptogram
  challenged key enc = record { session = simp append-nil; of_card = refl; of_host = refl }

-- ---- signatures of commands and answers

-- "C-MAC: MAC key over the five header bytes (Lc counting the MAC) and the data before it"
pub cmac_text : (key start : List ℕ) (cla ins p1 p2 lc : ℕ) (body mac : List ℕ)
    → cmac_of key start (cla ∷ ins ∷ p1 ∷ p2 ∷ lc ∷ (body ++ mac)) (5 + length body) ≡ signature key start (cla ∷ ins ∷ p1 ∷ p2 ∷ lc ∷ body)
unfolding cmac_of
cmac_text key start cla ins p1 p2 lc body mac =
    ap (signature key start) (take_at (cla ∷ ins ∷ p1 ∷ p2 ∷ lc ∷ body) mac (5 + length body) (omega arith))

-- "R-MAC: MAC key over this command's C-MAC, response data, 90 00"
pub rmac_text : (key start cmac body : List ℕ) → rmac_of key start cmac body ≡ signature key start (cmac ++ (body ++ (0x90 ∷ 0x00 ∷ [])))
unfolding rmac_of
rmac_text key start cmac body = rw append_assoc

-- ---- what travels enciphered

-- one block more
next-block : (block more : List ℕ) → length block ≡ 8 → blocks (block ++ more) ≡ suc (blocks more)
unfolding blocks
next-block block more l = omega (arith, length-append block more)

-- "keys and PINs in ECB": each block of eight bytes is deciphered by itself
pub received-block : (key block more : List ℕ) → length block ≡ 8 → received key (block ++ more) ≡ triple_des decipher key block ++ received key more
unfolding received ecb_text ecb rest
received-block key block more l =
    let n = blocks more in
    let e : 8 * suc n ≡ 8 + 8 * n = omega arith in
    let d : drop (8 + 8 * n) (block ++ more) ≡ drop (8 * n) more = sym (drop-drop (8 * n) 8 (block ++ more)) ∙ ap (drop (8 * n)) (drop_at block more 8 l) in
    rw (next-block block more l, take_at block more 8 l, drop_at block more 8 l, e, d) (append_assoc (triple_des decipher key block) (ecb n decipher key more) (drop (8 * n) more))

-- "Bank information is enciphered under it in CBC with zero start": two blocks
pub bank-blocks : (dek first second : List ℕ) → length first ≡ 8 → length second ≡ 8
    → bank_sent dek (first ++ second)
    ≡ triple_des encipher dek (xor_bytes first (zeros 8)) ++ triple_des encipher dek (xor_bytes second (triple_des encipher dek (xor_bytes first (zeros 8))))
unfolding bank_sent cbc_text cbc cbc_encipher rest
bank-blocks dek first second l m =
    let n : blocks (first ++ second) ≡ 2 = unfold blocks in omega (arith, length-append first second) in
    let z : drop 16 (first ++ second) ≡ [] = drop_of_length-le (first ++ second) {i = 16} (rw length-append (omega arith)) in
    rw (n, take_at first second 8 l, drop_at first second 8 l, take_all 8 second (omega arith), z) (simp append-nil)
