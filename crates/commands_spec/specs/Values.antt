-- The values that tags 01 to 07 may have, by the table of document 01, "What the card keeps": a value as GET DATA reads it, and as STORE
-- DATA and PUT DATA carry it. "Bank information is enciphered under [DEK] in CBC with zero start, but plain in GET DATA." Assumes nothing.
use Rattle.std.specs.Prelude.{List, [], ◌∷◌, ◌++◌, ◌≡◌, ℕ, ◌≤◌, length}
use Rattle.octets.specs.Bytes.{AreBytes, zeros}
use Rattle.octets.specs.Words.{word, word_at}
use Rattle.des_spec.specs.Des.{encipher}
use Rattle.des_spec.specs.Modes.{cbc_text}
use Rattle.card.specs.declared.head.Head.{Head}

-- under a DEK: the tag, the value, and the value as sent; "Length 0 of 06 or 07 means undefined"
pub data Value (dek : List ℕ) : ℕ → List ℕ → List ℕ → Type 0 where
  identifier : (v : List ℕ) → length v ≡ 4 → Value dek 0x01 v v
  currency : (n : ℕ) → Value dek 0x02 (word n) (word n)
  maximum_balance : (n : ℕ) → n ≤ 32767 → Value dek 0x03 (word n) (word n)
  maximum_debit : (n : ℕ) → n ≤ 32767 → Value dek 0x04 (word n) (word n)
  maximum_number : (n : ℕ) → Value dek 0x05 (word n) (word n)
  bank : (v : List ℕ) → length v ≡ 16 → AreBytes v → Value dek 0x06 v (cbc_text encipher dek (zeros 8) v)
  no_bank : Value dek 0x06 [] []
  agent : (v : List ℕ) → 5 ≤ length v → length v ≤ 16 → Value dek 0x07 v v
  no_agent : Value dek 0x07 [] []

-- the tags of the table: values 01 to 07, state variables 14 to 17
pub data KnownTag : ℕ → Type 0 where
  known_value : (tag : ℕ) → 0x01 ≤ tag → tag ≤ 0x07 → KnownTag tag
  known_variable : (tag : ℕ) → 0x14 ≤ tag → tag ≤ 0x17 → KnownTag tag

-- what PUT DATA may set on a card: no identifier, a currency where the balance is 0, no maximum below what it bounds
pub record Settable (h : Head) (tag : ℕ) (v : List ℕ) : Type 0 where
  pub identifier : tag ≡ 0x01 → ⊥
  pub currency : tag ≡ 0x02 → h.purse.balance ≡ 0
  pub balance : tag ≡ 0x03 → h.purse.balance ≤ word_at v 0
  pub number : tag ≡ 0x05 → h.state.number ≤ word_at v 0

-- ---- STORE DATA's TLVs

-- a tag, and its value as sent
pub record Tlv : Type 0 where
  pub tag : ℕ
  pub sent : List ℕ

-- their bytes: tag, length, value, one TLV after the other
unfoldable pub flat : List Tlv → List ℕ
flat [] = []
flat (x ∷ xs) = x.tag ∷ length x.sent ∷ x.sent ++ flat xs

-- no TLV of a list has a tag
unfoldable pub Apart : ℕ → List Tlv → Type 0
Apart tag [] = Unit {0}
Apart tag (x ∷ xs) = (x.tag ≡ tag → ⊥) × Apart tag xs

-- one of them carries a value under a tag
pub data Carries (dek : List ℕ) (tag : ℕ) (v : List ℕ) : List Tlv → Type 0 where
  here : {x : Tlv} {xs : List Tlv} → x.tag ≡ tag → Value dek tag v x.sent → Carries dek tag v (x ∷ xs)
  there : {x : Tlv} {xs : List Tlv} → Carries dek tag v xs → Carries dek tag v (x ∷ xs)

-- each carries a value of 01's table, and no tag is repeated
pub data Listed (dek : List ℕ) : List Tlv → Type 0 where
  none : Listed dek []
  more : {x : Tlv} {xs : List Tlv} (v : List ℕ) → Value dek x.tag v x.sent → Apart x.tag xs → Listed dek xs → Listed dek (x ∷ xs)
