-- "The order that decides", steps 7 to 11, in words: for each command a row of reasons, the first that holds refuses with its word, and
-- 9000 is given where none does. The reasons speak of cards, key sets, bytes and numbers. Assumes nothing.
use Rattle.std.specs.Prelude.{Bool, true, false, List, ◌≡◌, ℕ, ◌+◌, ◌≤◌, ◌<◌}
use Rattle.octets.specs.Words.{word_at}
use Rattle.des_spec.specs.Des.{decipher}
use Rattle.des_spec.specs.Modes.{ecb_text}
use Rattle.card.specs.declared.head.KeySet.{KeySet}
use Rattle.card.specs.declared.head.Head.{Head}
use Rattle.card.specs.Pin.{block_of, Digits}
use Rattle.session.specs.declared.Set.{Set}
use Rattle.session.specs.declared.Set.TheVariants.{Credit, Admin}
use Rattle.session.specs.declared.Level.{Level}
use Rattle.session.specs.declared.Level.TheVariants.{Mac, Rmac}
use Rattle.session.specs.declared.Pending.{Pending}
use Rattle.session.specs.declared.Pending.TheVariants.{Update, Debiting, Crediting}
use Rattle.session.specs.declared.Session.{Session}
use Rattle.commands_spec.specs.Allowed.{Entitled}
use Rattle.commands_spec.specs.Values.{Value, Tlv, flat, Carries, Listed}

-- a reason and its word, and what is said of the status word where the reason doesn't hold
pub data Rule (P : Type 0) (w : ℕ) (rest : ℕ → Type 0) : ℕ → Type 0 where
  refuses : P → Rule P w rest w
  passes : {n : ℕ} → (P → ⊥) → rest n → Rule P w rest n

-- nothing refuses
pub data Done : ℕ → Type 0 where
  accepted : Done 0x9000

-- ---- what opens the channel

-- INITIALIZE UPDATE of a set: "Undefined set: 6A88"
abbrev pub update_rules : KeySet → ℕ → Type 0
update_rules k = Rule (k.defined ≡ false) 0x6A88 Done

-- EXTERNAL AUTHENTICATE: "not directly after a successful INITIALIZE UPDATE 6985; cryptogram wrong 6300; C-MAC wrong 6982"
abbrev pub authenticate_rules : Session → List ℕ → List ℕ → List ℕ → ℕ → Type 0
authenticate_rules s cryptogram mac right =
    Rule ((set : Set) → s.pending ≡ Update set → ⊥) 0x6985
    (Rule (cryptogram ≡ s.offer.expected → ⊥) 0x6300
    (Rule (mac ≡ right → ⊥) 0x6982
    Done))

-- ---- administration

-- "ADMIN": the channel is not of set 3
abbrev pub NotAdmin : Set → Type 0
NotAdmin set = set ≡ Admin → ⊥

-- PUT KEY
abbrev pub put_key_rules : Set → ℕ → Type 0
put_key_rules set = Rule (NotAdmin set) 0x6982 Done

-- the data are the block of some PIN, under DEK
pub record IsPin (dek body : List ℕ) : Type 0 where
  pub digits : List ℕ
  pub each : Digits digits
  pub block : ecb_text decipher dek body ≡ block_of digits

-- UNBLOCK: "Unblock with no PIN: 6A81"
abbrev pub unblock_rules : Head → Set → ℕ → Type 0
unblock_rules h set = Rule (h.pin.defined ≡ false) 0x6A81 (Rule (NotAdmin set) 0x6982 Done)

-- PIN CHANGE: "PIN block: ..; else 6A80"
abbrev pub pin_change_rules : Set → List ℕ → List ℕ → ℕ → Type 0
pin_change_rules set dek body = Rule (NotAdmin set) 0x6982 (Rule (IsPin dek body → ⊥) 0x6A80 Done)

-- the bytes are those of some TLVs
pub record IsTlvs (body : List ℕ) : Type 0 where
  pub tlvs : List Tlv
  pub bytes : flat tlvs ≡ body

-- and these carry values of 01's table, no tag twice, 01 to 05 among them
pub record IsWhole (dek body : List ℕ) : Type 0 where
  pub tlvs : List Tlv
  pub bytes : flat tlvs ≡ body
  pub listed : Listed dek tlvs
  pub needed : (tag : ℕ) → 0x01 ≤ tag → tag ≤ 0x05 → (v : List ℕ) × Carries dek tag v tlvs

-- STORE DATA: "Personalized, or set 1 or 2 undefined: 6985. First, a TLV past the end anywhere: 6A85. Then a tag outside 01 to 07 or
-- repeated, 01–05 missing, wrong length or range: 6A80"
abbrev pub store_rules : Head → Set → List ℕ → List ℕ → ℕ → Type 0
store_rules h set dek body =
    Rule ((h.purse.parameters.personalized ≡ false) × (h.purse.debit.defined ≡ true) × (h.purse.credit.defined ≡ true) → ⊥) 0x6985
    (Rule (NotAdmin set) 0x6982
    (Rule (IsTlvs body → ⊥) 0x6A85
    (Rule (IsWhole dek body → ⊥) 0x6A80
    Done)))

-- the data are a value of 01's table under a tag
pub record IsValue (dek : List ℕ) (tag : ℕ) (sent : List ℕ) : Type 0 where
  pub plain : List ℕ
  pub value : Value dek tag plain sent

-- PUT DATA: "State variable, identifier, or currency with balance above 0 6A81; length or range, balance above the new maximum, or number
-- above it 6A80"
abbrev pub put_data_rules : Head → Set → List ℕ → ℕ → List ℕ → ℕ → Type 0
put_data_rules h set dek tag sent =
    Rule (h.purse.parameters.personalized ≡ false) 0x6985
    (Rule ((tag ≤ 0x07) × (tag ≡ 0x01 → ⊥) × (tag ≡ 0x02 → h.purse.balance ≡ 0) → ⊥) 0x6A81
    (Rule (NotAdmin set) 0x6982
    (Rule (IsValue dek tag sent → ⊥) 0x6A80
    (Rule ((tag ≡ 0x03 → h.purse.balance ≤ word_at sent 0) × (tag ≡ 0x05 → h.state.number ≤ word_at sent 0) → ⊥) 0x6A80
    Done))))

-- ---- PIN and transactions

-- a channel of set 2 or 3, at either level
pub data AtLeastCredit : Level → Type 0 where
  credit-mac : AtLeastCredit (Mac Credit)
  credit_rmac : AtLeastCredit (Rmac Credit)
  admin-mac : AtLeastCredit (Mac Admin)
  admin_rmac : AtLeastCredit (Rmac Admin)

-- VERIFY PIN: "Unpersonalized 6985; no PIN 6A81; below CREDIT 6982; no tries 6983. A wrong or ill-formed PIN: .. 6300"
abbrev pub verify_rules : Head → Session → List ℕ → ℕ → Type 0
verify_rules h s body =
    Rule (h.purse.parameters.personalized ≡ false) 0x6985
    (Rule (h.pin.defined ≡ false) 0x6A81
    (Rule (AtLeastCredit s.channel.level → ⊥) 0x6982
    (Rule (h.state.tries ≡ 0) 0x6983
    (Rule (ecb_text decipher s.channel.enc body ≡ h.pin.block → ⊥) 0x6300
    Done))))

-- INITIALIZE TRANSACTION in a channel of a set, at security level 01 or 11; 6982 as document 02, request 1, has it
abbrev pub initialize_rules : Head → Set → ℕ → Bool → ℕ → ℕ → ℕ → ℕ → Type 0
initialize_rules h set level flag p1 currency amount =
    Rule (h.purse.parameters.personalized ≡ false) 0x6985
    (Rule ((p1 ≡ 0x02) × ((h.purse.parameters.bank.defined ≡ true) × (h.pin.defined ≡ true) → ⊥)) 0x6A81
    (Rule (Entitled p1 set flag → ⊥) 0x6982
    (Rule (level ≡ 0x11 → ⊥) 0x6982
    (Rule (h.shared.maxnumber ≤ h.state.number) 0x9410
    (Rule (currency ≡ h.purse.parameters.currency → ⊥) 0x9411
    (Rule ((0 < amount) × (amount < 0x8000) → ⊥) 0x9412
    (Rule ((p1 ≡ 0x00) × ((amount ≤ h.purse.parameters.maxdebit) × (amount ≤ h.purse.balance) → ⊥)) 0x9413
    (Rule ((p1 ≡ 0x00 → ⊥) × (h.purse.parameters.maxbalance < h.purse.balance + amount)) 0x9414
    Done))))))))

-- what is noted would pass a balance limit
pub data PassesLimit (h : Head) : Pending → Type 0 where
  below_zero : (amount : ℕ) → h.purse.balance < amount → PassesLimit h (Debiting amount)
  past_maximum : (amount : ℕ) → h.purse.parameters.maxbalance < h.purse.balance + amount → PassesLimit h (Crediting amount)

-- an amount is noted
pub data Noted : Pending → Type 0 where
  a_debit : (amount : ℕ) → Noted (Debiting amount)
  a_credit : (amount : ℕ) → Noted (Crediting amount)

-- COMPLETE TRANSACTION: "personalized and directly after a successful INITIALIZE TRANSACTION, else 6985; level 11. Also 6985 if it would
-- pass a balance or number limit"
abbrev pub complete_rules : Head → ℕ → Pending → ℕ → Type 0
complete_rules h level pending =
    Rule (h.purse.parameters.personalized ≡ false) 0x6985
    (Rule (Noted pending → ⊥) 0x6985
    (Rule (level ≡ 0x11 → ⊥) 0x6982
    (Rule (h.shared.maxnumber ≤ h.state.number) 0x6985
    (Rule (PassesLimit h pending) 0x6985
    Done))))
