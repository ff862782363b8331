-- The structs as bytes: each is as many bytes as its widths say, and reads back as what it was made of. Assumes nothing.
use mathlib.Core.Path.{◌≡◌, refl, ap, ◌∙◌}
use mathlib.Core.Bool.{Bool, true, false}
use mathlib.Core.List.{List, [], ◌∷◌}
use Prim.Native.Nat.{ℕ, ◌<◌}
use native.Mathlib.Omega.{arith}
use lib.ListN.{length, get_or}
use Rattle.octets.specs.Bytes.{AreBytes, Octets, part}
use Rattle.octets.specs.Words.{word}
use Rattle.octets.specs.Tests.{flag_byte}
use Rattle.octets.proofs.Numbers.{word_read, word-at_below}
use Rattle.octets.proofs.Ranges.{part_bytes}
use Rattle.octets.proofs.Octets.{none_octets, append_octets, byte_octets, word_octets, flag_octets, field_octets}
use Rattle.stores.specs.Fields.{offset, joined, Fit}
use Rattle.stores.proofs.Fields.{joined_length}
use Rattle.card.specs.declared.head.Aid.{Aid}
use Rattle.card.specs.declared.head.Fixed.{Fixed}
use Rattle.card.specs.declared.head.KeySet.{KeySet}
use Rattle.card.specs.declared.head.Shared.{Shared}
use Rattle.card.specs.declared.head.Bank.{Bank}
use Rattle.card.specs.declared.head.Purse.{Purse}
use Rattle.card.specs.declared.head.Pin.{Pin}
use Rattle.card.specs.declared.head.State.{State}
use Rattle.card.specs.declared.head.Head.{Head}
use Rattle.card.specs.Keys.{keys_size, key_bytes, keys_in}
use Rattle.card.specs.Proper.{SizedKeys, SizedPurse, SizedHead}
use Rattle.card.proofs.Bytes.{keys_octets, keys_read, keys-sized}
use Rattle.card.proofs.Ranges.{Numbers}
use Rattle.memory.specs.Structs.{flag, aid_widths, aid_size, aid_bytes, aid_in, bank_widths, bank_size, bank_bytes, bank_in, parameter_widths, parameters_size, parameter_bytes, parameters_in, key_set_widths, key_set_size, key_set_bytes, key_set_in, shared_widths, shared_size, shared_bytes, shared_in, pin_widths, pin_size, pin_bytes, pin_in, fixed_widths, fixed_size, fixed_bytes, fixed_in, hot_size, hot_bytes, state_in, balance_in, newest_in, filled_in, cold_widths, cold_size, cold_bytes, purse_in, head_of}
use Rattle.memory.proofs.Places.{part_of, field_of, byte_of, word_of}

flag_read : (b : Bool) → flag (flag_byte b) ≡ b
flag_read true = refl
flag_read false = refl

-- ---- an AID

module _ (a : Aid) (l : length a.bytes ≡ 16) where
  aid_fit : Fit aid_widths ((a.size ∷ []) ∷ a.bytes ∷ [])
  aid_fit = (refl, (l, tt))

  aid-length : length (aid_bytes a) ≡ aid_size
  unfolding aid_bytes
  aid-length = joined_length aid_widths ((a.size ∷ []) ∷ a.bytes ∷ []) aid_fit

  aid_read : aid_in (aid_bytes a) ≡ a
  unfolding aid_bytes aid_in
  aid_read = λ i. record { size = a.size; bytes = field_of aid_widths ((a.size ∷ []) ∷ a.bytes ∷ []) aid_fit 1 (omega arith) i }

aid_octets : (a : Aid) → a.size < 256 → Octets 16 a.bytes → Octets aid_size (aid_bytes a)
unfolding aid_bytes
aid_octets a n o = append_octets (byte_octets n) (append_octets o none_octets)

-- ---- bank information

module _ (b : Bank) (o : Octets 16 b.value) where
  bank_octets : Octets bank_size (bank_bytes b)
  unfolding bank_bytes
  bank_octets = append_octets (flag_octets b.defined) (append_octets o none_octets)

  bank_read : bank_in (bank_bytes b) ≡ b
  unfolding bank_bytes bank_in
  bank_read =
      let fs = (flag_byte b.defined ∷ []) ∷ b.value ∷ [] in
      λ i. record { defined = flag_read b.defined i; value = field_of bank_widths fs (refl, (o.size, tt)) 1 (omega arith) i }

-- ---- parameters

module _ (u : Purse) (z : SizedPurse u) where
  abbrev parameter_fields : List (List ℕ)
  parameter_fields =
      let p = u.parameters in
      (flag_byte p.personalized ∷ []) ∷ p.identifier ∷ word p.currency ∷ word p.maxbalance ∷ word p.maxdebit
      ∷ bank_bytes p.bank ∷ aid_bytes p.agent ∷ []

  parameters_fit : Fit parameter_widths parameter_fields
  parameters_fit =
      (refl, (z.identifier.size, (refl, (refl, (refl, ((bank_octets u.parameters.bank z.bank).size, (aid-length u.parameters.agent z.agent.size, tt)))))))

  parameters_length : length (parameter_bytes u.parameters) ≡ parameters_size
  unfolding parameter_bytes
  parameters_length = joined_length parameter_widths parameter_fields parameters_fit

  parameters_read : parameters_in (parameter_bytes u.parameters) ≡ u.parameters
  unfolding parameter_bytes parameters_in
  parameters_read =
      let p = u.parameters in
      λ i. record {
        personalized = flag_read p.personalized i;
        identifier = field_of parameter_widths parameter_fields parameters_fit 1 (omega arith) i;
        currency = (word_of parameter_widths parameter_fields parameters_fit 2 (omega arith) (omega arith) ∙ word_read p.currency) i;
        maxbalance = (word_of parameter_widths parameter_fields parameters_fit 3 (omega arith) (omega arith) ∙ word_read p.maxbalance) i;
        maxdebit = (word_of parameter_widths parameter_fields parameters_fit 4 (omega arith) (omega arith) ∙ word_read p.maxdebit) i;
        bank = (ap bank_in (part_of parameter_widths parameter_fields parameters_fit 5 (omega arith)) ∙ bank_read p.bank z.bank) i;
        agent = (ap aid_in (part_of parameter_widths parameter_fields parameters_fit 6 (omega arith)) ∙ aid_read p.agent z.agent.size) i;
      }

parameters_octets : (h : Head) → SizedPurse h.purse → Numbers h → Octets parameters_size (parameter_bytes h.purse.parameters)
unfolding parameter_bytes
parameters_octets h z n =
    let p = h.purse.parameters in
    append_octets (flag_octets p.personalized)
    (append_octets z.identifier
    (append_octets (word_octets p.currency z.currency)
    (append_octets (word_octets p.maxbalance n.maxbalance)
    (append_octets (word_octets p.maxdebit n.maxdebit)
    (append_octets (bank_octets p.bank z.bank) (append_octets (aid_octets p.agent n.agent z.agent) none_octets))))))

-- ---- a key set

module _ (k : KeySet) (z : SizedKeys k.keys) where
  set_octets : Octets key_set_size (key_set_bytes k)
  unfolding key_set_bytes
  set_octets = append_octets (flag_octets k.defined) (append_octets (keys_octets k.keys z) none_octets)

  set_read : key_set_in (key_set_bytes k) ≡ k
  unfolding key_set_bytes key_set_in
  set_read =
      let fs = (flag_byte k.defined ∷ []) ∷ key_bytes k.keys ∷ [] in
      let f : Fit key_set_widths fs = (refl, ((keys_octets k.keys z).size, tt)) in
      λ i. record { defined = flag_read k.defined i; keys = (ap keys_in (part_of key_set_widths fs f 1 (omega arith)) ∙ keys_read k.keys z) i }

-- ---- what all purses share

module _ (d : Shared) (z : SizedKeys d.admin) where
  shared_fit : Fit shared_widths (word d.maxnumber ∷ key_bytes d.admin ∷ [])
  shared_fit = (refl, ((keys_octets d.admin z).size, tt))

  shared_length : length (shared_bytes d) ≡ shared_size
  unfolding shared_bytes
  shared_length = joined_length shared_widths (word d.maxnumber ∷ key_bytes d.admin ∷ []) shared_fit

  shared_read : shared_in (shared_bytes d) ≡ d
  unfolding shared_bytes shared_in
  shared_read =
      let e = part_of shared_widths (word d.maxnumber ∷ key_bytes d.admin ∷ []) shared_fit 1 (omega arith) in
      λ i. record { maxnumber = word_read d.maxnumber i; admin = (ap keys_in e ∙ keys_read d.admin z) i }

  shared_octets : d.maxnumber < 65536 → Octets shared_size (shared_bytes d)
  unfolding shared_bytes
  shared_octets n = append_octets (word_octets d.maxnumber n) (append_octets (keys_octets d.admin z) none_octets)

-- ---- the PIN

module _ (p : Pin) (o : Octets 8 p.block) where
  pin_octets : Octets pin_size (pin_bytes p)
  unfolding pin_bytes
  pin_octets = append_octets (flag_octets p.defined) (append_octets o none_octets)

  pin_read : pin_in (pin_bytes p) ≡ p
  unfolding pin_bytes pin_in
  pin_read =
      let fs = (flag_byte p.defined ∷ []) ∷ p.block ∷ [] in
      λ i. record { defined = flag_read p.defined i; block = field_of pin_widths fs (refl, (o.size, tt)) 1 (omega arith) i }

-- ---- the fixed part

module _ (a : Aid) (f : Fixed) (l : length a.bytes ≡ 16) where
  abbrev fixed_fields : List (List ℕ)
  fixed_fields = aid_bytes a ∷ (f.logsize ∷ []) ∷ (f.maxtries ∷ []) ∷ []

  fixed_fit : Fit fixed_widths fixed_fields
  fixed_fit = (aid-length a l, (refl, (refl, tt)))

  pub fixed_length : length (fixed_bytes a f) ≡ fixed_size
  unfolding fixed_bytes
  fixed_length = joined_length fixed_widths fixed_fields fixed_fit

  pub fixed_read : fixed_in (fixed_bytes a f) ≡ f
  unfolding fixed_bytes fixed_in
  fixed_read =
      λ i. record {
        logsize = byte_of fixed_widths fixed_fields fixed_fit 1 (omega arith) (omega arith) i;
        maxtries = byte_of fixed_widths fixed_fields fixed_fit 2 (omega arith) (omega arith) i;
      }

  own_aid : aid_in (part (fixed_bytes a f) (offset fixed_widths 0) aid_size) ≡ a
  unfolding fixed_bytes
  own_aid = ap aid_in (part_of fixed_widths fixed_fields fixed_fit 0 (omega arith)) ∙ aid_read a l

pub fixed_octets : (a : Aid) (f : Fixed) → Octets 16 a.bytes → a.size < 256 → f.logsize < 256 → f.maxtries < 256
    → Octets fixed_size (fixed_bytes a f)
unfolding fixed_bytes
fixed_octets a f o n l t = append_octets (aid_octets a n o) (append_octets (byte_octets l) (append_octets (byte_octets t) none_octets))

-- ---- block H

module _ (s : State) (newest filled balance : ℕ) where
  pub hot_length : length (hot_bytes s newest filled balance) ≡ hot_size
  unfolding hot_bytes
  hot_length = refl

  pub state_read : state_in (hot_bytes s newest filled balance) ≡ s
  unfolding hot_bytes state_in
  state_read = λ i. record { number = word_read s.number i; tries = s.tries }

  pub balance_read : balance_in (hot_bytes s newest filled balance) ≡ balance
  unfolding hot_bytes
  balance_read = word_read balance

  pub newest_read : newest_in (hot_bytes s newest filled balance) ≡ newest
  unfolding hot_bytes
  newest_read = refl

  pub filled_read : filled_in (hot_bytes s newest filled balance) ≡ filled
  unfolding hot_bytes
  filled_read = refl

  pub hot_octets : s.number < 65536 → s.tries < 256 → newest < 256 → filled < 256 → balance < 65536
      → Octets hot_size (hot_bytes s newest filled balance)
  unfolding hot_bytes
  hot_octets n t x y b =
      append_octets (word_octets s.number n)
      (append_octets (byte_octets t) (append_octets (byte_octets x) (append_octets (byte_octets y) (append_octets (word_octets balance b) none_octets))))

-- ---- block C

module _ (h : Head) (z : SizedHead h) where
  abbrev cold_fields : List (List ℕ)
  cold_fields =
      shared_bytes h.shared ∷ pin_bytes h.pin ∷ parameter_bytes h.purse.parameters ∷ key_set_bytes h.purse.debit
      ∷ key_set_bytes h.purse.credit ∷ []

  cold_fit : Fit cold_widths cold_fields
  cold_fit = (
    shared_length h.shared z.admin,
    (
      (pin_octets h.pin z.pin).size,
      (
        parameters_length h.purse z.purse,
        ((set_octets h.purse.debit z.purse.debit).size, ((set_octets h.purse.credit z.purse.credit).size, tt)),
      ),
    ),
  )

  pub cold-length : length (cold_bytes h) ≡ cold_size
  unfolding cold_bytes
  cold-length = joined_length cold_widths cold_fields cold_fit

  pub cold_octets : Numbers h → Octets cold_size (cold_bytes h)
  unfolding cold_bytes
  cold_octets n =
      append_octets (shared_octets h.shared z.admin z.maxnumber)
      (append_octets (pin_octets h.pin z.pin)
      (append_octets (parameters_octets h z.purse n)
      (append_octets (set_octets h.purse.debit z.purse.debit) (append_octets (set_octets h.purse.credit z.purse.credit) none_octets))))

  abbrev C : (k : ℕ) → k < 5 → part (joined cold_fields) (offset cold_widths k) (get_or cold_widths k 0) ≡ get_or cold_fields k []
  C k q = part_of cold_widths cold_fields cold_fit k q

  -- a head whose block C is that of h has h's parameters, keys and PIN
  pub cold_read : (fixed hot : List ℕ) → head_of fixed hot (cold_bytes h) ≡
      record {
        fixed = fixed_in fixed;
        shared = h.shared;
        purse =
            record {
              aid = aid_in (part fixed (offset fixed_widths 0) aid_size);
              parameters = h.purse.parameters;
              debit = h.purse.debit;
              credit = h.purse.credit;
              balance = balance_in hot;
            };
        pin = h.pin;
        state = state_in hot;
      }
  unfolding cold_bytes head_of purse_in
  cold_read fixed hot =
      λ i. record {
        fixed = fixed_in fixed;
        shared = (ap shared_in (C 0 (omega arith)) ∙ shared_read h.shared z.admin) i;
        purse =
            record {
              aid = aid_in (part fixed (offset fixed_widths 0) aid_size);
              parameters = (ap parameters_in (C 2 (omega arith)) ∙ parameters_read h.purse z.purse) i;
              debit = (ap key_set_in (C 3 (omega arith)) ∙ set_read h.purse.debit z.purse.debit) i;
              credit = (ap key_set_in (C 4 (omega arith)) ∙ set_read h.purse.credit z.purse.credit) i;
              balance = balance_in hot;
            };
        pin = (ap pin_in (C 1 (omega arith)) ∙ pin_read h.pin z.pin) i;
        state = state_in hot;
      }

  -- the three blocks of h say h
  pub head_read : (newest filled : ℕ)
      → head_of (fixed_bytes h.purse.aid h.fixed) (hot_bytes h.state newest filled h.purse.balance) (cold_bytes h) ≡ h
  head_read newest filled =
      let a = h.purse.aid in
      let l = z.purse.aid.size in
      cold_read (fixed_bytes a h.fixed) (hot_bytes h.state newest filled h.purse.balance)
      ∙ (λ i. record {
        fixed = fixed_read a h.fixed l i;
        shared = h.shared;
        purse =
            record {
              aid = own_aid a h.fixed l i;
              parameters = h.purse.parameters;
              debit = h.purse.debit;
              credit = h.purse.credit;
              balance = balance_read h.state newest filled h.purse.balance i;
            };
        pin = h.pin;
        state = state_read h.state newest filled h.purse.balance i;
      })

-- ---- what is read has its sizes, whatever the bytes

aid-sized : (s : List ℕ) → AreBytes s → Octets 16 (aid_in s).bytes
unfolding aid_in
aid-sized s f = field_octets s (offset aid_widths 1) 16 f

set-sized : (s : List ℕ) → AreBytes s → SizedKeys (key_set_in s).keys
unfolding key_set_in
set-sized s f = keys-sized (part s (offset key_set_widths 1) keys_size) (part_bytes s (offset key_set_widths 1) keys_size f)

pub head-sized : (fixed hot cold : List ℕ) → AreBytes fixed → AreBytes cold → SizedHead (head_of fixed hot cold)
unfolding head_of purse_in parameters_in bank_in shared_in pin_in
head-sized fixed hot cold f c =
    let B : (k n : ℕ) → AreBytes (part cold (offset cold_widths k) n) = λ k n. part_bytes cold (offset cold_widths k) n c in
    let p = part cold (offset cold_widths 2) parameters_size in
    let d = part cold (offset cold_widths 0) shared_size in
    record {
      maxnumber = word-at_below d (offset shared_widths 0) (B 0 shared_size);
      admin = keys-sized (part d (offset shared_widths 1) keys_size) (part_bytes d (offset shared_widths 1) keys_size (B 0 shared_size));
      purse =
          record {
            aid = aid-sized (part fixed (offset fixed_widths 0) aid_size) (part_bytes fixed (offset fixed_widths 0) aid_size f);
            identifier = field_octets p (offset parameter_widths 1) 4 (B 2 parameters_size);
            currency = word-at_below p (offset parameter_widths 2) (B 2 parameters_size);
            bank =
                field_octets (part p (offset parameter_widths 5) bank_size) (offset bank_widths 1) 16
                (part_bytes p (offset parameter_widths 5) bank_size (B 2 parameters_size));
            agent =
                aid-sized (part p (offset parameter_widths 6) aid_size) (part_bytes p (offset parameter_widths 6) aid_size (B 2 parameters_size));
            debit = set-sized (part cold (offset cold_widths 3) key_set_size) (B 3 key_set_size);
            credit = set-sized (part cold (offset cold_widths 4) key_set_size) (B 4 key_set_size);
          };
      pin = field_octets (part cold (offset cold_widths 1) pin_size) (offset pin_widths 1) 8 (B 1 pin_size);
    }
