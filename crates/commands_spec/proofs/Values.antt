-- Exactly the values of document 01's table are taken; what is set under a tag is read under it; each tag reads as what it names. Assumes nothing.
use mathlib.Core.Bool.{Bool, true, false, ◌&&◌, ◌||◌, false≢true}
use mathlib.Core.List.{List, [], ◌∷◌, ◌++◌}
use mathlib.Core.Path.{◌≡◌, refl, sym, ap, ◌∙◌, subst}
use Prim.Native.Nat.{ℕ, zero, suc, ◌+◌, ◌*◌, ◌/◌, ◌%◌, ◌≤◌, ◌<◌, ◌-◌}
use native.Mathlib.Omega.{arith}
use native.Mathlib.Nat.{min-eq_left}
use borrow.Author.Tests.{leb-true, leb-false, eqb-true, eq-eqb, ne_eqb, le-leb}
use lib.Dec.{leb, eqb}
use lib.ListN.{length, take}
use lib.Seq.{take_at, take_all, take-take}
use Rattle.octets.specs.Choice.{pick}
use Rattle.octets.specs.Bytes.{AreBytes, zeros, field}
use Rattle.octets.specs.Words.{word, word_at}
use Rattle.octets.proofs.Conditions.{and_both}
use Rattle.octets.proofs.Rules.{and_yes, or_left, or_right, pick_holds}
use Rattle.octets.proofs.Numbers.{word_read}
use Rattle.octets.proofs.Parts.{field-part}
use Rattle.card.specs.declared.head.Head.{Head}
use Rattle.apdu.specs.Parameters.{is_tag}
use Rattle.channel.specs.Channel.{bank_sent, bank_received}
use Rattle.channel.proofs.Results.{length-bank_sent, length-bank_received, bytes-bank_received, bank_back, bank-sent_back}
use Rattle.card.specs.Updates.{with_parameters, with_maxnumber, with_purse}
use Rattle.commands_spec.specs.Status.{administrative}
use Rattle.commands_spec.specs.Data.{maximum_ok, bank_length, agent_length, value_ok, bank_of, agent_of, parameter_set, datum_set, datum}
use Rattle.commands_spec.specs.Values.{Value, identifier, currency, maximum_balance, maximum_debit, maximum_number, bank, no_bank, agent, no_agent, KnownTag, known_value, known_variable}
use Rattle.commands_spec.specs.Shown.{Reads, reads_identifier, reads_currency, reads_maximum_balance, reads_maximum_debit, reads_maximum_number, reads_bank, reads_no_bank, reads_agent, reads_number, reads_balance, reads_tries, reads_status}
use Rattle.commands_spec.specs.Order.{IsValue}
use Rattle.commands_spec.proofs.Shown.{administrative-shown}

-- a field that has the whole of a byte string
field-whole : (v : List ℕ) (n : ℕ) → length v ≡ n → field v 0 n ≡ v
field-whole v n e = field-part v 0 n (omega arith) ∙ take_all n v (omega arith)

-- bytes in front of a longer field
field_front : (v : List ℕ) (n : ℕ) → length v ≤ n → take (length v) (field v 0 n) ≡ v
unfolding field
field_front v n h = take-take (length v) n (v ++ zeros n) h ∙ take_at v (zeros n) (length v) refl

-- what holds of each number up to 7
pub up_to_seven : (P : ℕ → Type 0) → P 0 → P 1 → P 2 → P 3 → P 4 → P 5 → P 6 → P 7 → (n : ℕ) → n ≤ 7 → P n
up_to_seven P a b c d e f g h zero k = a
up_to_seven P a b c d e f g h (suc zero) k = b
up_to_seven P a b c d e f g h (suc (suc zero)) k = c
up_to_seven P a b c d e f g h (suc (suc (suc zero))) k = d
up_to_seven P a b c d e f g h (suc (suc (suc (suc zero)))) k = e
up_to_seven P a b c d e f g h (suc (suc (suc (suc (suc zero))))) k = f
up_to_seven P a b c d e f g h (suc (suc (suc (suc (suc (suc zero)))))) k = g
up_to_seven P a b c d e f g h (suc (suc (suc (suc (suc (suc (suc zero))))))) k = h
up_to_seven P a b c d e f g h (suc (suc (suc (suc (suc (suc (suc (suc n)))))))) k = absurd (omega arith)

module _ (dek : List ℕ) where
  -- a value of the table is taken
  pub value_taken : {tag : ℕ} {v sent : List ℕ} → Value dek tag v sent → value_ok tag sent ≡ true
  unfolding value_ok maximum_ok bank_length agent_length bank_sent
  value_taken (identifier v l) = eq-eqb _ _ l
  value_taken (currency n) = refl
  value_taken (maximum_balance n h) = le-leb (word_at (word n) 0) 32767 (rw (word_read n) h)
  value_taken (maximum_debit n h) = le-leb (word_at (word n) 0) 32767 (rw (word_read n) h)
  value_taken (maximum_number n) = refl
  value_taken (bank v l f) = rw (length-bank_sent dek v, l)
  value_taken no_bank = refl
  value_taken (agent v h k) = rw (ne_eqb (length v) 0 (λ z. omega arith), le-leb 5 (length v) h, le-leb (length v) 16 k)
  value_taken no_agent = refl

  -- its tag is one of 01 to 07
  pub value-within : {tag : ℕ} {v sent : List ℕ} → Value dek tag v sent → (leb 0x01 tag ≡ true) × (leb tag 0x07 ≡ true)
  value-within (identifier v l) = (refl, refl)
  value-within (currency n) = (refl, refl)
  value-within (maximum_balance n h) = (refl, refl)
  value-within (maximum_debit n h) = (refl, refl)
  value-within (maximum_number n) = (refl, refl)
  value-within (bank v l f) = (refl, refl)
  value-within no_bank = (refl, refl)
  value-within (agent v h k) = (refl, refl)
  value-within no_agent = (refl, refl)

  -- what is set under a tag is read under it
  pub value_read : {tag : ℕ} {v sent : List ℕ} (h : Head) (flag : Bool) → Value dek tag v sent → datum (datum_set dek tag sent h) flag tag ≡ v
  unfolding datum datum_set parameter_set with_parameters with_maxnumber with_purse bank_of agent_of bank_sent
  value_read h flag (identifier v l) = field-whole v 4 l
  value_read h flag (currency n) = ap word (word_read n)
  value_read h flag (maximum_balance n k) = ap word (word_read n)
  value_read h flag (maximum_debit n k) = ap word (word_read n)
  value_read h flag (maximum_number n) = ap word (word_read n)
  value_read h flag (bank v l f) =
      rw (length-bank_sent dek v, l, field-whole (bank_sent dek v) 16 (length-bank_sent dek v ∙ l), bank_back dek v f)
  value_read h flag no_bank = refl
  value_read h flag (agent v j k) = rw (min-eq_left k) (field_front v 16 k)
  value_read h flag no_agent = refl

  -- and under no other of the tags 01 to 07
  pub value_apart : (tag other : ℕ) (sent : List ℕ) (h : Head) (flag : Bool) → other ≤ 0x07 → (tag ≡ other → ⊥)
      → datum (datum_set dek tag sent h) flag other ≡ datum h flag other
  unfolding datum datum_set parameter_set with_parameters with_maxnumber with_purse
  value_apart tag other sent h flag =
      up_to_seven (λ (o : ℕ). (tag ≡ o → ⊥) → datum (datum_set dek tag sent h) flag o ≡ datum h flag o)
      (λ n. refl) (λ n. either 0x01 refl (rw (ne_eqb tag 0x01 n))) (λ n. either 0x02 refl (rw (ne_eqb tag 0x02 n)))
      (λ n. either 0x03 refl (rw (ne_eqb tag 0x03 n))) (λ n. either 0x04 refl (rw (ne_eqb tag 0x04 n))) (λ n. rw (ne_eqb tag 0x05 n))
      (λ n. either 0x06 refl (rw (ne_eqb tag 0x06 n))) (λ n. either 0x07 refl (rw (ne_eqb tag 0x07 n))) other
    where
      -- of both branches
      either : (o : ℕ) → datum (with_maxnumber (word_at sent 0) h) flag o ≡ datum h flag o
          → datum (with_parameters (parameter_set dek tag sent h.purse.parameters) h) flag o ≡ datum h flag o
          → datum (pick (eqb tag 0x05) (with_maxnumber (word_at sent 0) h) (with_parameters (parameter_set dek tag sent h.purse.parameters) h)) flag o ≡ datum h flag o
      either o d e = pick_holds (λ (x : Head). datum x flag o ≡ datum h flag o) (eqb tag 0x05) _ _ (λ t. d) (λ t. e)

-- the tags of the table are known
pub known_tag : (tag : ℕ) → KnownTag tag → is_tag tag ≡ true
unfolding is_tag
known_tag tag (known_value t x y) = or_left (leb 0x01 tag && leb tag 0x07) _ (and_yes _ _ (le-leb 0x01 tag x) (le-leb tag 0x07 y))
known_tag tag (known_variable t x y) = or_right (leb 0x01 tag && leb tag 0x07) (leb 0x14 tag && leb tag 0x17) (and_yes _ _ (le-leb 0x14 tag x) (le-leb tag 0x17 y))

-- ---- and nothing else is taken

-- two bytes are those of their number
word_back : (v : List ℕ) → AreBytes v → length v ≡ 2 → word (word_at v 0) ≡ v
word_back [] f e = absurd (omega arith)
word_back (x ∷ []) f e = absurd (omega arith)
word_back (x ∷ y ∷ []) f e =
    let b : y < 256 = f 1 in
    let p : (x * 256 + y) / 256 ≡ x = omega arith in
    let q : (x * 256 + y) % 256 ≡ y = omega arith in
    rw (p, q)
word_back (x ∷ y ∷ z ∷ v) f e = absurd (omega arith)

empty : (v : List ℕ) → length v ≡ 0 → v ≡ []
empty [] e = refl
empty (x ∷ v) e = absurd (omega arith)

module _ (dek : List ℕ) where
  -- a tag above 07 takes no value
  tag-within : (tag : ℕ) (sent : List ℕ) → value_ok tag sent ≡ true → tag ≤ 7
  unfolding value_ok
  tag-within tag sent e = go (leb tag 7) refl
    where
      go : (b : Bool) → leb tag 7 ≡ b → tag ≤ 7
      go true p = leb-true tag 7 p
      go false p =
          let k = leb-false tag 7 p in
          let z : value_ok tag sent ≡ false =
          rw (
            ne_eqb tag 0x01 (λ q. omega arith),
            ne_eqb tag 0x02 (λ q. omega arith),
            ne_eqb tag 0x03 (λ q. omega arith),
            ne_eqb tag 0x04 (λ q. omega arith),
            ne_eqb tag 0x05 (λ q. omega arith),
            ne_eqb tag 0x06 (λ q. omega arith),
            ne_eqb tag 0x07 (λ q. omega arith),
          )
          in
          absurd (false≢true (sym z ∙ e))

  as_word : (tag : ℕ) (sent : List ℕ) → AreBytes sent → length sent ≡ 2 → ((n : ℕ) → n ≡ word_at sent 0 → Value dek tag (word n) (word n)) → IsValue dek tag sent
  as_word tag sent f e g =
      record { plain = sent; value = subst (λ (z : List ℕ). Value dek tag z z) (word_back sent f e) (g (word_at sent 0) refl) }

  bank-only : (sent : List ℕ) → AreBytes sent → bank_length (length sent) ≡ true → IsValue dek 0x06 sent
  unfolding bank_length bank_sent
  bank-only sent f e = go (eqb (length sent) 0) refl e
    where
      go : (b : Bool) → eqb (length sent) 0 ≡ b → (b || eqb (length sent) 16) ≡ true → IsValue dek 0x06 sent
      go true p q = record { plain = []; value = subst (Value dek 0x06 []) (sym (empty sent (eqb-true _ _ p))) no_bank }
      go false p q =
          let v = bank_received dek sent in
          record {
            plain = v;
            value = subst (Value dek 0x06 v) (bank-sent_back dek sent f) (bank v (length-bank_received dek sent ∙ eqb-true _ _ q) (bytes-bank_received dek sent f));
          }

  agent-only : (sent : List ℕ) → agent_length (length sent) ≡ true → IsValue dek 0x07 sent
  unfolding agent_length
  agent-only sent e = go (eqb (length sent) 0) refl e
    where
      go : (b : Bool) → eqb (length sent) 0 ≡ b → (b || (leb 5 (length sent) && leb (length sent) 16)) ≡ true → IsValue dek 0x07 sent
      go true p q = record { plain = []; value = subst (Value dek 0x07 []) (sym (empty sent (eqb-true _ _ p))) no_agent }
      go false p q =
          let k = and_both (leb 5 (length sent)) (leb (length sent) 16) q in
          record { plain = sent; value = agent sent (leb-true _ _ k.0) (leb-true _ _ k.1) }

  -- what is taken is a value of the table
  pub value-only : (tag : ℕ) (sent : List ℕ) → AreBytes sent → value_ok tag sent ≡ true → IsValue dek tag sent
  unfolding value_ok maximum_ok
  value-only tag sent f e =
      up_to_seven (λ (n : ℕ). value_ok n sent ≡ true → IsValue dek n sent)
      (λ k. absurd (false≢true k))
      (λ k. record { plain = sent; value = identifier sent (eqb-true _ _ k) })
      (λ k. as_word 0x02 sent f (eqb-true _ _ k) (λ n q. currency n))
      (λ k. let m = and_both (eqb (length sent) 2) (leb (word_at sent 0) 32767) k in
      as_word 0x03 sent f (eqb-true _ _ m.0) (λ n q. maximum_balance n (omega (arith, leb-true (word_at sent 0) 32767 m.1))))
      (λ k. let m = and_both (eqb (length sent) 2) (leb (word_at sent 0) 32767) k in
      as_word 0x04 sent f (eqb-true _ _ m.0) (λ n q. maximum_debit n (omega (arith, leb-true (word_at sent 0) 32767 m.1))))
      (λ k. as_word 0x05 sent f (eqb-true _ _ k) (λ n q. maximum_number n))
      (λ k. bank-only sent f k)
      (λ k. agent-only sent k)
      tag (tag-within tag sent e) e

-- ---- what each tag reads as

-- every tag of the table reads as what it names
pub datum_reads : (h : Head) (flag : Bool) (tag : ℕ) → KnownTag tag → Reads h flag tag (datum h flag tag)
unfolding datum
datum_reads h flag tag (known_value t low high) =
    up_to_seven (λ (n : ℕ). 1 ≤ n → Reads h flag n (datum h flag n)) (λ k. absurd (omega arith)) (λ k. reads_identifier) (λ k. reads_currency)
    (λ k. reads_maximum_balance) (λ k. reads_maximum_debit) (λ k. reads_maximum_number) (λ k. bank_reads h.purse.parameters.bank.defined refl) (λ k. reads_agent) tag high low
  where
    bank_reads : (b : Bool) → h.purse.parameters.bank.defined ≡ b → Reads h flag 0x06 (pick b h.purse.parameters.bank.value [])
    bank_reads true e = reads_bank e
    bank_reads false e = reads_no_bank e
datum_reads h flag tag (known_variable t low high) =
    let k : tag - 0x14 ≤ 7 = omega arith in
    let e : tag ≡ 0x14 + (tag - 0x14) = omega arith in
    subst (λ (n : ℕ). Reads h flag n (datum h flag n)) (sym e)
    (up_to_seven (λ (n : ℕ). n ≤ 3 → Reads h flag (0x14 + n) (datum h flag (0x14 + n))) (λ j. reads_number) (λ j. reads_balance) (λ j. reads_tries)
    (λ j. reads_status (administrative h flag) (administrative-shown h flag)) (λ j. absurd (omega arith)) (λ j. absurd (omega arith)) (λ j. absurd (omega arith))
    (λ j. absurd (omega arith)) (tag - 0x14) k (omega arith))
