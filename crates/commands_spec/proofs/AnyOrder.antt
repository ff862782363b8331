-- STORE DATA: "TLVs, any order". Exchanging two neighbouring TLVs changes neither the status word nor the card, whatever the TLVs are.
-- Assumes nothing.
use mathlib.Core.Bool.{Bool, true, false, not, ◌&&◌, ◌||◌}
use mathlib.Core.List.{List, [], ◌∷◌, ◌++◌}
use mathlib.Core.Path.{◌≡◌, refl, sym, ap, ◌∙◌}
use Prim.Native.Nat.{ℕ, ◌+◌, ◌≤◌, ◌<◌}
use native.Mathlib.Omega.{arith}
use borrow.Author.Tests.{le-leb, eqb-true, eqb-false, ne_eqb}
use lib.Dec.{ltb, leb, eqb}
use lib.ListN.{length, set, length-set}
use lib.Seq.{get_or-set_same, get_or-set_other, set_comm}
use Rattle.octets.specs.Choice.{pick}
use Rattle.octets.specs.Words.{word_at}
use Rattle.octets.proofs.Rules.{passed, pick_holds}
use Rattle.card.specs.declared.head.Head.{Head}
use Rattle.card.specs.Card.{Card}
use Rattle.card.specs.Changes.{cold_change, changed, head_after, log_after, after}
use Rattle.session.specs.declared.Set.{Set}
use Rattle.session.specs.declared.Level.{Level}
use Rattle.session.specs.declared.Session.{Session}
use Rattle.session.specs.Transitions.{ended, chained}
use Rattle.session.specs.Access.{access, is_open, ADMIN}
use Rattle.apdu.specs.declared.instructions.Signed.TheVariants.{StoreData}
use Rattle.apdu.specs.Instructions.{instruction, of84}
use Rattle.apdu.specs.Parameters.{are, signed_parameters}
use Rattle.apdu.specs.Lengths.{signed_length}
use Rattle.commands_spec.specs.declared.store.Stored.{Stored}
use Rattle.commands_spec.specs.declared.outcome.Commits.TheVariants.{HotAndCold}
use Rattle.commands_spec.specs.declared.outcome.Outcome.{Outcome}
use Rattle.commands_spec.specs.Outcomes.{refused, done, decided, changes_of, commits_of}
use Rattle.card.specs.Updates.{with_state, with_balance, with_parameters, with_maxnumber, with_purse}
use Rattle.commands_spec.specs.KeySets.{dek_of}
use Rattle.commands_spec.specs.Data.{value_ok, parameter_set, datum_set}
use Rattle.commands_spec.specs.StoreData.{rejected, unread, acceptable, stored, complete, store_status, personalized, store_data_of}
use Rattle.commands_spec.specs.Respond.{signed_of, respond, card_after}
use Rattle.commands_spec.specs.Sent.{next_mac, signed_text, signed_command}
use Rattle.commands_spec.specs.Allowed.{LevelOf, with_cmac, with_rmac}
use Rattle.commands_spec.specs.Values.{Tlv, flat}
use Rattle.commands_spec.proofs.Sending.{InChannel, reaches_signed}
use Rattle.commands_spec.proofs.Tlvs.{stored_list, flat-within, flat-stored, stays_rejected, refused_spoils, fits, taken, taken_is, fits_below}

-- ---- values under different tags

pick_swap : {A : Type 0} (p q : Bool) (a b x : A) → (p ≡ true → q ≡ true → ⊥) → pick p a (pick q b x) ≡ pick q b (pick p a x)
pick_swap true true a b x n = absurd (n refl refl)
pick_swap true false a b x n = refl
pick_swap false true a b x n = refl
pick_swap false false a b x n = refl

module _ (dek : List ℕ) (t u : ℕ) (v w : List ℕ) (apart : t ≡ u → ⊥) where
  never : (k : ℕ) → eqb t k ≡ true → eqb u k ≡ true → ⊥
  never k p q = apart (eqb-true t k p ∙ sym (eqb-true u k q))

  -- it doesn't matter which is set first
  pub set_either : (h : Head) → datum_set dek t v (datum_set dek u w h) ≡ datum_set dek u w (datum_set dek t v h)
  unfolding datum_set with_maxnumber with_parameters with_purse parameter_set
  set_either h = go (eqb t 0x05) (eqb u 0x05) (never 0x05)
    where
      go : (p q : Bool) → (p ≡ true → q ≡ true → ⊥)
          → pick p (with_maxnumber (word_at v 0) (pick q (with_maxnumber (word_at w 0) h) (with_parameters (parameter_set dek u w h.purse.parameters) h)))
          (let x = pick q (with_maxnumber (word_at w 0) h) (with_parameters (parameter_set dek u w h.purse.parameters) h) in
          with_parameters (parameter_set dek t v x.purse.parameters) x)
          ≡ pick q (with_maxnumber (word_at w 0) (pick p (with_maxnumber (word_at v 0) h) (with_parameters (parameter_set dek t v h.purse.parameters) h)))
          (let x = pick p (with_maxnumber (word_at v 0) h) (with_parameters (parameter_set dek t v h.purse.parameters) h) in
          with_parameters (parameter_set dek u w x.purse.parameters) x)
      go true true n = absurd (n refl refl)
      go true false n = refl
      go false true n = refl
      go false false n =
          rw (
            pick_swap (eqb t 0x01) (eqb u 0x01) _ _ h.purse.parameters.identifier (never 0x01),
            pick_swap (eqb t 0x02) (eqb u 0x02) _ _ h.purse.parameters.currency (never 0x02),
            pick_swap (eqb t 0x03) (eqb u 0x03) _ _ h.purse.parameters.maxbalance (never 0x03),
            pick_swap (eqb t 0x04) (eqb u 0x04) _ _ h.purse.parameters.maxdebit (never 0x04),
            pick_swap (eqb t 0x06) (eqb u 0x06) _ _ h.purse.parameters.bank (never 0x06),
            pick_swap (eqb t 0x07) (eqb u 0x07) _ _ h.purse.parameters.agent (never 0x07),
          )

-- ---- two TLVs

-- the same has been read, or something was refused either way
pub data Alike (a b : Stored) : Type 0 where
  equal : a ≡ b → Alike a b
  both_rejected : a.good ≡ false → b.good ≡ false → Alike a b

module _ (dek : List ℕ) where
  list_alike : (xs : List Tlv) (a b : Stored) → Alike a b → Alike (stored_list dek xs a) (stored_list dek xs b)
  unfolding stored_list
  list_alike [] a b r = r
  list_alike (x ∷ xs) a b (equal e) = equal (ap (λ (st : Stored). stored_list dek xs (stored dek st x.tag x.sent)) e)
  list_alike (x ∷ xs) a b (both_rejected p q) =
      list_alike xs _ _ (both_rejected (stays_rejected dek a x p) (stays_rejected dek b x q))

  module _ (st : Stored) (eight : length st.seen ≡ 8) where
    -- behind another tag a TLV is as acceptable as before
    other_tag : (a b : Tlv) → (a.tag ≡ b.tag → ⊥) → acceptable (set st.seen a.tag 1) b.tag b.sent ≡ fits dek st eight b
    unfolding acceptable
    other_tag a b n = rw (get_or-set_other st.seen a.tag b.tag 1 0 (λ e. n (sym e)))

    -- behind its own it is repeated
    same_tag : (a b : Tlv) → a.tag ≡ b.tag → a.tag < 8 → acceptable (set st.seen a.tag 1) b.tag b.sent ≡ false
    unfolding acceptable
    same_tag a b e k =
        rw (← e, get_or-set_same st.seen a.tag 1 0 (omega arith))
        (none_of (leb 0x01 a.tag && leb a.tag 0x07) (value_ok a.tag b.sent))
      where
        none_of : (p q : Bool) → ((p && false) && q) ≡ false
        none_of true q = refl
        none_of false q = refl

    -- a TLV that isn't acceptable spoils behind any other too
    refused_later : (a b : Tlv) → fits dek st eight b ≡ false → (stored dek (stored dek st a.tag a.sent) b.tag b.sent).good ≡ false
    refused_later a b e = go (fits dek st eight a) refl (eqb a.tag b.tag) refl
      where
        go : (p : Bool) → fits dek st eight a ≡ p → (r : Bool) → eqb a.tag b.tag ≡ r
            → (stored dek (stored dek st a.tag a.sent) b.tag b.sent).good ≡ false
        go true p true r = rw (taken_is dek st eight a p) (refused_spoils dek (taken dek st eight a) b (same_tag a b (eqb-true _ _ r) (fits_below dek st eight a p)))
        go true p false r = rw (taken_is dek st eight a p) (refused_spoils dek (taken dek st eight a) b (other_tag a b (eqb-false _ _ r) ∙ e))
        go false p r g = stays_rejected dek (stored dek st a.tag a.sent) b (refused_spoils dek st a p)

    -- two that are acceptable, under different tags
    abbrev both : Tlv → Tlv → Stored
    both a b =
        record {
          good = st.good;
          seen = set (set st.seen a.tag 1) b.tag 1;
          head = datum_set dek b.tag b.sent (datum_set dek a.tag a.sent st.head);
        }

    both_taken : (a b : Tlv) → fits dek st eight a ≡ true → fits dek st eight b ≡ true → (a.tag ≡ b.tag → ⊥)
        → stored dek (stored dek st a.tag a.sent) b.tag b.sent ≡ both a b
    unfolding stored
    both_taken a b p q n = rw (p, other_tag a b n, q)

    both_swapped : (a b : Tlv) → (a.tag ≡ b.tag → ⊥) → both a b ≡ both b a
    both_swapped a b n =
        rw (
          set_comm st.seen a.tag b.tag 1 1 n,
          set_either dek b.tag a.tag b.sent a.sent (λ e. n (sym e)) st.head,
        )

    -- two TLVs in either order
    pub either_order : (a b : Tlv)
        → Alike (stored dek (stored dek st a.tag a.sent) b.tag b.sent) (stored dek (stored dek st b.tag b.sent) a.tag a.sent)
    either_order a b = go (fits dek st eight a) refl (fits dek st eight b) refl (eqb a.tag b.tag) refl
      where
        go : (p : Bool) → fits dek st eight a ≡ p → (q : Bool) → fits dek st eight b ≡ q → (r : Bool) → eqb a.tag b.tag ≡ r
            → Alike (stored dek (stored dek st a.tag a.sent) b.tag b.sent) (stored dek (stored dek st b.tag b.sent) a.tag a.sent)
        go false p q f r g = both_rejected (stays_rejected dek (stored dek st a.tag a.sent) b (refused_spoils dek st a p)) (refused_later b a p)
        go true p false f r g = both_rejected (refused_later a b f) (stays_rejected dek (stored dek st b.tag b.sent) a (refused_spoils dek st b f))
        go true p true f true g =
            let e : a.tag ≡ b.tag = eqb-true _ _ g in
            both_rejected (rw (taken_is dek st eight a p) (refused_spoils dek (taken dek st eight a) b (same_tag a b e (fits_below dek st eight a p))))
            (rw (taken_is dek st eight b f) (refused_spoils dek (taken dek st eight b) a (same_tag b a (sym e) (fits_below dek st eight b f))))
        go true p true f false g =
            let n : a.tag ≡ b.tag → ⊥ = eqb-false _ _ g in
            equal (both_taken a b p f n ∙ both_swapped a b n ∙ sym (both_taken b a f p (λ e. n (sym e))))

  -- ---- a list of TLVs

  -- the marks of what came stay eight
  stored_eight : (st : Stored) (x : Tlv) → length st.seen ≡ 8 → length (stored dek st x.tag x.sent).seen ≡ 8
  unfolding stored rejected
  stored_eight st x e =
      pick_holds (λ (y : Stored). length y.seen ≡ 8) (acceptable st.seen x.tag x.sent) _ _ (λ t. length-set st.seen x.tag 1 ∙ e) (λ t. e)

  list_swapped : (front : List Tlv) (a b : Tlv) (rest : List Tlv) (st : Stored) → length st.seen ≡ 8
      → Alike (stored_list dek (front ++ a ∷ b ∷ rest) st) (stored_list dek (front ++ b ∷ a ∷ rest) st)
  unfolding stored_list
  list_swapped [] a b rest st e = list_alike rest _ _ (either_order st e a b)
  list_swapped (x ∷ front) a b rest st e = list_swapped front a b rest (stored dek st x.tag x.sent) (stored_eight st x e)

-- ---- the command

-- something refused gives 6A80 or an earlier word
rejected-word : (p k : Bool) (level : ℕ) (inside good done : Bool) → good ≡ false → store_status p k level inside (good && done) ≡ 0x9000 → ⊥
unfolding store_status
rejected-word p k level inside good done n e =
    let a = passed (p || not k) 0x6985 _ 0x9000 e (λ z. omega arith) in
    let b = passed (ltb level ADMIN) 0x6982 _ 0x9000 a.1 (λ z. omega arith) in
    let d = passed (not inside) 0x6A85 _ 0x9000 b.1 (λ z. omega arith) in
    let f : ◌≡◌ {A = ℕ} 0x6A80 0x9000 = rw n at d.1 in
    omega arith

module _ (c : Card) (level : Level) where
  -- the status word that goes with what was read
  abbrev pub store_word : Stored → ℕ
  store_word st =
      store_status c.head.purse.parameters.personalized (c.head.purse.debit.defined && c.head.purse.credit.defined) (access level) true
      (st.good && complete st.seen)

  -- and the card
  abbrev leaves : Stored → Card
  leaves st = pick (eqb (store_word st) 0x9000) (changed (cold_change (personalized st.head)) c) c

  alike_words : (a b : Stored) → Alike a b → store_word a ≡ store_word b
  alike_words a b (equal e) = ap store_word e
  alike_words a b (both_rejected p q) = rw (p, q)

  rejected-card : (st : Stored) → st.good ≡ false → leaves st ≡ c
  rejected-card st e = rw (ne_eqb (store_word st) 0x9000 (rejected-word _ _ _ _ st.good (complete st.seen) e))

  alike_cards : (a b : Stored) → Alike a b → leaves a ≡ leaves b
  alike_cards a b (equal e) = ap leaves e
  alike_cards a b (both_rejected p q) = rejected-card a p ∙ sym (rejected-card b q)

-- the command's word and card are those of the TLVs in their turn
module _ (c : Card) (t : Session) (xs : List Tlv) where
  abbrev pub read : Stored
  read = stored_list (dek_of t.channel.level c.head) xs (unread c.head)

  -- the card that an outcome leaves
  abbrev left : Outcome → Card
  left o = after (commits_of o) c

  -- and the outcome of a status word
  abbrev pub finish : ℕ → Outcome
  finish w = decided w c.head (ended t) (done HotAndCold (personalized read.head) (ended t) [])

  pub read_outcome : store_data_of c.head t (flat xs) ≡ finish (store_word c t.channel.level read)
  unfolding store_data_of
  read_outcome =
      rw (
        flat-within (length (flat xs)) xs (omega arith),
        flat-stored (length (flat xs)) (dek_of t.channel.level c.head) xs (unread c.head) (omega arith),
      )

  finish_word : (w : ℕ) → (finish w).status ≡ w
  unfolding decided done refused
  finish_word w = pick_holds (λ (o : Outcome). o.status ≡ w) (eqb w 0x9000) _ _ (λ e. sym (eqb-true w 0x9000 e)) (λ e. refl)

  finish_card : (w : ℕ) → left (finish w) ≡ pick (eqb w 0x9000) (changed (cold_change (personalized read.head)) c) c
  unfolding decided done refused commits_of changes_of after changed head_after log_after with_state with_balance with_purse
  finish_card w = go (eqb w 0x9000)
    where
      go : (b : Bool) → left (pick b (done HotAndCold (personalized read.head) (ended t) []) (refused c.head (ended t) w))
          ≡ pick b (changed (cold_change (personalized read.head)) c) c
      go true = refl
      go false = refl

  read_word : (store_data_of c.head t (flat xs)).status ≡ store_word c t.channel.level read
  read_word = ap (λ (o : Outcome). o.status) read_outcome ∙ finish_word _

  read_card_lem : left (store_data_of c.head t (flat xs)) ≡ leaves c t.channel.level read
  read_card_lem = ap left read_outcome ∙ finish_card _

-- STORE DATA 84 E2 80 00 of a list of TLVs
abbrev pub storing : Session → List Tlv → List ℕ → List ℕ
storing s xs le = signed_command s 0x84 0xE2 0x80 0x00 (flat xs) le

-- it reaches its own rules in an open channel
pub store_reached : (c : Card) (s : Session) (set : Set) (p1 : ℕ) (l : Level) (xs : List Tlv) (le random : List ℕ) → length le ≤ 1 → InChannel s l → LevelOf set p1 l
    → respond c s (storing s xs le) random ≡ store_data_of c.head (chained (next_mac s (signed_text 0x84 0xE2 0x80 0x00 (flat xs))) s) (flat xs)
unfolding instruction of84 are signed_parameters signed_length is_open signed_of
store_reached c s set p1 l xs le random short o with_cmac =
    reaches_signed c s random StoreData l 0x84 0xE2 0x80 0x00 (flat xs) le short o refl refl (le-leb 8 (length (flat xs) + 8) (omega arith)) refl
store_reached c s set p1 l xs le random short o with_rmac =
    reaches_signed c s random StoreData l 0x84 0xE2 0x80 0x00 (flat xs) le short o refl refl (le-leb 8 (length (flat xs) + 8) (omega arith)) refl

module _ (c : Card) (s : Session) (set : Set) (p1 : ℕ) (l : Level) (front rest : List Tlv) (a b : Tlv) (le le' random random' : List ℕ) (short : length le ≤ 1)
    (short' : length le' ≤ 1) (o : InChannel s l) (v : LevelOf set p1 l) where
  abbrev first : List Tlv
  first = front ++ a ∷ b ∷ rest

  abbrev second : List Tlv
  second = front ++ b ∷ a ∷ rest

  abbrev key : List ℕ
  key = dek_of s.channel.level c.head

  alike : Alike (stored_list key first (unread c.head)) (stored_list key second (unread c.head))
  alike = list_swapped key front a b rest (unread c.head) refl

  -- the same status word
  pub order-word : (respond c s (storing s first le) random).status ≡ (respond c s (storing s second le') random').status
  unfolding chained
  order-word =
      rw (store_reached c s set p1 l first le random short o v, store_reached c s set p1 l second le' random' short' o v)
      (read_word c _ first ∙ alike_words c s.channel.level _ _ alike ∙ sym (read_word c _ second))

  -- and the same card
  pub order-card : card_after c s (storing s first le) random ≡ card_after c s (storing s second le') random'
  unfolding card_after chained
  order-card =
      rw (store_reached c s set p1 l first le random short o v, store_reached c s set p1 l second le' random' short' o v)
      (read_card_lem c _ first ∙ alike_cards c s.channel.level _ _ alike ∙ sym (read_card_lem c _ second))
