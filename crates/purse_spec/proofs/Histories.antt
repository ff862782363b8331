-- Histories of demand 3 exist on every memory of 4,096 bytes: with two installations, with a COMPLETE TRANSACTION that is cut, and with a VERIFY
-- PIN that is cut, at every limit below their stores; and with a COMPLETE TRANSACTION of 33 stores. Commands are signed as the laws of commands_spec have it; no signature is computed.
-- Assumes nothing.
use Rattle.std.specs.Prelude.{Result, Ok}
use mathlib.Core.Bool.{Bool, true, false, ◌&&◌, false≢true}
use mathlib.Core.List.{List, [], ◌∷◌, ◌++◌}
use mathlib.Core.Path.{◌≡◌, refl, sym, ap, ◌∙◌, subst}
use Prim.Native.Nat.{ℕ, zero, suc, ◌+◌, ◌-◌, ◌≤◌, ◌<◌}
use native.Mathlib.Omega.{arith}
use borrow.Author.Tests.{eq-eqb, leb-true, ltb-true}
use lib.Dec.{ltb, leb, eqb}
use lib.ListN.{length, get_or, take, drop, replicate}
use lib.Seq.{length-take-le, take-length}
use Rattle.octets.specs.Bytes.{AreBytes, Octets, byte_at, zeros, all_zero}
use Rattle.octets.specs.Choice.{pick}
use Rattle.octets.specs.Words.{word, word_at}
use Rattle.octets.proofs.Conditions.{each, and_both}
use Rattle.octets.proofs.Numbers.{word_read}
use Rattle.octets.proofs.Ranges.{none-bytes, cons-bytes, append-bytes, zeros-bytes, take-bytes}
use Rattle.des_spec.specs.Des.{encipher, decipher}
use Rattle.des_spec.specs.Modes.{ecb_text, signature}
use Rattle.des_spec.proofs.Texts.{length-ecb_text, bytes-ecb_text}
use Rattle.card.specs.declared.head.Keys.{Keys}
use Rattle.card.specs.declared.head.KeySet.{KeySet}
use Rattle.card.specs.declared.head.Parameters.{Parameters}
use Rattle.card.specs.Card.{Card}
use Rattle.card.specs.Pin.{paired, block_of, Digits}
use Rattle.card.specs.Proper.{fixed_tests, aid_ok, SizedKeys, Proper}
use Rattle.memory.proofs.Cards.{read_proper}
use Rattle.card.proofs.Pins.{block-bytes}
use Rattle.session.specs.declared.Set.{Set}
use Rattle.session.specs.declared.Set.TheVariants.{Debit, Credit, Admin}
use Rattle.session.specs.declared.Level.{Level}
use Rattle.session.specs.declared.Level.TheVariants.{Rmac}
use Rattle.session.specs.declared.Pending.TheVariants.{Update}
use Rattle.session.specs.declared.Session.{Session}
use Rattle.session.specs.Transitions.{unselected}
use Rattle.session.proofs.Sizes.{Sized}
use Rattle.apdu.specs.declared.instructions.Instruction.{Instruction}
use Rattle.apdu.specs.declared.refusals.Refusal.{Refusal}
use Rattle.apdu.specs.declared.instructions.Signed.{Signed}
use Rattle.apdu.specs.declared.instructions.Signed.TheVariants.{PutKey, PinChange, StoreData, CompleteTransaction}
use Rattle.apdu.specs.declared.instructions.Instruction.TheVariants.{IsSigned}
use Rattle.apdu.specs.Instructions.{instruction, of00, of80, of84, of94}
use Rattle.channel.specs.Channel.{cmac_of, received}
use Rattle.channel.proofs.Results.{bytes-cmac_of, received_back}
use Rattle.commands_spec.specs.Respond.{named, respond, card_after}
use Rattle.commands_spec.specs.Sent.{plain_command, signed_text, signed_by, signed_command, initialization, completion}
use Rattle.commands_spec.specs.Allowed.{Numbered, third, with_rmac, cash_admin, Allows, tries_left, pin_set, first as set-one, second as set-two}
use Rattle.commands_spec.specs.Data.{datum}
use Rattle.commands_spec.specs.Values.{Tlv, flat, Apart, here, there, Listed, more, identifier, currency, maximum_balance, maximum_debit, maximum_number, none as no_more}
use Rattle.commands_spec.proofs.Authentication.{update_granted, authenticate_granted}
use Rattle.commands_spec.proofs.AnyOrder.{storing}
use Rattle.commands_spec.proofs.ChangesPin.{change_granted, change_sets}
use Rattle.commands_spec.proofs.Granted.{complete_granted, complete_moves}
use Rattle.commands_spec.proofs.VerifiesPin.{wrong_costs}
use Rattle.commands_spec.proofs.StoresData.{store_granted, store_personalizes, store_datum}
use Rattle.commands_spec.proofs.Moves.{only-complete_moves}
use Rattle.commands_spec.proofs.PutsKey.{key_granted, key_set}
use Rattle.commands_spec.proofs.Sessions.{selected_after, touches, ends_pending}
use Rattle.commands_spec.proofs.Queries.{select_granted}
use Rattle.commands_spec.proofs.Facts.{facts}
use Rattle.commands_spec.proofs.Ways.{is_reader}
use Rattle.commands_spec.proofs.Readers.{readers_change_nothing}
use Rattle.commands_spec.proofs.Sending.{InChannel}
use Rattle.card.specs.Changes.{after}
use Rattle.card.specs.declared.head.State.{State}
use Rattle.purse_spec.specs.History.{install, Situation, OfBytes, AllOfBytes, run, is_install, is_start, next, after_calls, Admissible, IsHistory}
use Rattle.purse_spec.specs.Reasons.{InRange}
use Rattle.purse_spec.proofs.Typed.{Typed, typed_next}
use Rattle.purse_spec.proofs.Answers.{answers_keep, hands_unselected}
use Rattle.purse_spec.proofs.Fresh.{installs}
use Rattle.purse_spec.proofs.StoreCounts.{complete_stores}
use Rattle.purse_spec.proofs.DemandTwo.{demand_two}
use Rattle.purse_spec.proofs.Walks.{Walk, At, Reached, onwards, sent, CutIn, cuts}

-- ---- bytes

-- a key of 01 bytes, whose parity is odd
abbrev ones : ℕ → List ℕ
ones n = replicate n 0x01

-- written out, bytes are tested one by one
unfoldable below : List ℕ → Bool
below [] = true
below (x ∷ l) = ltb x 256 && below l

tested : (l : List ℕ) → below l ≡ true → AreBytes l
unfolding below
tested [] e = none-bytes
tested (x ∷ l) e = let b = and_both (ltb x 256) (below l) e in cons-bytes x l (ltb-true x 256 b.0) (tested l b.1)

-- a command's bytes are bytes where its parts are
header_bytes : (a b c d e : ℕ) (l : List ℕ) → a < 256 → b < 256 → c < 256 → d < 256 → e < 256 → AreBytes l → AreBytes (a ∷ b ∷ c ∷ d ∷ e ∷ l)
header_bytes a b c d e l p q r s t f =
    cons-bytes a (b ∷ c ∷ d ∷ e ∷ l) p (cons-bytes b (c ∷ d ∷ e ∷ l) q (cons-bytes c (d ∷ e ∷ l) r (cons-bytes d (e ∷ l) s (cons-bytes e l t f))))

plain-bytes : (cla ins p1 p2 : ℕ) (body : List ℕ) → cla < 256 → ins < 256 → p1 < 256 → p2 < 256 → length body < 256 → AreBytes body → AreBytes (plain_command cla ins p1 p2 body [])
unfolding plain_command
plain-bytes cla ins p1 p2 body a b c d e f = header_bytes cla ins p1 p2 (length body) (body ++ []) a b c d e (append-bytes body [] f none-bytes)

text-bytes : (cla ins p1 p2 : ℕ) (body : List ℕ) → cla < 256 → ins < 256 → p1 < 256 → p2 < 256 → length body + 8 < 256 → AreBytes body → AreBytes (signed_text cla ins p1 p2 body)
unfolding signed_text
text-bytes cla ins p1 p2 body a b c d e f = header_bytes cla ins p1 p2 (length body + 8) body a b c d e f

signed-bytes : (key from : List ℕ) (cla ins p1 p2 : ℕ) (body : List ℕ) → AreBytes from → cla < 256 → ins < 256 → p1 < 256 → p2 < 256 → length body + 8 < 256 → AreBytes body
    → AreBytes (signed_by key from cla ins p1 p2 body [])
unfolding signed_by cmac_of
signed-bytes key from cla ins p1 p2 body g a b c d e f =
    let text = signed_text cla ins p1 p2 body in
    let t = text-bytes cla ins p1 p2 body a b c d e f in
    let m : AreBytes (signature key from text) = subst (λ (l : List ℕ). AreBytes (signature key from l)) (take-length text) (bytes-cmac_of key from text (length text) g t) in
    append-bytes (text ++ signature key from text) [] (append-bytes text (signature key from text) t m) none-bytes

-- ---- the installation

-- AID of five bytes, a log of three records, five tries, keys of 01 bytes
abbrev aid : List ℕ
aid = 0xA0 ∷ 0x00 ∷ 0x00 ∷ 0x00 ∷ 0x62 ∷ []

abbrev given : List ℕ
given = 5 ∷ aid ++ (3 ∷ 5 ∷ ones 16 ++ (ones 16 ++ ones 16))

given_range : InRange given
given_range =
    record {
      aid = aid;
      size = 3;
      tries = 5;
      enc = ones 16;
      mac = ones 16;
      dek = ones 16;
      is = refl;
      aids = (omega arith, omega arith);
      sizes = (omega arith, omega arith);
      most = (omega arith, omega arith);
      keys = (refl, refl, refl);
    }

given-bytes : AreBytes given
unfolding below
given-bytes = tested given refl

-- a walk that stands where something holds of the card and the session
record Some (first : Situation) (P : Card → Session → Type 0) : Type 0 where
  card : Card
  session : Session
  reached : Reached first card session
  holds : P card session

-- how far a card has come: personalized, sets 1 and 2 defined; nothing booked
record Stage (personalized debit credit : Bool) (c : Card) : Type 0 where
  personal : c.head.purse.parameters.personalized ≡ personalized
  first : c.head.purse.debit.defined ≡ debit
  second : c.head.purse.credit.defined ≡ credit
  balance : c.head.purse.balance ≡ 0
  number : c.head.state.number ≡ 0

-- ---- one command more

-- at limit 65,535, with eight zeros for the random bytes: what holds of the card and the session behind it
step : {first : Situation} {P : Card → Session → Type 0} (Q : Card → Session → Type 0) (bytes : Card → Session → List ℕ) → Some first P
    → ((c : Card) (s : Session) → P c s → Proper c → Sized s → AreBytes (bytes c s))
    → ((c : Card) (s : Session) → P c s → Proper c → Sized s → Sized (respond c s (bytes c s) (zeros 8)).session
    → Q (card_after c s (bytes c s) (zeros 8)) (respond c s (bytes c s) (zeros 8)).session)
    → Some first Q
step Q bytes w f g =
    let h = w.reached.here in
    let c = w.card in
    let s = w.session in
    let p = read_proper w.reached.now.memory c h.typed.memory h.reads in
    let z = subst Sized h.session h.typed.session in
    let r = onwards (bytes c s) (zeros 8) w.reached (f c s w.holds p z) (zeros-bytes 8) refl in
    record {
      card = card_after c s (bytes c s) (zeros 8);
      session = (respond c s (bytes c s) (zeros 8)).session;
      reached = r;
      holds = g c s w.holds p z (subst Sized r.here.session r.here.typed.session);
    }

-- a command that reads leaves the card
reads_only : (c : Card) (s : Session) (command random : List ℕ) → is_reader (named command) ≡ true → card_after c s command random ≡ c
unfolding card_after after
reads_only c s command random e = rw (readers_change_nothing c s command random e)

-- ---- the installation, and a second one

first-installation : (st : Situation) → Typed st → length st.memory ≡ 4096
    → ((run (install given 65535) st).answer ≡ 0) × (c : Card) × At (next (install given 65535) st) c unselected × Stage false false false c
unfolding next is_install OfBytes
first-installation st t e =
    let i = installs st given 65535 given-bytes given_range e (omega arith) in
    let f = i.3.starts in (
      i.0,
      i.1,
      record {
        typed = typed_next (install given 65535) st t given-bytes;
        reads = i.2;
        session = rw (eq-eqb (run (install given 65535) st).answer 0 i.0) (hands_unselected (install given 65535) st refl);
        whole = rw i.0;
      },
      record { personal = f.personalized; first = f.debit; second = f.credit; balance = f.balance; number = f.number },
    )

-- behind one installation
begun : (first : Situation) → Typed first → length first.memory ≡ 4096 → Some first (λ c s. Stage false false false c × (s ≡ unselected))
unfolding IsHistory AllOfBytes Admissible OfBytes is_install after_calls
begun first t e =
    let i = first-installation first t e in
    record {
      card = i.1;
      session = unselected;
      reached = record {
        now = next (install given 65535) first;
        walk = record { calls = install given 65535 ∷ []; bytes = (given-bytes, tt); history = (refl, i.0, tt); arrives = refl };
        here = i.2;
      };
      holds = (i.3, refl);
    }

-- ---- SELECT, INITIALIZE UPDATE, EXTERNAL AUTHENTICATE

-- the AID of a card has 5 to 16 bytes
aid-size : (c : Card) → Proper c → let l = take c.head.purse.aid.size c.head.purse.aid.bytes in (0 < length l) × (length l < 256) × AreBytes l
unfolding aid_ok
aid-size c p =
    let i = c.head.purse.aid in
    let f = each (leb 5 i.size ∷ leb i.size 16 ∷ all_zero (drop i.size i.bytes) ∷ []) (facts c.head p.tests).aid in
    let a = leb-true 5 i.size f.0 in
    let b = leb-true i.size 16 f.1.0 in
    let z = p.sized.purse.aid.size in
    let n : length (take i.size i.bytes) ≡ i.size = length-take-le i.size i.bytes (omega arith) in
    (omega arith, omega arith, take-bytes i.size i.bytes p.sized.purse.aid.each)

-- these three change nothing on the card, nor does INITIALIZE TRANSACTION
plain_readers : (p1 p2 : ℕ) (body : List ℕ) → (is_reader (named (plain_command 0x00 0xA4 p1 p2 body [])) ≡ true) × (is_reader (named (plain_command 0x80 0x50 p1 p2 body [])) ≡ true)
unfolding named instruction of00 of80 is_reader plain_command
plain_readers p1 p2 body = (refl, refl)

signed_readers : (key from : List ℕ) (p1 p2 : ℕ) (body : List ℕ)
    → (is_reader (named (signed_by key from 0x84 0x82 p1 p2 body [])) ≡ true) × (is_reader (named (signed_by key from 0x94 0x44 p1 p2 body [])) ≡ true)
unfolding named instruction of84 of94 is_reader signed_by signed_text
signed_readers key from p1 p2 body = (refl, refl)

module _ {first : Situation} {p d k : Bool} where
  chosen : Some first (λ c s. Stage p d k c) → Some first (λ c s. Stage p d k c × (s.selected ≡ true))
  chosen w =
      step (λ c s. Stage p d k c × (s.selected ≡ true)) (λ c s. plain_command 0x00 0xA4 0x04 0x00 (take c.head.purse.aid.size c.head.purse.aid.bytes) []) w
      (λ c s h q z. let a = aid-size c q in plain-bytes 0x00 0xA4 0x04 0x00 _ (omega arith) (omega arith) (omega arith) (omega arith) a.1 a.2)
      (λ c s h q z y. (
        subst (Stage p d k) (sym (reads_only c s _ (zeros 8) (plain_readers _ _ _).0)) h,
        ap (λ (t : Session). t.selected) (select_granted c s [] (zeros 8) (aid-size c q).0 (omega arith)).session,
      ))

  offered : Some first (λ c s. Stage p d k c × (s.selected ≡ true)) → Some first (λ c s. Stage p d k c × (s.selected ≡ true) × (s.pending ≡ Update Admin))
  offered w =
      step (λ c s. Stage p d k c × (s.selected ≡ true) × (s.pending ≡ Update Admin)) (λ c s. plain_command 0x80 0x50 0x03 0x00 (zeros 8) []) w
      (λ c s h q z. plain-bytes 0x80 0x50 0x03 0x00 (zeros 8) (omega arith) (omega arith) (omega arith) (omega arith) (omega arith) (zeros-bytes 8))
      (λ c s h q z y.
      let u = (update_granted c s 0x03 Admin (record { defined = true; keys = c.head.shared.admin }) (zeros 8) (zeros 8) [] (third refl) refl h.1 refl refl (omega arith)).session in (
        subst (Stage p d k) (sym (reads_only c s _ (zeros 8) (plain_readers _ _ _).1)) h.0,
        ap (λ (t : Session). t.selected) u ∙ h.1,
        ap (λ (t : Session). t.pending) u,
      ))

  opened : Some first (λ c s. Stage p d k c × (s.selected ≡ true) × (s.pending ≡ Update Admin)) → Some first (λ c s. Stage p d k c × InChannel s (Rmac Admin))
  opened w =
      step (λ c s. Stage p d k c × InChannel s (Rmac Admin)) (λ c s. signed_by s.offer.mac (zeros 8) 0x84 0x82 0x11 0x00 s.offer.expected []) w
      (λ c s h q z.
      let n = z.offer.expected.size in
      signed-bytes s.offer.mac (zeros 8) 0x84 0x82 0x11 0x00 s.offer.expected (zeros-bytes 8) (omega arith) (omega arith) (omega arith) (omega arith) (omega arith)
      z.offer.expected.each)
      (λ c s h q z y.
      let u = (authenticate_granted c s Admin 0x11 (Rmac Admin) [] (zeros 8) h.1 h.2 z.offer.expected.size with_rmac (omega arith)).session in (
        subst (Stage p d k) (sym (reads_only c s _ (zeros 8) (signed_readers _ _ _ _ _).0)) h.0,
        record { selected = ap (λ (t : Session). t.selected) u ∙ h.1; level = ap (λ (t : Session). t.channel.level) u; chain = y.channel.cmac.size },
      ))

-- ---- PUT KEY for sets 1 and 2

-- what is enciphered is bytes
sent-bytes : (key value : List ℕ) → AreBytes value → AreBytes (ecb_text encipher key value)
sent-bytes key value f = (bytes-ecb_text encipher key value (record { at = f })).at

-- a signed command with 9000 leaves the channel open
still_open : (c : Card) (s : Session) (command random : List ℕ) (g : Signed) (l : Level) → named command ≡ Ok (IsSigned g) → (respond c s command random).status ≡ 0x9000
    → InChannel s l → Sized (respond c s command random).session → InChannel (respond c s command random).session l
unfolding selected_after touches
still_open c s command random g l n w o z =
    let e = ends_pending c s command random in
    let a : (respond c s command random).session.selected ≡ s.selected = e.selected ∙ rw n in
    let b : touches (named command) (respond c s command random).status ≡ false = rw (n, w) in
    record { selected = a ∙ o.selected; level = (e.channel b).level ∙ o.level; chain = z.channel.cmac.size }

-- keys of 01 bytes
abbrev keys : Keys
keys = record { enc = ones 16; mac = ones 16; dek = ones 16 }

keys-sized : SizedKeys keys
unfolding below
keys-sized =
    let b : Octets 16 (ones 16) = record { size = refl; each = tested (ones 16) refl } in
    record { enc = b; mac = b; dek = b }

-- the three keys as PUT KEY carries them
abbrev keys_sent : Card → List ℕ
keys_sent c = ecb_text encipher c.head.shared.admin.dek (ones 16 ++ ones 16 ++ ones 16)

put_key_bytes : (c : Card) (s : Session) (n : ℕ) → n < 256 → Sized s → AreBytes (signed_command s 0x84 0xD8 0x00 n (keys_sent c) [])
unfolding signed_command below
put_key_bytes c s n h z =
    let l = length-ecb_text encipher c.head.shared.admin.dek (ones 16 ++ ones 16 ++ ones 16) in
    signed-bytes s.channel.mac s.channel.cmac 0x84 0xD8 0x00 n (keys_sent c) z.channel.cmac.each (omega arith) (omega arith) (omega arith) h (omega arith)
    (sent-bytes c.head.shared.admin.dek (ones 16 ++ ones 16 ++ ones 16) (tested (ones 16 ++ ones 16 ++ ones 16) refl))

put_key_named : (s : Session) (n : ℕ) (body : List ℕ) → named (signed_command s 0x84 0xD8 0x00 n body []) ≡ Ok (IsSigned PutKey)
unfolding named instruction of84 signed_command signed_by signed_text
put_key_named s n body = refl

-- PUT KEY of one set
keyed : {first : Situation} {p d k : Bool} (n : ℕ) (set : Set) (old : Card → KeySet) → n < 256 → ((c : Card) → Numbered c.head (old c) n set)
    → Some first (λ c s. Stage p d k c × InChannel s (Rmac Admin)) → Some first (λ c s. Stage p (pick (eqb n 0x01) true d) (pick (eqb n 0x02) true k) c × InChannel s (Rmac Admin))
keyed {first} {p} {d} {k} n set old below-256 m w =
    step (λ c s. Stage p (pick (eqb n 0x01) true d) (pick (eqb n 0x02) true k) c × InChannel s (Rmac Admin)) (λ c s. signed_command s 0x84 0xD8 0x00 n (keys_sent c) []) w
    (λ c s h q z. put_key_bytes c s n below-256 z)
    (λ c s h q z y.
    let g = key_granted c s 0x11 (Rmac Admin) n set (old c) keys [] (zeros 8) (omega arith) h.1 with_rmac (m c) keys-sized in
    let r = key_set c s 0x11 (Rmac Admin) n set (old c) keys [] (zeros 8) (omega arith) h.1 with_rmac (m c) keys-sized in (
      record {
        personal = ap (λ (x : Parameters). x.personalized) r.parameters ∙ h.0.personal;
        first = ap (λ (x : KeySet). x.defined) r.first ∙ defined_if (eqb n 0x01) c.head.purse.debit ∙ ap (pick (eqb n 0x01) true) h.0.first;
        second = ap (λ (x : KeySet). x.defined) r.second ∙ defined_if (eqb n 0x02) c.head.purse.credit ∙ ap (pick (eqb n 0x02) true) h.0.second;
        balance = r.balance ∙ h.0.balance;
        number = ap (λ (x : State). x.number) r.state ∙ h.0.number;
      },
      still_open c s _ (zeros 8) PutKey (Rmac Admin) (put_key_named s n (keys_sent c)) g h.1 y,
    ))
  where
    defined_if : (b : Bool) (x : KeySet) → (pick b (record { defined = true; keys = keys }) x).defined ≡ pick b true x.defined
    defined_if true x = refl
    defined_if false x = refl

-- ---- STORE DATA

-- identifier, currency, maximum balance 1,000, maximum debit 500, maximum number 100
abbrev tlvs : List Tlv
tlvs =
    record { tag = 0x01; sent = zeros 4 } ∷ record { tag = 0x02; sent = word 0x0978 } ∷ record { tag = 0x03; sent = word 1000 }
    ∷ record { tag = 0x04; sent = word 500 } ∷ record { tag = 0x05; sent = word 100 } ∷ []

tlvs-listed : (dek : List ℕ) → Listed dek tlvs
unfolding Apart
tlvs-listed dek =
    let a : Apart 0x01 (drop 1 tlvs) = (λ e. omega arith, (λ e. omega arith, (λ e. omega arith, (λ e. omega arith, tt)))) in
    let b : Apart 0x02 (drop 2 tlvs) = (λ e. omega arith, (λ e. omega arith, (λ e. omega arith, tt))) in
    let c : Apart 0x03 (drop 3 tlvs) = (λ e. omega arith, (λ e. omega arith, tt)) in
    let d : Apart 0x04 (drop 4 tlvs) = (λ e. omega arith, tt) in
    more (zeros 4) (identifier (zeros 4) refl) a
    (more (word 0x0978) (currency 0x0978) b
    (more (word 1000) (maximum_balance 1000 (omega arith)) c (more (word 500) (maximum_debit 500 (omega arith)) d (more (word 100) (maximum_number 100) tt no_more))))

-- what the card keeps of them
record Personalized (c : Card) : Type 0 where
  personal : c.head.purse.parameters.personalized ≡ true
  currency : c.head.purse.parameters.currency ≡ 0x0978
  maxbalance : c.head.purse.parameters.maxbalance ≡ 1000
  maxnumber : c.head.shared.maxnumber ≡ 100
  balance : c.head.purse.balance ≡ 0
  number : c.head.state.number ≡ 0

-- a number is told by its two bytes
same_word : (a b : ℕ) → word a ≡ word b → a ≡ b
same_word a b e = sym (word_read a) ∙ ap (λ (l : List ℕ). word_at l 0) e ∙ word_read b

store_named : (s : Session) (body : List ℕ) → named (signed_command s 0x84 0xE2 0x80 0x00 body []) ≡ Ok (IsSigned StoreData)
unfolding named instruction of84 signed_command signed_by signed_text
store_named s body = refl

store_bytes : (s : Session) → Sized s → AreBytes (storing s tlvs [])
unfolding signed_command flat below
store_bytes s z =
    signed-bytes s.channel.mac s.channel.cmac 0x84 0xE2 0x80 0x00 (flat tlvs) z.channel.cmac.each (omega arith) (omega arith) (omega arith) (omega arith) (omega arith)
    (tested (flat tlvs) refl)

stored : {first : Situation} → Some first (λ c s. Stage false true true c × InChannel s (Rmac Admin)) → Some first (λ c s. Personalized c × InChannel s (Rmac Admin))
unfolding datum
stored w =
    step (λ c s. Personalized c × InChannel s (Rmac Admin)) (λ c s. storing s tlvs []) w (λ c s h q z. store_bytes s z)
    (λ c s h q z y.
    let l = tlvs-listed c.head.shared.admin.dek in
    let h1 = here refl (identifier (zeros 4) refl) in
    let h2 = there (here refl (currency 0x0978)) in
    let h3 = there (there (here refl (maximum_balance 1000 (omega arith)))) in
    let h4 = there (there (there (here refl (maximum_debit 500 (omega arith))))) in
    let h5 = there (there (there (there (here refl (maximum_number 100))))) in
    let g = store_granted c s 0x11 (Rmac Admin) tlvs [] (zeros 8) (omega arith) h.1 with_rmac h.0.personal h.0.first h.0.second l _ _ _ _ _ h1 h2 h3 h4 h5 in
    let p = store_personalizes c s 0x11 (Rmac Admin) tlvs [] (zeros 8) (omega arith) h.1 with_rmac h.0.personal h.0.first h.0.second l _ _ _ _ _ h1 h2 h3 h4 h5 in
    let v = store_datum c s 0x11 (Rmac Admin) tlvs [] (zeros 8) (omega arith) h.1 with_rmac h.0.personal h.0.first h.0.second l _ _ _ _ _ h1 h2 h3 h4 h5 in
    let k = (only-complete_moves c s (storing s tlvs []) (zeros 8)).kept (λ i e. let x : ◌≡◌ {A = ℕ} 0 1 = other_command (sym i ∙ store_named s (flat tlvs)) in omega arith) in (
      record {
        personal = p;
        currency = same_word _ _ (v 0x02 (word 0x0978) true h2 (omega arith));
        maxbalance = same_word _ _ (v 0x03 (word 1000) true h3 (omega arith));
        maxnumber = same_word _ _ (v 0x05 (word 100) true h5 (omega arith));
        balance = k.balance ∙ h.0.balance;
        number = k.number ∙ h.0.number;
      },
      still_open c s _ (zeros 8) StoreData (Rmac Admin) (store_named s (flat tlvs)) g h.1 y,
    ))
  where
    other_command : ◌≡◌ {A = Result Instruction Refusal} (Ok (IsSigned CompleteTransaction)) (Ok (IsSigned StoreData)) → ◌≡◌ {A = ℕ} 0 1
    other_command e = cc

-- ---- a personalized card in an open channel

ready : (first : Situation) → Typed first → length first.memory ≡ 4096 → Some first (λ c s. Personalized c × InChannel s (Rmac Admin))
ready first t e =
    let b = begun first t e in
    let fresh : Some first (λ c s. Stage false false false c) = record { card = b.card; session = b.session; reached = b.reached; holds = b.holds.0 } in
    stored
    (keyed 0x02 Credit (λ c. c.head.purse.credit) (omega arith) (λ c. set-two refl)
    (keyed 0x01 Debit (λ c. c.head.purse.debit) (omega arith) (λ c. set-one refl) (opened (offered (chosen fresh)))))

-- ---- COMPLETE TRANSACTION, cut

-- a cash credit of 100
credit_allowed : (c : Card) → Personalized c → Allows c.head 0x01 0x0978 100
credit_allowed c p =
    let m = p.maxbalance in
    let n = p.maxnumber in
    let b = p.balance in
    let k = p.number in
    record {
      personal = p.personal;
      equipped = λ e. absurd (omega arith);
      room = omega arith;
      same = sym p.currency;
      above = omega arith;
      signed = omega arith;
      debits = λ e. absurd (omega arith);
      credits = λ e. omega arith;
    }

initialization-bytes : (s : Session) → Sized s → AreBytes (initialization s 0x01 0x0978 100 [])
unfolding signed_command below
initialization-bytes s z =
    signed-bytes s.channel.mac s.channel.cmac 0x94 0x44 0x01 0x00 (word 0x0978 ++ word 100) z.channel.cmac.each (omega arith) (omega arith) (omega arith) (omega arith) (omega arith)
    (tested (word 0x0978 ++ word 100) refl)

completion-bytes : (s : Session) → Sized s → AreBytes (completion s (zeros 16) [])
unfolding signed_command
completion-bytes s z =
    signed-bytes s.channel.mac s.channel.cmac 0x94 0x46 0x00 0x00 (zeros 16) z.channel.cmac.each (omega arith) (omega arith) (omega arith) (omega arith) (omega arith) (zeros-bytes 16)

initialization_reads : (s : Session) → is_reader (named (initialization s 0x01 0x0978 100 [])) ≡ true
unfolding signed_command
initialization_reads s = (signed_readers s.channel.mac s.channel.cmac 0x01 0x00 (word 0x0978 ++ word 100)).1

completion-named : (s : Session) → (byte_at (completion s (zeros 16) []) 0 ≡ 0x94) × (byte_at (completion s (zeros 16) []) 1 ≡ 0x46)
unfolding signed_command signed_by signed_text
completion-named s = (refl, refl)

-- behind its INITIALIZE TRANSACTION: COMPLETE TRANSACTION answers 9000 and moves the number
completing : (first : Situation) → Typed first → length first.memory ≡ 4096
    → Some first (λ c s. let x = completion s (zeros 16) [] in
    AreBytes x × ((respond c s x (zeros 8)).status ≡ 0x9000) × ((card_after c s x (zeros 8)).head.state.number ≡ c.head.state.number + 1))
completing first t e =
    let w = ready first t e in
    let c = w.card in
    let s = w.session in
    let h = w.reached.here in
    let z = subst Sized h.session h.typed.session in
    let a = credit_allowed c w.holds.0 in
    let o = w.holds.1 in
    let x = initialization s 0x01 0x0978 100 [] in
    let t = (respond c s x (zeros 8)).session in
    let r : Reached first c t = subst (λ (d : Card). Reached first d t) (reads_only c s x (zeros 8) (initialization_reads s)) (onwards x (zeros 8) w.reached (initialization-bytes s z) (zeros-bytes 8) refl) in
    let y = subst Sized r.here.session r.here.typed.session in
    let g = complete_granted c s Admin 0x01 0x0978 100 [] (zeros 8) (omega arith) o (cash_admin s.verified) a (zeros 16) [] (zeros 8) refl (omega arith) in
    let m = complete_moves c s Admin 0x01 0x0978 100 [] (zeros 8) (omega arith) o (cash_admin s.verified) a (zeros 16) [] (zeros 8) refl (omega arith) in
    record { card = c; session = t; reached = r; holds = (completion-bytes t y, g, m.number) }

cut-complete : (first : Situation) → Typed first → length first.memory ≡ 4096 → CutIn 0x94 0x46 first
cut-complete first t e =
    let w = completing first t e in
    let c = w.card in
    let s = w.session in
    cuts 0x94 0x46 (completion s (zeros 16) []) (zeros 8) w.reached w.holds.0 (zeros-bytes 8) refl (completion-named s)
    (λ q. let n : c.head.state.number ≡ c.head.state.number + 1 = ap (λ (d : Card). d.head.state.number) (sym q) ∙ w.holds.2 in omega arith)

-- uncut it makes 33 stores
pub record Counted (first : Situation) : Type 0 where
  pub before : Situation
  pub walk : Walk first before
  pub bytes : List ℕ
  pub named : (byte_at bytes 0 ≡ 0x94) × (byte_at bytes 1 ≡ 0x46)
  pub count : (run (sent bytes (zeros 8) 65535) before).count ≡ 33

pub complete_counted : (first : Situation) → (typed : Typed first) → (long : length first.memory ≡ 4096) → Counted first
unfolding OfBytes
complete_counted first t e =
    let w = completing first t e in
    let st = w.reached.now in
    let h = w.reached.here in
    let x = completion w.session (zeros 16) [] in
    let f : AreBytes x × AreBytes (zeros 8) = (w.holds.0, zeros-bytes 8) in
    let m = demand_two st w.card x (zeros 8) (zeros 32) 65535 h.typed f h.reads (omega arith) refl (omega arith) in
    let g : (respond w.card st.session x (zeros 8)).status ≡ 0x9000 = ap (λ (s : Session). (respond w.card s x (zeros 8)).status) h.session ∙ w.holds.1 in
    record {
      before = st;
      walk = w.reached.walk;
      bytes = x;
      named = completion-named w.session;
      count = complete_stores st w.card x (zeros 8) (zeros 32) 65535 h.typed f h.reads m.answer (completion-named w.session) g;
    }

-- ---- VERIFY PIN, cut

-- the PIN 1234
abbrev digits : List ℕ
digits = 1 ∷ 2 ∷ 3 ∷ 4 ∷ []

four_digits : Digits digits
four_digits = record { least = omega arith; most = omega arith; each = small }
  where
    small : (i : ℕ) → get_or digits i 0 ≤ 9
    small zero = omega arith
    small (suc zero) = omega arith
    small (suc (suc zero)) = omega arith
    small (suc (suc (suc zero))) = omega arith
    small (suc (suc (suc (suc i)))) = omega arith

-- a card with that PIN and a try left
record Pinned (c : Card) : Type 0 where
  personal : c.head.purse.parameters.personalized ≡ true
  defined : c.head.pin.defined ≡ true
  block : c.head.pin.block ≡ block_of digits
  left : 0 < c.head.state.tries

pin-named : (s : Session) (body : List ℕ) → named (signed_command s 0x84 0x24 0x00 0x00 body []) ≡ Ok (IsSigned PinChange)
unfolding named instruction of84 signed_command signed_by signed_text
pin-named s body = refl

pin-bytes : (c : Card) (s : Session) → Sized s → AreBytes (signed_command s 0x84 0x24 0x00 0x00 (ecb_text encipher c.head.shared.admin.dek (block_of digits)) [])
unfolding signed_command
pin-bytes c s z =
    let b = block-bytes digits four_digits in
    let l = length-ecb_text encipher c.head.shared.admin.dek (block_of digits) in
    let k = b.size in
    signed-bytes s.channel.mac s.channel.cmac 0x84 0x24 0x00 0x00 (ecb_text encipher c.head.shared.admin.dek (block_of digits)) z.channel.cmac.each (omega arith) (omega arith)
    (omega arith) (omega arith) (omega arith) (sent-bytes c.head.shared.admin.dek (block_of digits) b.each)

pinned : {first : Situation} → Some first (λ c s. Personalized c × InChannel s (Rmac Admin)) → Some first (λ c s. Pinned c × InChannel s (Rmac Admin))
unfolding fixed_tests tries_left pin_set
pinned w =
    step (λ c s. Pinned c × InChannel s (Rmac Admin)) (λ c s. signed_command s 0x84 0x24 0x00 0x00 (ecb_text encipher c.head.shared.admin.dek (block_of digits)) []) w
    (λ c s h q z. pin-bytes c s z)
    (λ c s h q z y.
    let g = change_granted c s 0x11 (Rmac Admin) [] (zeros 8) (omega arith) h.1 with_rmac digits four_digits in
    let e = change_sets c s 0x11 (Rmac Admin) [] (zeros 8) (omega arith) h.1 with_rmac digits four_digits in
    let f = each (fixed_tests c.head.fixed) (facts c.head q.tests).fixed in
    let n = leb-true 3 c.head.fixed.maxtries f.1.1.0 in (
      subst Pinned (sym e) (record { personal = h.0.personal; defined = refl; block = refl; left = omega arith }),
      still_open c s _ (zeros 8) PinChange (Rmac Admin) (pin-named s _) g h.1 y,
    ))

-- eight zeros for the PIN
abbrev guess : Session → List ℕ
guess s = ecb_text encipher s.channel.enc (zeros 8)

guess_bytes : (s : Session) → AreBytes (plain_command 0x94 0x20 0x00 0x00 (guess s) [])
guess_bytes s =
    let l = length-ecb_text encipher s.channel.enc (zeros 8) in
    plain-bytes 0x94 0x20 0x00 0x00 (guess s) (omega arith) (omega arith) (omega arith) (omega arith) (omega arith) (sent-bytes s.channel.enc (zeros 8) (zeros-bytes 8))

guess_named : (s : Session) → (byte_at (plain_command 0x94 0x20 0x00 0x00 (guess s) []) 0 ≡ 0x94) × (byte_at (plain_command 0x94 0x20 0x00 0x00 (guess s) []) 1 ≡ 0x20)
unfolding plain_command
guess_named s = (refl, refl)

guess_wrong : (s : Session) → ecb_text decipher s.channel.enc (guess s) ≡ block_of digits → ⊥
unfolding received block_of paired
guess_wrong s e =
    let z : zeros 8 ≡ block_of digits = sym (received_back s.channel.enc (zeros 8) (zeros-bytes 8)) ∙ e in
    let n : ◌≡◌ {A = ℕ} 0 0x24 = ap (λ (l : List ℕ). byte_at l 0) z in
    omega arith

cut_verify : (first : Situation) → Typed first → length first.memory ≡ 4096 → CutIn 0x94 0x20 first
unfolding tries_left
cut_verify first t e =
    let w = pinned (ready first t e) in
    let c = w.card in
    let s = w.session in
    let p = w.holds.0 in
    let l = p.left in
    let x = wrong_costs c s Admin 0x11 (Rmac Admin) [] (zeros 8) (omega arith) w.holds.1 with_rmac (λ q. let n : ◌≡◌ {A = ℕ} 0 1 = cc in omega arith) p.personal p.defined l
    (guess s) (length-ecb_text encipher s.channel.enc (zeros 8)) (λ q. guess_wrong s (q ∙ p.block)) in
    cuts 0x94 0x20 (plain_command 0x94 0x20 0x00 0x00 (guess s) []) (zeros 8) w.reached (guess_bytes s) (zeros-bytes 8) refl (guess_named s)
    (λ q. let n : c.head.state.tries - 1 ≡ c.head.state.tries = ap (λ (d : Card). d.head.state.tries) (sym x ∙ q) in omega arith)

-- ---- two installations

two_installations : (first : Situation) → Typed first → length first.memory ≡ 4096
    → AllOfBytes (install given 65535 ∷ install given 65535 ∷ []) × IsHistory (install given 65535 ∷ install given 65535 ∷ []) first
unfolding AllOfBytes IsHistory Admissible OfBytes is_install is_start
two_installations first t e =
    let i = first-installation first t e in
    let j = first-installation (next (install given 65535) first) i.2.typed (unfold next in ((answers_keep (install given 65535) first).memory ∙ e)) in
    ((given-bytes, (given-bytes, tt)), (refl, i.0, (λ q. absurd (false≢true (sym i.2.whole ∙ q)), λ q k. omega (arith, j.0), tt)))

-- ---- each shape of demand 3

pub record Shapes (first : Situation) : Type 0 where
  pub twice : IsHistory (install given 65535 ∷ install given 65535 ∷ []) first
  pub complete : CutIn 0x94 0x46 first
  pub verify : CutIn 0x94 0x20 first

pub histories_exist : (first : Situation) → (typed : Typed first) → (long : length first.memory ≡ 4096) → Shapes first
histories_exist first t e = record { twice = (two_installations first t e).1; complete = cut-complete first t e; verify = cut_verify first t e }
