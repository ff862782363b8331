-- On a proper card, in a session as its struct has it, every reply has 2 to 32 bytes and every session handed back is again as its
-- struct has it. Assumes nothing.
use mathlib.Core.Bool.{Bool, true, false, not}
use mathlib.Core.List.{List, [], ◌∷◌, ◌++◌}
use mathlib.Core.Path.{◌≡◌, refl, ◌∙◌}
use Prim.Native.Nat.{ℕ, ◌+◌, ◌-◌, ◌≤◌, ◌<◌, min}
use native.Mathlib.Omega.{arith}
use native.Mathlib.Nat.{min-le_left, min-le_right}
use borrow.Author.Tests.{eqb-true, leb-true}
use lib.Dec.{leb, eqb}
use lib.ListN.{length, get_or, take, length-append, length-take}
use Rattle.octets.specs.Bytes.{AreBytes, Octets, zeros, byte_at, part, same}
use Rattle.octets.specs.Words.{word, word_at}
use Rattle.octets.specs.Buffers.{content}
use Rattle.octets.proofs.Conditions.{and_both}
use Rattle.octets.proofs.Parts.{length_part}
use Rattle.octets.proofs.Numbers.{word-at_below}
use Rattle.octets.proofs.Ranges.{none-bytes, append-bytes, part_bytes, zeros-bytes}
use Rattle.octets.proofs.Octets.{append_octets, zeros_octets, word_octets}
use Rattle.octets.proofs.Holding.{content-holding}
use Rattle.octets.proofs.Rules.{pick_holds}
use Rattle.card.specs.declared.head.Head.{Head}
use Rattle.card.specs.Log.{record_size, void, record_bytes}
use Rattle.card.specs.Card.{Card}
use Rattle.card.specs.Proper.{Proper}
use Rattle.card.proofs.Bytes.{record_octets}
use Rattle.session.specs.declared.Pending.{Pending}
use Rattle.session.specs.declared.Pending.TheVariants.{Nothing, Update, Debiting, Crediting}
use Rattle.session.specs.declared.Session.{Session}
use Rattle.session.specs.Transitions.{ended, closed, chained}
use Rattle.session.specs.Codes.{set_of, amount_of}
use Rattle.session.proofs.Sizes.{SizedOffer, Sized, ended-sized, closed-sized, reselected-sized, flagged-sized, offered-sized, opened-sized, chained-sized, answered-sized}
use Rattle.channel.specs.Channel.{cmac_of, rmac_of, bank_sent}
use Rattle.channel.proofs.Results.{length-session_key, length-card_cryptogram, length-host_cryptogram, length-cmac_of, length-rmac_of, length-bank_sent, bytes-session_key, bytes-host_cryptogram, bytes-cmac_of, bytes-rmac_of, bytes-bank_sent}
use Rattle.apdu.specs.declared.instructions.Plain.{Plain}
use Rattle.apdu.specs.declared.instructions.Plain.TheVariants.{Select, InitializeUpdate, ExternalAuthenticate, VerifyPin, GetData, ReadRecord}
use Rattle.apdu.specs.declared.instructions.Signed.{Signed}
use Rattle.apdu.specs.declared.instructions.Signed.TheVariants.{PutKey, PinChange, StoreData, InitializeTransaction, CompleteTransaction, PutData}
use Rattle.apdu.specs.Parsing.{data_of}
use Rattle.apdu.specs.Parameters.{has_record}
use Rattle.apdu.specs.Lengths.{mac_size, plain_length}
use Rattle.apdu.proofs.Shapes.{header}
use Rattle.commands_spec.specs.declared.outcome.Commits.{Commits}
use Rattle.commands_spec.specs.declared.outcome.Outcome.{Outcome}
use Rattle.commands_spec.specs.Outcomes.{refused, done}
use Rattle.commands_spec.specs.Status.{operational}
use Rattle.card.specs.Updates.{with_state, with_balance, with_purse}
use Rattle.commands_spec.specs.KeySets.{key_set_of, dek_of}
use Rattle.commands_spec.specs.Data.{datum}
use Rattle.commands_spec.specs.Select.{select_answer, select_of}
use Rattle.commands_spec.specs.InitializeUpdate.{offer, update_answer, initialize_update_of}
use Rattle.commands_spec.specs.ExternalAuthenticate.{authenticated, external_authenticate_of}
use Rattle.commands_spec.specs.PutKey.{put_key_of}
use Rattle.commands_spec.specs.PinChange.{pin_change_of}
use Rattle.commands_spec.specs.StoreData.{store_data_of}
use Rattle.commands_spec.specs.VerifyPin.{judged, verify_pin_of}
use Rattle.commands_spec.specs.InitializeTransaction.{initialize_answer, noted, initialize_transaction_of}
use Rattle.commands_spec.specs.CompleteTransaction.{booked, complete_answer, complete_transaction_of}
use Rattle.commands_spec.specs.GetData.{get_data_of}
use Rattle.commands_spec.specs.PutData.{put_data_of}
use Rattle.commands_spec.specs.ReadRecord.{asked, read_record_of}
use Rattle.commands_spec.specs.Respond.{plain_of, signed_of, respond}
use Rattle.commands_spec.proofs.Steps.{decided_either, mac_of, Passed, respond_holds}
use Rattle.commands_spec.proofs.Judgements.{complete_passed}
use Rattle.commands_spec.proofs.Ways.{completed_head, completed_answer}
use Rattle.commands_spec.proofs.Words.{status_listed}
use Rattle.commands_spec.proofs.Moves.{moved-balance}
use Rattle.commands_spec.proofs.Facts.{facts}

-- what a call's types promise of its card, session, command and random bytes
pub record Sound (c : Card) (s : Session) (command random : List ℕ) : Type 0 where
  pub proper : Proper c
  pub sized : Sized s
  pub bytes : AreBytes command
  pub drawn : Octets 8 random

-- a short reply, and a session as its struct has it
pub record Fits (o : Outcome) : Type 0 where
  pub short : length (content o.reply) ≤ 32
  pub session : Sized o.session

-- ---- the outcomes

refused_fits : (h : Head) (t : Session) (w : ℕ) → Sized t → Fits (refused h t w)
unfolding refused
refused_fits h t w z = record { short = omega arith; session = z }

done_fits : (commits : Commits) (h : Head) (t : Session) (answer : List ℕ) → Sized t → length answer ≤ 30 → Fits (done commits h t answer)
unfolding done
done_fits commits h t answer z k =
    let n = length-append answer (word 0x9000) in
    record { short = rw (content-holding (answer ++ word 0x9000)) (omega arith); session = z }

-- ---- the answers

module _ (c : Card) (p : Proper c) where
  abbrev H : Head
  H = c.head

  length-operational : (h : Head) → length (operational h) ≡ 10
  unfolding operational
  length-operational h = refl

  -- SELECT's answer, whatever its status byte
  answer_short : (x : ℕ) → length (H.purse.parameters.identifier ++ x ∷ operational H) ≤ 30
  answer_short x =
      let a = length-append H.purse.parameters.identifier (x ∷ operational H) in
      let b = p.sized.purse.identifier.size in
      let d = length-operational H in
      omega arith

  select_short : (verified : Bool) → length (select_answer H verified) ≤ 30
  unfolding select_answer
  select_short verified = answer_short _

  datum_short : (verified : Bool) (tag : ℕ) → length (datum H verified tag) ≤ 16
  unfolding datum
  datum_short verified tag =
      pick_holds Q (eqb tag 0x01) _ _ (λ e. let a = p.sized.purse.identifier.size in omega arith)
      (λ e. pick_holds Q (eqb tag 0x02) _ _ (λ e. omega arith)
      (λ e. pick_holds Q (eqb tag 0x03) _ _ (λ e. omega arith)
      (λ e. pick_holds Q (eqb tag 0x04) _ _ (λ e. omega arith)
      (λ e. pick_holds Q (eqb tag 0x05) _ _ (λ e. omega arith)
      (λ e. pick_holds Q (eqb tag 0x06) _ _
      (λ e. pick_holds Q H.purse.parameters.bank.defined _ _ (λ e. let a = p.sized.purse.bank.size in omega arith) (λ e. omega arith))
      (λ e. pick_holds Q (eqb tag 0x07) _ _
      (λ e.
      let v = H.purse.parameters.agent in
      let a = p.sized.purse.agent.size in
      let b = length-take v.size v.bytes in
      let d = min-le_right v.size (length v.bytes) in
      omega arith)
      (λ e. pick_holds Q (eqb tag 0x14) _ _ (λ e. omega arith)
      (λ e. pick_holds Q (eqb tag 0x15) _ _ (λ e. omega arith)
      (λ e. pick_holds Q (eqb tag 0x16) _ _ (λ e. omega arith)
      (λ e. pick_holds Q (eqb tag 0x17) _ _ (λ e. omega arith)
      (λ e. omega arith)))))))))))
    where
      Q : List ℕ → Type 0
      Q l = length l ≤ 16

  -- the record that READ RECORD reads
  read_size : (k : ℕ) → k < H.fixed.logsize → length (record_bytes (get_or c.log k void)) ≡ record_size
  read_size k h = let n = p.records in (record_octets (get_or c.log k void) (p.each k (omega arith))).size

  initialize_answer_lem : (s : Session) (p1 : ℕ) → (length (initialize_answer H s p1) ≤ 20) × AreBytes (initialize_answer H s p1)
  unfolding initialize_answer
  initialize_answer_lem s p1 =
      let i = H.purse.parameters.identifier in
      let v = H.purse.parameters.bank.value in
      let x = bank_sent (dek_of s.channel.level H) v in
      let n : length i ≡ 4 = p.sized.purse.identifier.size in
      pick_holds (λ (l : List ℕ). (length (i ++ l) ≤ 20) × AreBytes (i ++ l)) (eqb p1 0x02) x []
      (λ e.
      let a = length-append i x in
      let b : length x ≡ length v = length-bank_sent (dek_of s.channel.level H) v in
      let d : length v ≡ 16 = p.sized.purse.bank.size in
      (omega arith, append-bytes i x p.sized.purse.identifier.each (bytes-bank_sent (dek_of s.channel.level H) v p.sized.purse.bank.each)))
      (λ e.
      let a = length-append i [] in
      (omega arith, append-bytes i [] p.sized.purse.identifier.each none-bytes))

-- what COMPLETE TRANSACTION sends, of a head whose numbers are small
complete-answer : (h : Head) → Octets 4 h.purse.parameters.identifier → h.purse.parameters.currency < 65536 → h.shared.maxnumber < 65536
    → h.state.number < 65536 → h.purse.balance < 65536 → h.purse.parameters.maxbalance < 65536 → Octets 16 (complete_answer h)
unfolding complete_answer operational
complete-answer h i c m n x y =
    let k = min-le_left h.purse.balance h.purse.parameters.maxdebit in
    append_octets (append_octets i (word_octets h.state.number n))
    (append_octets (append_octets (append_octets (append_octets
    (word_octets (h.shared.maxnumber - h.state.number) (omega arith))
    (word_octets h.purse.parameters.currency c))
    (word_octets h.purse.balance x))
    (word_octets (min h.purse.balance h.purse.parameters.maxdebit) (omega arith)))
    (word_octets (h.purse.parameters.maxbalance - h.purse.balance) (omega arith)))

noted_small : (p1 amount : ℕ) → amount < 65536 → amount_of (noted p1 amount) < 65536
unfolding noted amount_of
noted_small p1 amount h = pick_holds (λ (x : Pending). amount_of x < 65536) (eqb p1 0x00) (Debiting amount) (Crediting amount) (λ e. h) (λ e. h)

-- ---- the commands

module _ (c : Card) (s : Session) (command random : List ℕ) (i : Sound c s command random) where
  abbrev B : Head
  B = c.head

  early_fits : (w : ℕ) → Fits (refused B (ended s) w)
  early_fits w = refused_fits B (ended s) w (ended-sized i.sized)

  authenticate_fits : (pending : Pending) (p1 : ℕ) (body : List ℕ) → Fits (external_authenticate_of pending B s p1 command body)
  unfolding external_authenticate_of authenticated
  authenticate_fits (Update set) p1 body =
      let mac = cmac_of s.offer.mac (zeros 8) command 13 in
      let o = i.sized.offer in
      let m : Octets 8 mac = record { size = length-cmac_of s.offer.mac (zeros 8) command 13 refl; each = bytes-cmac_of s.offer.mac (zeros 8) command 13 (zeros-bytes 8) i.bytes } in
      pick_holds Fits (not (same (part body 0 8) s.offer.expected)) _ _ (λ t. refused_fits B (closed s) 0x6300 (closed-sized i.sized))
      (λ t. pick_holds Fits (not (same (part body 8 8) mac)) _ _ (λ u. refused_fits B (closed s) 0x6982 (closed-sized i.sized))
      (λ u. done_fits _ B _ [] (opened-sized i.sized (record { enc = o.enc; mac = o.mac; cmac = m; rmac = zeros_octets 8 })) (omega arith)))
  authenticate_fits Nothing p1 body = early_fits 0x6985
  authenticate_fits (Debiting n) p1 body = early_fits 0x6985
  authenticate_fits (Crediting n) p1 body = early_fits 0x6985

  judged_fits : (right : Bool) → Fits (judged right B s)
  unfolding judged
  judged_fits true = done_fits _ _ _ [] (flagged-sized i.sized true) (omega arith)
  judged_fits false = record { short = omega arith; session = flagged-sized i.sized false }

  update_fits : (lc : ℕ) → lc ≡ 8 → (0 < lc → 5 + lc ≤ length command) → Fits (initialize_update_of B s (byte_at command 2) (data_of command lc) random)
  unfolding initialize_update_of offer update_answer
  update_fits lc k w =
      let p1 = byte_at command 2 in
      let host = data_of command lc in
      let n : length host ≡ 8 = length_part command 5 lc (w (omega arith)) ∙ k in
      let f : AreBytes host = part_bytes command 5 lc i.bytes in
      let m = i.drawn.size in
      let g = i.drawn.each in
      let a = key_set_of (set_of p1) B in
      let t = a.keys in
      let o : SizedOffer (offer t host random) = record {
        enc = record { size = length-session_key t.enc host random n m; each = bytes-session_key t.enc host random f g };
        mac = record { size = length-session_key t.mac host random n m; each = bytes-session_key t.mac host random f g };
        expected = record { size = length-host_cryptogram _ host random; each = bytes-host_cryptogram _ host random f g };
      } in
      pick_holds Fits (not a.defined) _ _ (λ e. early_fits 0x6A88)
      (λ e. done_fits _ B _ _ (offered-sized i.sized (set_of p1) o) (let q = length-card_cryptogram (offer t host random).enc host random in simp (length-append, m, q) (omega arith)))

  plain_fits : (p : Plain) (lc : ℕ) → Passed c s command p lc
      → Fits (plain_of p B (get_or c.log (asked command) void) s (header command lc) command (data_of command lc) random)
  unfolding plain_of select_of verify_pin_of get_data_of read_record_of asked plain_length has_record
  plain_fits Select lc f =
      pick_holds Fits (same (data_of command lc) (take B.purse.aid.size B.purse.aid.bytes)) _ _
      (λ t. done_fits _ B _ _ (reselected-sized i.sized true) (select_short c i.proper s.verified))
      (λ t. refused_fits B _ 0x6A82 (reselected-sized i.sized false))
  plain_fits InitializeUpdate lc f = update_fits lc (eqb-true lc 8 f.long) f.within
  plain_fits ExternalAuthenticate lc f = authenticate_fits s.pending (byte_at command 2) (data_of command lc)
  plain_fits VerifyPin lc f = decided_either Fits _ _ _ _ (λ t. judged_fits _) (early_fits _)
  plain_fits GetData lc f =
      let k = datum_short c i.proper s.verified (byte_at command 3) in
      done_fits _ B _ _ (ended-sized i.sized) (omega arith)
  plain_fits ReadRecord lc f =
      let b = and_both (leb 1 (byte_at command 2)) _ f.logged in
      let x = leb-true 1 (byte_at command 2) b.0 in
      let y = leb-true (byte_at command 2) B.fixed.logsize b.1 in
      let k = read_size c i.proper (asked command) (unfold asked in omega arith) in
      done_fits _ B _ _ (ended-sized i.sized) (omega arith)

  -- the session with the chain of C-MACs moved on
  pub chain_sized : (lc : ℕ) → Sized (chained (mac_of s command lc) s)
  chain_sized lc =
      let k = i.sized.channel in
      chained-sized i.sized
      (record {
        size = length-cmac_of s.channel.mac s.channel.cmac command (5 + (lc - mac_size)) k.cmac.size;
        each = bytes-cmac_of s.channel.mac s.channel.cmac command (5 + (lc - mac_size)) k.cmac.each i.bytes;
      })

  module _ (t : Session) (z : Sized t) where
    still_fits : (w : ℕ) → Fits (refused B (ended t) w)
    still_fits w = refused_fits B (ended t) w (ended-sized z)

    -- the R-MAC of an answer
    rmac_octets : (answer : List ℕ) → AreBytes answer → Octets 8 (rmac_of t.channel.mac t.channel.rmac t.channel.cmac answer)
    rmac_octets answer f =
        let k = z.channel in
        record {
          size = length-rmac_of t.channel.mac t.channel.rmac t.channel.cmac answer k.rmac.size;
          each = bytes-rmac_of t.channel.mac t.channel.rmac t.channel.cmac answer k.rmac.each k.cmac.each f;
        }

    initialize_fits : (p1 : ℕ) (body : List ℕ) → AreBytes body → Fits (initialize_transaction_of B t p1 body)
    unfolding initialize_transaction_of
    initialize_fits p1 body f =
        let answer = initialize_answer B t p1 in
        let a = initialize_answer_lem c i.proper t p1 in
        let m = rmac_octets answer a.1 in
        let n : length answer ≤ 20 = a.0 in
        let k = length-append answer (rmac_of t.channel.mac t.channel.rmac t.channel.cmac answer) in
        let l = m.size in
        decided_either Fits _ _ _ _
        (λ e. done_fits _ B _ _ (answered-sized z (noted p1 (word_at body 2)) (noted_small p1 (word_at body 2) (word-at_below body 2 f)) m) (omega arith))
        (still_fits _)

    complete_fits : (context : List ℕ) → Fits (complete_transaction_of B t context)
    unfolding complete_transaction_of with_state with_balance with_purse booked amount_of
    complete_fits context =
        decided_either Fits _ _ _ _
        (λ e.
        let f = complete_passed B t e in
        let g = facts B i.proper.tests in
        let r : B.state.number < B.shared.maxnumber = f.room in
        let q : B.shared.maxnumber < 65536 = i.proper.sized.maxnumber in
        let x : B.purse.parameters.maxbalance ≤ 32767 = g.maxbalance in
        let b = (moved-balance t.pending B.purse.balance B.purse.parameters.maxbalance f.pending f.within).1 g.balance in
        let n = completed_head B t in
        let answer = complete_answer n in
        let a : Octets 16 answer = complete-answer n i.proper.sized.purse.identifier i.proper.sized.purse.currency q (omega arith) (omega arith) (omega arith) in
        let m = rmac_octets answer a.each in
        let l = (append_octets (append_octets a m) (word_octets 0x9000 (omega arith))).size in
        let k = content-holding (completed_answer B t ++ word 0x9000) in
        record { short = rw k (omega arith); session = answered-sized z Nothing (omega arith) m })
        (still_fits _)

    signed_fits : (g : Signed) (lc : ℕ) → Fits (signed_of g B t (header command lc) (data_of command (lc - mac_size)))
    unfolding signed_of put_key_of pin_change_of store_data_of put_data_of
    signed_fits PutKey lc = decided_either Fits _ _ _ _ (λ e. done_fits _ _ _ [] (ended-sized z) (omega arith)) (still_fits _)
    signed_fits PinChange lc =
        decided_either Fits _ _ _ _
        (λ e. pick_holds Fits (eqb (length (data_of command (lc - mac_size))) 0) _ _
        (λ u. done_fits _ _ _ [] (flagged-sized z false) (omega arith)) (λ u. done_fits _ _ _ [] (flagged-sized z false) (omega arith)))
        (still_fits _)
    signed_fits StoreData lc = decided_either Fits _ _ _ _ (λ e. done_fits _ _ _ [] (ended-sized z) (omega arith)) (still_fits _)
    signed_fits InitializeTransaction lc = initialize_fits (byte_at command 2) (data_of command (lc - mac_size)) (part_bytes command 5 (lc - mac_size) i.bytes)
    signed_fits CompleteTransaction lc = complete_fits (data_of command (lc - mac_size))
    signed_fits PutData lc = decided_either Fits _ _ _ _ (λ e. done_fits _ _ _ [] (ended-sized z) (omega arith)) (still_fits _)

  fits : Fits (respond c s command random)
  fits =
      respond_holds c s command random Fits (λ w j. early_fits w) (λ g e. refused_fits B (closed s) 0x6982 (closed-sized i.sized))
      plain_fits (λ g lc f. signed_fits (chained (mac_of s command lc) s) (chain_sized lc) g lc)

  -- the reply has at least its status word, and fits the response area
  pub reply_short : (2 ≤ length (content (respond c s command random).reply)) × (length (content (respond c s command random).reply) ≤ 32)
  reply_short = ((status_listed c s command random).long, fits.short)

  -- the session's arrays have their sizes and its amount two bytes, so that it can be packed
  pub session-sized : Sized (respond c s command random).session
  session-sized = fits.session
