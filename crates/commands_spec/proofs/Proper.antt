-- A proper card stays proper: after a command, and after each of the commits that it makes. Assumes nothing.
use mathlib.Core.Bool.{Bool, true, false, ◌&&◌, ◌||◌}
use mathlib.Core.List.{List, [], ◌∷◌}
use mathlib.Core.Path.{◌≡◌, refl, sym, ◌∙◌}
use Prim.Native.Nat.{ℕ, zero, suc, ◌+◌, ◌-◌, ◌≤◌, ◌<◌}
use native.Mathlib.Omega.{arith}
use borrow.Author.Tests.{eqb-true, eqb-false}
use lib.Dec.{eqb}
use lib.ListN.{length, get_or, take}
use Rattle.std.specs.Prelude.{Ok}
use Rattle.octets.specs.Bytes.{AreBytes, Octets, byte_at}
use Rattle.octets.specs.Words.{word_at}
use Rattle.octets.proofs.Parts.{length_part}
use Rattle.octets.proofs.Ranges.{part_bytes}
use Rattle.octets.proofs.Octets.{part_octets}
use Rattle.octets.proofs.Rules.{pick_holds}
use Rattle.card.specs.declared.change.Change.{Change}
use Rattle.card.specs.declared.head.Keys.{Keys}
use Rattle.card.specs.declared.head.Pin.{Pin}
use Rattle.card.specs.declared.head.State.{State}
use Rattle.card.specs.declared.head.Head.{Head}
use Rattle.card.specs.Log.{void}
use Rattle.card.specs.Keys.{keys_in}
use Rattle.card.specs.Card.{Card}
use Rattle.card.specs.Pin.{well_formed}
use Rattle.card.specs.Proper.{pin_ok, Proper}
use Rattle.card.specs.Changes.{hot_change, changed, head_after, log_after, after}
use Rattle.card.specs.Updates.{with_state, with_tries, with_pin, with_parameters, with_balance, with_purse}
use Rattle.card.proofs.Bytes.{keys-sized}
use Rattle.session.specs.declared.Set.{Set}
use Rattle.session.specs.declared.Set.TheVariants.{Debit, Credit, Admin}
use Rattle.session.specs.declared.Session.{Session}
use Rattle.session.specs.Transitions.{ended, closed, flagged, chained}
use Rattle.session.specs.Codes.{set_of, amount_of}
use Rattle.session.proofs.WhoMay.{opened_range}
use Rattle.session.proofs.Sizes.{Sized}
use Rattle.channel.specs.Channel.{received}
use Rattle.channel.proofs.Results.{length-received, bytes-received}
use Rattle.apdu.specs.declared.instructions.Plain.{Plain}
use Rattle.apdu.specs.declared.instructions.Plain.TheVariants.{Select, InitializeUpdate, ExternalAuthenticate, VerifyPin, GetData, ReadRecord}
use Rattle.apdu.specs.declared.instructions.Signed.{Signed}
use Rattle.apdu.specs.declared.instructions.Signed.TheVariants.{PutKey, PinChange, StoreData, InitializeTransaction, CompleteTransaction, PutData}
use Rattle.apdu.specs.declared.instructions.Instruction.TheVariants.{IsPlain}
use Rattle.apdu.specs.Parsing.{data_of}
use Rattle.apdu.specs.Lengths.{mac_size, signed_length}
use Rattle.apdu.proofs.Shapes.{header}
use Rattle.commands_spec.specs.declared.outcome.Commits.TheVariants.{Unchanged, Hot, HotAndCold}
use Rattle.commands_spec.specs.declared.outcome.Outcome.{Outcome}
use Rattle.commands_spec.specs.Outcomes.{refused, done, tried, changes_of, commits_of}
use Rattle.commands_spec.specs.KeySets.{with_keys, dek_of}
use Rattle.commands_spec.specs.Data.{value_ok, datum_set}
use Rattle.commands_spec.specs.Transaction.{new_balance, log_amount}
use Rattle.commands_spec.specs.PutKey.{put_key_of}
use Rattle.commands_spec.specs.PinChange.{pin_change_of}
use Rattle.commands_spec.specs.StoreData.{unread, stored_all, personalized, store_data_of}
use Rattle.commands_spec.specs.VerifyPin.{judged, verify_pin_of}
use Rattle.commands_spec.specs.InitializeTransaction.{initialize_transaction_of}
use Rattle.commands_spec.specs.CompleteTransaction.{is_debit, booked, log_record, complete_transaction_of}
use Rattle.commands_spec.specs.PutData.{undercuts, put_data_status, put_data_of}
use Rattle.commands_spec.specs.ReadRecord.{asked}
use Rattle.commands_spec.specs.Respond.{plain_of, signed_of, respond, card_after}
use Rattle.commands_spec.proofs.Steps.{decided_either, mac_of, Passed, Accepted, respond_holds}
use Rattle.commands_spec.proofs.Judgements.{complete_passed, pin_formed, store_passed, data_passed}
use Rattle.commands_spec.proofs.SameElse.{Rest, keys-rest, same_itself, datum-same, all_same}
use Rattle.commands_spec.proofs.Ways.{is_reader, plain_way}
use Rattle.commands_spec.proofs.Readers.{none}
use Rattle.commands_spec.proofs.Moves.{moved-balance}
use Rattle.commands_spec.proofs.Facts.{Facts, facts}
use Rattle.commands_spec.proofs.Sizes.{Sound, chain_sized}
use Rattle.commands_spec.proofs.ProperChanges.{Fair, Fine, card_fine, over, over_fine, head_proper, cold_proper, logged_proper, card_settled}
use Rattle.commands_spec.proofs.Settings.{all_settled}
use Rattle.commands_spec.proofs.ProperHeads.{keys-next, datum-next, stored_next}

-- ---- changes in a row

-- every card along them is proper
abbrev pub Along : Card → List Change → Type 0
Along c [] = Proper c
Along c (x ∷ xs) = Proper c × Along (changed x c) xs

along_part : (xs : List Change) (c : Card) → Along c xs → (n : ℕ) → Proper (after (take n xs) c)
unfolding after
along_part [] c a zero = a
along_part [] c a (suc n) = a
along_part (x ∷ xs) c a zero = a.0
along_part (x ∷ xs) c a (suc n) = along_part xs (changed x c) a.1 n

along_end : (xs : List Change) (c : Card) → Along c xs → Proper (after xs c)
unfolding after
along_end [] c a = a
along_end (x ∷ xs) c a = along_end xs (changed x c) a.1

-- ---- small facts

-- new keys don't personalize
keys-personal : (set : Set) (k : Keys) (h : Head) → (with_keys set k h).purse.parameters.personalized ≡ false → h.purse.parameters.personalized ≡ false
unfolding with_keys with_purse
keys-personal Debit k h e = e
keys-personal Credit k h e = e
keys-personal Admin k h e = e

log_small : (debit : Bool) (amount : ℕ) → amount < 65536 → log_amount debit amount < 65536
unfolding log_amount
log_small true amount h = omega arith
log_small false amount h = h

-- data of PIN CHANGE, where there is any
pin-length : (command : List ℕ) (lc : ℕ) → (0 < lc → 5 + lc ≤ length command) → (eqb lc 8 || eqb lc 16) ≡ true
    → eqb (length (data_of command (lc - mac_size))) 0 ≡ false → lc ≡ 16
pin-length command lc w e n = go (eqb lc 8) refl e
  where
    go : (b : Bool) → eqb lc 8 ≡ b → (b || eqb lc 16) ≡ true → lc ≡ 16
    go true p q =
        let k : lc ≡ 8 = eqb-true lc 8 p in
        absurd (eqb-false (length (data_of command (lc - mac_size))) 0 n (rw k))
    go false p q = eqb-true lc 16 q

-- ---- the commands

module _ (c : Card) (s : Session) (command random : List ℕ) (i : Sound c s command random) where
  abbrev H : Head
  H = c.head

  abbrev A : Outcome → Type 0
  A o = Along c (commits_of o)

  known : Facts H
  known = facts H i.proper.tests

  -- the card with another balance, PIN and state
  fine : (n : ℕ) (q : Pin) (t : State) → Octets 8 q.block → pin_ok q ≡ true → Fair H n t → Fine (over H n q t)
  fine n q t = over_fine H n q t (card_fine c i.proper)

  -- and with its PIN
  kept-pin : (n : ℕ) (t : State) → Fair H n t → Fine (over H n H.pin t)
  kept-pin n t = fine n H.pin t i.proper.sized.pin known.pin

  refusal : (t : Session) (w : ℕ) → A (refused H t w)
  unfolding refused commits_of changes_of
  refusal t w = i.proper

  tells : (t : Session) (answer : List ℕ) → A (done Unchanged H t answer)
  unfolding done commits_of changes_of
  tells t answer = i.proper

  -- ---- VERIFY PIN

  spent_proper : Proper (changed (hot_change (with_state (tried H.state) H)) c)
  unfolding tried changed head_after log_after with_state with_balance with_purse
  spent_proper =
      let f = known in
      let k = f.tries in
      head_proper c _ i.proper (kept-pin _ _ (record { tries = omega arith; balance = f.balance; number = f.number })) refl (λ e. e)

  full_proper : Proper (changed (hot_change (with_tries H.fixed.maxtries H)) (changed (hot_change (with_state (tried H.state) H)) c))
  unfolding changed head_after log_after with_tries with_state with_balance with_purse
  full_proper =
      let f = known in
      head_proper (changed (hot_change (with_state (tried H.state) H)) c) _ spent_proper
      (kept-pin _ _ (record { tries = omega arith; balance = f.balance; number = f.number })) refl (λ e. e)

  judged_along : (right : Bool) → A (judged right H s)
  unfolding judged done commits_of changes_of with_tries with_state
  judged_along false = (i.proper, spent_proper)
  judged_along true = (i.proper, (spent_proper, full_proper))

  -- ---- the plain commands

  reads : (p : Plain) (lc : ℕ) → Passed c s command p lc → is_reader (Ok (IsPlain p)) ≡ true
      → A (plain_of p H (get_or c.log (asked command) void) s (header command lc) command (data_of command lc) random)
  reads p lc f r = rw (none c s command _ (plain_way c s command random p lc f) (rw f.names r)) i.proper

  plain_along : (p : Plain) (lc : ℕ) → Passed c s command p lc
      → A (plain_of p H (get_or c.log (asked command) void) s (header command lc) command (data_of command lc) random)
  unfolding plain_of verify_pin_of is_reader
  plain_along Select lc f = reads Select lc f refl
  plain_along InitializeUpdate lc f = reads InitializeUpdate lc f refl
  plain_along ExternalAuthenticate lc f = reads ExternalAuthenticate lc f refl
  plain_along VerifyPin lc f = decided_either A _ _ _ _ (λ t. judged_along _) (refusal _ _)
  plain_along GetData lc f = reads GetData lc f refl
  plain_along ReadRecord lc f = reads ReadRecord lc f refl

  -- ---- the signed ones

  body_bytes : (n : ℕ) → AreBytes (data_of command n)
  body_bytes n = part_bytes command 5 n i.bytes

  -- parameters or keys, personalized if the card was
  sets : (next : Head) (t : Session) → Rest H next → Fine next
      → (next.purse.parameters.personalized ≡ false → H.purse.parameters.personalized ≡ false) → A (done HotAndCold next t [])
  unfolding done commits_of changes_of
  sets next t r f u = (i.proper, cold_proper c next i.proper f r.fixed r.aid u)

  personalized-rest : (next : Head) → Rest H next → Rest H (personalized next)
  unfolding personalized with_parameters with_purse
  personalized-rest next r = record { fixed = r.fixed; aid = r.aid; balance = r.balance; state = r.state }

  module _ (t : Session) (z : Sized t) where
    unblock_along : A (done Hot (with_tries H.fixed.maxtries H) (flagged false t) [])
    unfolding done commits_of changes_of changed head_after log_after with_tries with_state with_balance with_purse
    unblock_along =
        let f = known in
        (i.proper, head_proper c _ i.proper (kept-pin _ _ (record { tries = omega arith; balance = f.balance; number = f.number })) refl (λ e. e))

    new_pin_along : (block : List ℕ) → Octets 8 block → well_formed block ≡ true → A (done HotAndCold (with_pin block H) (flagged false t) [])
    unfolding done commits_of changes_of with_pin pin_ok
    new_pin_along block b k =
        let f = known in
        (i.proper, cold_proper c _ i.proper (fine _ _ _ b k (record { tries = omega arith; balance = f.balance; number = f.number })) refl refl (λ e. e))

    pin_along : (body : List ℕ) → AreBytes body → (eqb (length body) 0 ≡ false → length body ≡ 8) → A (pin_change_of H t body)
    unfolding pin_change_of
    pin_along body b k =
        decided_either A _ _ _ _
        (λ e. pick_holds A (eqb (length body) 0) _ _ (λ u. unblock_along)
        (λ u.
        let dek = dek_of t.channel.level H in
        new_pin_along (received dek body) (record { size = length-received dek body ∙ k u; each = bytes-received dek body b }) (pin_formed _ _ _ _ e u)))
        (refusal _ _)

    store_along : (body : List ℕ) → AreBytes body → A (store_data_of H t body)
    unfolding store_data_of
    store_along body b =
        decided_either A _ _ _ _
        (λ e.
        let dek = dek_of t.channel.level H in
        let next = (stored_all (length body) dek body (unread H)).head in
        let f = store_passed H.purse.parameters.personalized (H.purse.debit.defined && H.purse.credit.defined) _ _ _ e in
        let k = all_settled (length body) dek body (unread H) b (card_settled c i.proper) in
        let m = all_same (length body) H dek body (unread H) (same_itself H) in
        sets (personalized next) _ (personalized-rest next m.rest) (stored_next c i.proper next k m f.personal f.keys) (λ u. f.personal))
        (refusal _ _)

    put_data_along : (tag : ℕ) (v : List ℕ) → AreBytes v → A (put_data_of H t tag v)
    unfolding put_data_of put_data_status
    put_data_along tag v b =
        decided_either A _ _ _ _
        (λ e.
        let dek = dek_of t.channel.level H in
        let f = data_passed H.purse.parameters.personalized _ _ (value_ok tag v) (undercuts tag (word_at v 0) H.purse.balance H.state.number) e in
        let m = datum-same dek tag v H in
        sets (datum_set dek tag v H) _ m.rest (datum-next c i.proper dek tag v f.above b f.value f.personal) (λ u. sym m.personalized ∙ u))
        (refusal _ _)

    put_key_along : (p2 : ℕ) (body : List ℕ) → AreBytes body → A (put_key_of H t p2 body)
    unfolding put_key_of
    put_key_along p2 body b =
        decided_either A _ _ _ _
        (λ e.
        let dek = dek_of t.channel.level H in
        let k = keys_in (received dek body) in
        sets (with_keys (set_of p2) k H) _ (keys-rest (set_of p2) k H) (keys-next c i.proper (set_of p2) k (keys-sized (received dek body) (bytes-received dek body b)))
        (keys-personal (set_of p2) k H))
        (refusal _ _)

    initialize_along : (p1 : ℕ) (body : List ℕ) → A (initialize_transaction_of H t p1 body)
    unfolding initialize_transaction_of
    initialize_along p1 body = decided_either A _ _ _ _ (λ e. tells _ _) (refusal _ _)

    complete_along : (context : List ℕ) → Octets 16 context → A (complete_transaction_of H t context)
    unfolding complete_transaction_of commits_of changes_of changed head_after log_after with_state with_balance with_purse booked log_record
    complete_along context a =
        decided_either A _ _ _ _
        (λ e.
        let f = known in
        let k = complete_passed H t e in
        let debit = is_debit t.pending in
        let amount = amount_of t.pending in
        let y = opened_range t.channel.level k.with_rmac in
        let r : H.state.number < H.shared.maxnumber = k.room in
        let q : H.shared.maxnumber < 65536 = i.proper.sized.maxnumber in
        let x : H.purse.parameters.maxbalance ≤ 32767 = f.maxbalance in
        let b : new_balance debit amount H.purse.balance ≤ H.purse.parameters.maxbalance =
        (moved-balance t.pending H.purse.balance H.purse.parameters.maxbalance k.pending k.within).1 f.balance in (
          i.proper,
          logged_proper c _ _ i.proper (kept-pin _ _ (record { tries = f.tries; balance = b; number = omega arith })) refl
              (record {
                number = omega arith;
                currency = i.proper.sized.purse.currency;
                amount = log_small debit amount z.amount;
                balance = omega arith;
                context = a;
                keyset = omega (arith, y.1);
              })
              (record { least = y.0; most = y.1 }) k.personal,
        ))
        (refusal _ _)

    signed_along : (g : Signed) (lc : ℕ) → Accepted s command g lc → A (signed_of g H t (header command lc) (data_of command (lc - mac_size)))
    unfolding signed_of signed_length
    signed_along PutKey lc f = put_key_along (byte_at command 3) _ (body_bytes (lc - mac_size))
    signed_along PinChange lc f =
        pin_along _ (body_bytes (lc - mac_size))
        (λ e.
        let n : lc ≡ 16 = pin-length command lc f.within f.long e in
        rw n (length_part command 5 8 (let w = f.within (omega arith) in omega arith)))
    signed_along StoreData lc f = store_along _ (body_bytes (lc - mac_size))
    signed_along InitializeTransaction lc f = initialize_along (byte_at command 2) (data_of command (lc - mac_size))
    signed_along CompleteTransaction lc f =
        let n : lc ≡ 24 = eqb-true lc 24 f.long in
        let w = f.within (omega arith) in
        rw n (complete_along (data_of command 16) (part_octets command 5 16 i.bytes (omega arith)))
    signed_along PutData lc f = put_data_along (byte_at command 3) _ (body_bytes (lc - mac_size))

  -- the card before a command and after each of its commits
  pub along : Along c (commits_of (respond c s command random))
  along =
      respond_holds c s command random A (λ w j. refusal (ended s) w) (λ g e. refusal (closed s) 0x6982) plain_along
      (λ g lc f. signed_along (chained (mac_of s command lc) s) (chain_sized c s command random i lc) g lc f)

  -- the card after a command
  pub respond_proper : Proper (card_after c s command random)
  unfolding card_after
  respond_proper = along_end (commits_of (respond c s command random)) c along

  -- and after any number of its commits
  pub each_proper : (n : ℕ) → Proper (after (take n (commits_of (respond c s command random))) c)
  each_proper = along_part (commits_of (respond c s command random)) c along
