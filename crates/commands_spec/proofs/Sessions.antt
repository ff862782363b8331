-- What a command leaves of the session: "Every command that answers 0, refused or not, ends a pending INITIALIZE UPDATE or INITIALIZE
-- TRANSACTION"; which commands set the PIN flag and the selection, and which keep the channel. Assumes nothing.
use mathlib.Core.Bool.{Bool, true, false, not, ◌||◌, false≢true}
use mathlib.Core.List.{List}
use mathlib.Core.Path.{◌≡◌, refl, sym, ap, ◌∙◌}
use Prim.Native.Nat.{ℕ, ◌-◌}
use native.Mathlib.Omega.{arith}
use borrow.Author.Tests.{eqb-true}
use lib.Dec.{eqb}
use lib.ListN.{length, get_or, take}
use Rattle.std.specs.Prelude.{Result, Ok, Err}
use Rattle.octets.specs.Choice.{pick}
use Rattle.octets.specs.Bytes.{zeros, byte_at, part, same}
use Rattle.octets.specs.Words.{word_at}
use Rattle.octets.proofs.Equality.{fails}
use Rattle.octets.proofs.Numbers.{word_in_part}
use Rattle.octets.proofs.Rules.{pick_holds}
use Rattle.card.specs.declared.head.Head.{Head}
use Rattle.card.specs.Log.{void}
use Rattle.card.specs.Card.{Card}
use Rattle.session.specs.declared.Channel.{Channel}
use Rattle.session.specs.declared.Pending.{Pending}
use Rattle.session.specs.declared.Pending.TheVariants.{Nothing, Update, Debiting, Crediting}
use Rattle.session.specs.declared.Session.{Session}
use Rattle.session.specs.Transitions.{ended, closed, reselected, flagged, offered, opened, chained, answered}
use Rattle.session.specs.Codes.{set_of}
use Rattle.channel.specs.Channel.{cmac_of}
use Rattle.apdu.specs.declared.instructions.Plain.{Plain}
use Rattle.apdu.specs.declared.instructions.Plain.TheVariants.{Select, InitializeUpdate, ExternalAuthenticate, VerifyPin, GetData, ReadRecord}
use Rattle.apdu.specs.declared.instructions.Signed.{Signed}
use Rattle.apdu.specs.declared.instructions.Signed.TheVariants.{PutKey, PinChange, StoreData, InitializeTransaction, CompleteTransaction, PutData}
use Rattle.apdu.specs.declared.instructions.Instruction.{Instruction}
use Rattle.apdu.specs.declared.instructions.Instruction.TheVariants.{IsPlain, IsSigned}
use Rattle.apdu.specs.declared.refusals.Refusal.{Refusal}
use Rattle.apdu.specs.Parsing.{data_of}
use Rattle.apdu.specs.Lengths.{mac_size, signed_length}
use Rattle.apdu.proofs.Shapes.{header}
use Rattle.commands_spec.specs.declared.outcome.Outcome.{Outcome}
use Rattle.commands_spec.specs.Outcomes.{refused, done}
use Rattle.commands_spec.specs.Words.{is_one, refusals}
use Rattle.commands_spec.specs.KeySets.{key_set_of}
use Rattle.commands_spec.specs.Select.{select_of}
use Rattle.commands_spec.specs.InitializeUpdate.{initialize_update_of}
use Rattle.commands_spec.specs.ExternalAuthenticate.{authenticated, external_authenticate_of}
use Rattle.commands_spec.specs.PutKey.{put_key_of}
use Rattle.commands_spec.specs.PinChange.{pin_change_of}
use Rattle.commands_spec.specs.StoreData.{store_data_of}
use Rattle.commands_spec.specs.VerifyPin.{judged, verify_pin_of}
use Rattle.commands_spec.specs.InitializeTransaction.{noted, initialize_transaction_of}
use Rattle.commands_spec.specs.CompleteTransaction.{complete_transaction_of}
use Rattle.commands_spec.specs.GetData.{get_data_of}
use Rattle.commands_spec.specs.PutData.{put_data_of}
use Rattle.commands_spec.specs.ReadRecord.{asked, read_record_of}
use Rattle.commands_spec.specs.Respond.{plain_of, signed_of, named, respond}
use Rattle.commands_spec.proofs.Steps.{decided_holds, decided_either, early, mac_of, Accepted, respond_holds}
use Rattle.commands_spec.proofs.Judgements.{pin-judged, verify_judged, initialize_judged}

-- what is pending after a command with a status word: P1 is byte 3, the amount bytes 8 and 9
unfoldable pub pending_after : Result Instruction Refusal → ℕ → List ℕ → Pending
pending_after (Ok (IsPlain Select)) w command = Nothing
pending_after (Ok (IsPlain InitializeUpdate)) w command = pick (eqb w 0x9000) (Update (set_of (byte_at command 2))) Nothing
pending_after (Ok (IsPlain ExternalAuthenticate)) w command = Nothing
pending_after (Ok (IsPlain VerifyPin)) w command = Nothing
pending_after (Ok (IsPlain GetData)) w command = Nothing
pending_after (Ok (IsPlain ReadRecord)) w command = Nothing
pending_after (Ok (IsSigned PutKey)) w command = Nothing
pending_after (Ok (IsSigned PinChange)) w command = Nothing
pending_after (Ok (IsSigned StoreData)) w command = Nothing
pending_after (Ok (IsSigned InitializeTransaction)) w command = pick (eqb w 0x9000) (noted (byte_at command 2) (word_at command 7)) Nothing
pending_after (Ok (IsSigned CompleteTransaction)) w command = Nothing
pending_after (Ok (IsSigned PutData)) w command = Nothing
pending_after (Err x) w command = Nothing

-- the PIN flag: "A wrong or ill-formed PIN: .. flag cleared .. Right: .. flag set"; PIN CHANGE and UNBLOCK clear it
unfoldable pub verified_after : Result Instruction Refusal → ℕ → Bool → Bool
verified_after (Ok (IsPlain Select)) w v = v
verified_after (Ok (IsPlain InitializeUpdate)) w v = v
verified_after (Ok (IsPlain ExternalAuthenticate)) w v = v
verified_after (Ok (IsPlain VerifyPin)) w v = pick (eqb w 0x9000) true (pick (eqb w 0x6300) false v)
verified_after (Ok (IsPlain GetData)) w v = v
verified_after (Ok (IsPlain ReadRecord)) w v = v
verified_after (Ok (IsSigned PutKey)) w v = v
verified_after (Ok (IsSigned PinChange)) w v = pick (eqb w 0x9000) false v
verified_after (Ok (IsSigned StoreData)) w v = v
verified_after (Ok (IsSigned InitializeTransaction)) w v = v
verified_after (Ok (IsSigned CompleteTransaction)) w v = v
verified_after (Ok (IsSigned PutData)) w v = v
verified_after (Err x) w v = v

-- the selection: SELECT's own AID selects, another deselects
unfoldable pub selected_after : Result Instruction Refusal → ℕ → Bool → Bool
selected_after (Ok (IsPlain Select)) w v = pick (eqb w 0x9000) true (pick (eqb w 0x6A82) false v)
selected_after (Ok (IsPlain InitializeUpdate)) w v = v
selected_after (Ok (IsPlain ExternalAuthenticate)) w v = v
selected_after (Ok (IsPlain VerifyPin)) w v = v
selected_after (Ok (IsPlain GetData)) w v = v
selected_after (Ok (IsPlain ReadRecord)) w v = v
selected_after (Ok (IsSigned g)) w v = v
selected_after (Err x) w v = v

-- the channel: SELECT that reaches its AID, EXTERNAL AUTHENTICATE that judges, and step 6 may close it or open another
unfoldable pub touches : Result Instruction Refusal → ℕ → Bool
touches (Ok (IsPlain Select)) w = eqb w 0x9000 || eqb w 0x6A82
touches (Ok (IsPlain InitializeUpdate)) w = false
touches (Ok (IsPlain ExternalAuthenticate)) w = eqb w 0x9000 || eqb w 0x6300 || eqb w 0x6982
touches (Ok (IsPlain VerifyPin)) w = false
touches (Ok (IsPlain GetData)) w = false
touches (Ok (IsPlain ReadRecord)) w = false
touches (Ok (IsSigned g)) w = eqb w 0x6982
touches (Err x) w = false

-- the same level and session keys; the chains may have moved
pub record SameKeys (a b : Channel) : Type 0 where
  pub level : b.level ≡ a.level
  pub enc : b.enc ≡ a.enc
  pub mac : b.mac ≡ a.mac

never : {a b : Channel} → true ≡ false → SameKeys a b
never e = absurd (false≢true (sym e))

-- of a session s, a command with a status word w leaves t
pub record Leaves (i : Result Instruction Refusal) (s : Session) (command : List ℕ) (w : ℕ) (t : Session) : Type 0 where
  pub pending : t.pending ≡ pending_after i w command
  pub verified : t.verified ≡ verified_after i w s.verified
  pub selected : t.selected ≡ selected_after i w s.selected
  pub channel : touches i w ≡ false → SameKeys s.channel t.channel

-- a word of a list is none that isn't in it
other : (l : List ℕ) (w x : ℕ) → is_one w l ≡ true → is_one x l ≡ false → eqb w x ≡ false
other l w x j n = fails (eqb w x) (λ e. false≢true (sym n ∙ ap (λ (y : ℕ). is_one y l) (sym (eqb-true w x e)) ∙ j))

module _ (c : Card) (s : Session) (command random : List ℕ) where
  abbrev H : Head
  H = c.head

  abbrev L : Result Instruction Refusal → Outcome → Type 0
  L i o = Leaves i s command o.status o.session

  -- ---- steps 1 to 6

  early_leaves : (i : Result Instruction Refusal) (w : ℕ) → is_one w early ≡ true → L i (refused H (ended s) w)
  unfolding refused ended pending_after verified_after selected_after touches is_one
  early_leaves i w j = go i
    where
      a : eqb w 0x9000 ≡ false
      a = other early w 0x9000 j refl

      b : eqb w 0x6300 ≡ false
      b = other early w 0x6300 j refl

      d : eqb w 0x6A82 ≡ false
      d = other early w 0x6A82 j refl

      go : (i : Result Instruction Refusal) → L i (refused H (ended s) w)
      go (Ok (IsPlain Select)) = record { pending = refl; verified = refl; selected = rw (a, d); channel = λ e. search }
      go (Ok (IsPlain InitializeUpdate)) = record { pending = rw a; verified = refl; selected = refl; channel = λ e. search }
      go (Ok (IsPlain ExternalAuthenticate)) = search never
      go (Ok (IsPlain VerifyPin)) = record { pending = refl; verified = rw (a, b); selected = refl; channel = λ e. search }
      go (Ok (IsPlain GetData)) = search never
      go (Ok (IsPlain ReadRecord)) = search never
      go (Ok (IsSigned PutKey)) = search never
      go (Ok (IsSigned PinChange)) = record { pending = refl; verified = rw a; selected = refl; channel = λ e. search }
      go (Ok (IsSigned StoreData)) = search never
      go (Ok (IsSigned InitializeTransaction)) = record { pending = rw a; verified = refl; selected = refl; channel = λ e. search }
      go (Ok (IsSigned CompleteTransaction)) = search never
      go (Ok (IsSigned PutData)) = search never
      go (Err x) = search never

  unsigned_leaves : (g : Signed) → L (Ok (IsSigned g)) (refused H (closed s) 0x6982)
  unfolding refused closed pending_after verified_after selected_after touches
  unsigned_leaves PutKey = search never
  unsigned_leaves PinChange = search never
  unsigned_leaves StoreData = search never
  unsigned_leaves InitializeTransaction = search never
  unsigned_leaves CompleteTransaction = search never
  unsigned_leaves PutData = search never

  -- ---- the plain commands

  authenticate_leaves : (pending : Pending) (p1 : ℕ) (body : List ℕ) → L (Ok (IsPlain ExternalAuthenticate)) (external_authenticate_of pending H s p1 command body)
  unfolding external_authenticate_of authenticated refused done ended closed opened pending_after verified_after selected_after touches
  authenticate_leaves (Update set) p1 body =
      let P = L (Ok (IsPlain ExternalAuthenticate)) in
      pick_holds P (not (same (part body 0 8) s.offer.expected)) _ _ (λ t. search never)
      (λ t. pick_holds P (not (same (part body 8 8) (cmac_of s.offer.mac (zeros 8) command 13))) _ _
      (λ u. search never) (λ u. search never))
  authenticate_leaves Nothing p1 body = search never
  authenticate_leaves (Debiting n) p1 body = search never
  authenticate_leaves (Crediting n) p1 body = search never

  judged-leaves : (right : Bool) → L (Ok (IsPlain VerifyPin)) (judged right H s)
  unfolding judged done flagged pending_after verified_after selected_after touches
  judged-leaves true = search never
  judged-leaves false = search never

  plain-leaves : (p : Plain) (lc : ℕ) → L (Ok (IsPlain p)) (plain_of p H (get_or c.log (asked command) void) s (header command lc) command (data_of command lc) random)
  unfolding plain_of select_of initialize_update_of verify_pin_of get_data_of read_record_of refused done ended reselected offered pending_after verified_after selected_after touches is_one refusals
  plain-leaves Select lc =
      pick_holds (L (Ok (IsPlain Select))) (same (data_of command lc) (take H.purse.aid.size H.purse.aid.bytes)) _ _
      (λ t. search never) (λ t. search never)
  plain-leaves InitializeUpdate lc =
      pick_holds (L (Ok (IsPlain InitializeUpdate))) (not (key_set_of (set_of (byte_at command 2)) H).defined) _ _
      (λ t. search never) (λ t. search never)
  plain-leaves ExternalAuthenticate lc = authenticate_leaves s.pending (byte_at command 2) (data_of command lc)
  plain-leaves VerifyPin lc =
      decided_holds (L (Ok (IsPlain VerifyPin))) refusals _ _ _ _ (verify_judged _ _ _ _) (λ t. judged-leaves _)
      (λ j. record { pending = refl; verified = rw (other refusals _ 0x9000 j refl, other refusals _ 0x6300 j refl); selected = refl; channel = λ e. search })
  plain-leaves GetData lc = search never
  plain-leaves ReadRecord lc = search never

  -- ---- the signed commands

  signed-leaves : (g : Signed) (lc : ℕ) → Accepted s command g lc
      → L (Ok (IsSigned g)) (signed_of g H (chained (mac_of s command lc) s) (header command lc) (data_of command (lc - mac_size)))
  unfolding signed_of put_key_of pin_change_of store_data_of initialize_transaction_of complete_transaction_of put_data_of refused done ended chained flagged answered pending_after verified_after selected_after touches is_one refusals signed_length
  signed-leaves PutKey lc f =
      decided_either (L (Ok (IsSigned PutKey))) _ _ _ _ (λ t. search never) (search never)
  signed-leaves PinChange lc f =
      decided_holds (L (Ok (IsSigned PinChange))) refusals _ _ _ _ (pin-judged _ _ _ _)
      (λ t. pick_holds (L (Ok (IsSigned PinChange))) (eqb (length (data_of command (lc - mac_size))) 0) _ _
      (λ u. search never) (λ u. search never))
      (λ j. record { pending = refl; verified = rw (other refusals _ 0x9000 j refl); selected = refl; channel = λ e. search })
  signed-leaves StoreData lc f =
      decided_either (L (Ok (IsSigned StoreData))) _ _ _ _ (λ t. search never) (search never)
  signed-leaves InitializeTransaction lc f =
      let k : lc ≡ 12 = eqb-true lc 12 f.long in
      let a : word_at (data_of command (lc - mac_size)) 2 ≡ word_at command 7 = rw k (word_in_part command 5 4 2 (omega arith)) in
      decided_holds (L (Ok (IsSigned InitializeTransaction))) refusals _ _ _ _ (initialize_judged _ _ _ _ _)
      (λ t. record { pending = ap (noted (byte_at command 2)) a; verified = refl; selected = refl; channel = λ e. search })
      (λ j. record { pending = rw (other refusals _ 0x9000 j refl); verified = refl; selected = refl; channel = λ e. search })
  signed-leaves CompleteTransaction lc f =
      decided_either (L (Ok (IsSigned CompleteTransaction))) _ _ _ _ (λ t. search never) (search never)
  signed-leaves PutData lc f =
      decided_either (L (Ok (IsSigned PutData))) _ _ _ _ (λ t. search never) (search never)

  -- every outcome's session is so
  pub ends_pending : Leaves (named command) s command (respond c s command random).status (respond c s command random).session
  ends_pending =
      respond_holds c s command random (L (named command)) (early_leaves (named command))
      (λ g e. rw e (unsigned_leaves g)) (λ p lc f. rw f.names (plain-leaves p lc)) (λ g lc f. rw f.names (signed-leaves g lc f))
