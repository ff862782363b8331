-- "A command whose line names no answer gives its status word alone": every refusal, and EXTERNAL AUTHENTICATE, PUT KEY, PIN CHANGE/UNBLOCK, STORE
-- DATA, PUT DATA and VERIFY PIN whatever they say. Assumes nothing.
use mathlib.Core.Bool.{Bool, true, false, not}
use mathlib.Core.List.{List, []}
use mathlib.Core.Path.{◌≡◌, refl}
use Prim.Native.Nat.{ℕ, ◌-◌}
use lib.Dec.{eqb}
use lib.ListN.{length, get_or, take}
use Rattle.std.specs.Prelude.{Result, Ok, Err}
use Rattle.octets.specs.Bytes.{zeros, byte_at, part, same}
use Rattle.octets.specs.Words.{word}
use Rattle.octets.specs.Buffers.{content}
use Rattle.octets.proofs.Holding.{content-holding}
use Rattle.octets.proofs.Rules.{pick_holds}
use Rattle.card.specs.declared.head.Head.{Head}
use Rattle.card.specs.Log.{void}
use Rattle.card.specs.Card.{Card}
use Rattle.session.specs.declared.Pending.{Pending}
use Rattle.session.specs.declared.Pending.TheVariants.{Nothing, Update, Debiting, Crediting}
use Rattle.session.specs.declared.Session.{Session}
use Rattle.session.specs.Transitions.{ended, closed, chained}
use Rattle.session.specs.Codes.{set_of}
use Rattle.channel.specs.Channel.{cmac_of}
use Rattle.apdu.specs.declared.instructions.Plain.{Plain}
use Rattle.apdu.specs.declared.instructions.Plain.TheVariants.{Select, InitializeUpdate, ExternalAuthenticate, VerifyPin, GetData, ReadRecord}
use Rattle.apdu.specs.declared.instructions.Signed.{Signed}
use Rattle.apdu.specs.declared.instructions.Signed.TheVariants.{PutKey, PinChange, StoreData, InitializeTransaction, CompleteTransaction, PutData}
use Rattle.apdu.specs.declared.instructions.Instruction.{Instruction}
use Rattle.apdu.specs.declared.instructions.Instruction.TheVariants.{IsPlain, IsSigned}
use Rattle.apdu.specs.declared.refusals.Refusal.{Refusal}
use Rattle.apdu.specs.Parsing.{data_of}
use Rattle.apdu.specs.Lengths.{mac_size}
use Rattle.apdu.proofs.Shapes.{header}
use Rattle.commands_spec.specs.declared.outcome.Commits.{Commits}
use Rattle.commands_spec.specs.declared.outcome.Outcome.{Outcome}
use Rattle.commands_spec.specs.Outcomes.{refused, done}
use Rattle.commands_spec.specs.KeySets.{key_set_of}
use Rattle.commands_spec.specs.Select.{select_of}
use Rattle.commands_spec.specs.InitializeUpdate.{initialize_update_of}
use Rattle.commands_spec.specs.ExternalAuthenticate.{authenticated, external_authenticate_of}
use Rattle.commands_spec.specs.PutKey.{put_key_of}
use Rattle.commands_spec.specs.PinChange.{pin_change_of}
use Rattle.commands_spec.specs.StoreData.{store_data_of}
use Rattle.commands_spec.specs.VerifyPin.{judged, verify_pin_of}
use Rattle.commands_spec.specs.InitializeTransaction.{initialize_transaction_of}
use Rattle.commands_spec.specs.CompleteTransaction.{complete_transaction_of}
use Rattle.commands_spec.specs.GetData.{get_data_of}
use Rattle.commands_spec.specs.PutData.{put_data_of}
use Rattle.commands_spec.specs.ReadRecord.{asked, read_record_of}
use Rattle.commands_spec.specs.Respond.{plain_of, signed_of, named, respond}
use Rattle.commands_spec.proofs.Steps.{decided_either, mac_of, respond_holds}

-- the commands whose line names an answer
unfoldable pub names_answer : Result Instruction Refusal → Bool
names_answer (Ok (IsPlain Select)) = true
names_answer (Ok (IsPlain InitializeUpdate)) = true
names_answer (Ok (IsPlain ExternalAuthenticate)) = false
names_answer (Ok (IsPlain VerifyPin)) = false
names_answer (Ok (IsPlain GetData)) = true
names_answer (Ok (IsPlain ReadRecord)) = true
names_answer (Ok (IsSigned PutKey)) = false
names_answer (Ok (IsSigned PinChange)) = false
names_answer (Ok (IsSigned StoreData)) = false
names_answer (Ok (IsSigned InitializeTransaction)) = true
names_answer (Ok (IsSigned CompleteTransaction)) = true
names_answer (Ok (IsSigned PutData)) = false
names_answer (Err x) = false

-- the status word, and nothing before it
abbrev pub Alone : Outcome → Type 0
Alone o = content o.reply ≡ word o.status

refused_alone : (h : Head) (s : Session) (w : ℕ) → Alone (refused h s w)
unfolding refused
refused_alone h s w = content-holding (word w)

done_alone : (e : Commits) (h : Head) (s : Session) → Alone (done e h s [])
unfolding done
done_alone e h s = content-holding (word 0x9000)

module _ (c : Card) (s : Session) (command random : List ℕ) where
  abbrev H : Head
  H = c.head

  -- of an outcome of a command: a refusal, or no answer named
  abbrev Q : Result Instruction Refusal → Outcome → Type 0
  Q i o = (names_answer i ≡ true → o.status ≡ 0x9000 → ⊥) → Alone o

  refuses : (i : Result Instruction Refusal) (t : Session) (w : ℕ) → Q i (refused H t w)
  refuses i t w n = refused_alone H t w

  tells : (i : Result Instruction Refusal) (e : Commits) (h : Head) (t : Session) (answer : List ℕ) → names_answer i ≡ true → Q i (done e h t answer)
  unfolding done
  tells i e h t answer a n = absurd (n a refl)

  authenticates : (q : Pending) (p1 : ℕ) (body : List ℕ) → Q (Ok (IsPlain ExternalAuthenticate)) (external_authenticate_of q H s p1 command body)
  unfolding external_authenticate_of authenticated
  authenticates (Update set) p1 body =
      pick_holds (Q (Ok (IsPlain ExternalAuthenticate))) (not (same (part body 0 8) s.offer.expected)) _ _ (λ t. refuses (Ok (IsPlain ExternalAuthenticate)) (closed s) 0x6300)
      (λ t. pick_holds (Q (Ok (IsPlain ExternalAuthenticate))) (not (same (part body 8 8) (cmac_of s.offer.mac (zeros 8) command 13))) _ _
      (λ u. refuses (Ok (IsPlain ExternalAuthenticate)) (closed s) 0x6982) (λ u n. done_alone _ _ _))
  authenticates Nothing p1 body = refuses (Ok (IsPlain ExternalAuthenticate)) (ended s) 0x6985
  authenticates (Debiting n) p1 body = refuses (Ok (IsPlain ExternalAuthenticate)) (ended s) 0x6985
  authenticates (Crediting n) p1 body = refuses (Ok (IsPlain ExternalAuthenticate)) (ended s) 0x6985

  judges : (right : Bool) → Q (Ok (IsPlain VerifyPin)) (judged right H s)
  unfolding judged
  judges true n = done_alone _ _ _
  judges false n = content-holding (word 0x6300)

  plain_alone : (p : Plain) (lc : ℕ) → Q (Ok (IsPlain p)) (plain_of p H (get_or c.log (asked command) void) s (header command lc) command (data_of command lc) random)
  unfolding plain_of select_of initialize_update_of verify_pin_of get_data_of read_record_of names_answer
  plain_alone Select lc =
      pick_holds (Q (Ok (IsPlain Select))) (same (data_of command lc) (take H.purse.aid.size H.purse.aid.bytes)) _ _ (λ t. tells (Ok (IsPlain Select)) _ _ _ _ refl) (λ t. refuses (Ok (IsPlain Select)) _ 0x6A82)
  plain_alone InitializeUpdate lc =
      pick_holds (Q (Ok (IsPlain InitializeUpdate))) (not (key_set_of (set_of (byte_at command 2)) H).defined) _ _ (λ t. refuses (Ok (IsPlain InitializeUpdate)) _ 0x6A88) (λ t. tells (Ok (IsPlain InitializeUpdate)) _ _ _ _ refl)
  plain_alone ExternalAuthenticate lc = authenticates s.pending (byte_at command 2) (data_of command lc)
  plain_alone VerifyPin lc = decided_either (Q (Ok (IsPlain VerifyPin))) _ _ _ _ (λ t. judges _) (refuses (Ok (IsPlain VerifyPin)) _ _)
  plain_alone GetData lc = tells (Ok (IsPlain GetData)) _ _ _ _ refl
  plain_alone ReadRecord lc = tells (Ok (IsPlain ReadRecord)) _ _ _ _ refl

  signed_alone : (g : Signed) (t : Session) (lc : ℕ) → Q (Ok (IsSigned g)) (signed_of g H t (header command lc) (data_of command (lc - mac_size)))
  unfolding signed_of put_key_of pin_change_of store_data_of initialize_transaction_of complete_transaction_of put_data_of names_answer
  signed_alone PutKey t lc = decided_either (Q (Ok (IsSigned PutKey))) _ _ _ _ (λ e n. done_alone _ _ _) (refuses (Ok (IsSigned PutKey)) _ _)
  signed_alone PinChange t lc =
      decided_either (Q (Ok (IsSigned PinChange))) _ _ _ _
      (λ e. pick_holds (Q (Ok (IsSigned PinChange))) (eqb (length (data_of command (lc - mac_size))) 0) _ _ (λ u n. done_alone _ _ _) (λ u n. done_alone _ _ _)) (refuses (Ok (IsSigned PinChange)) _ _)
  signed_alone StoreData t lc = decided_either (Q (Ok (IsSigned StoreData))) _ _ _ _ (λ e n. done_alone _ _ _) (refuses (Ok (IsSigned StoreData)) _ _)
  signed_alone InitializeTransaction t lc = decided_either (Q (Ok (IsSigned InitializeTransaction))) _ _ _ _ (λ e. tells (Ok (IsSigned InitializeTransaction)) _ _ _ _ refl) (refuses (Ok (IsSigned InitializeTransaction)) _ _)
  signed_alone CompleteTransaction t lc = decided_either (Q (Ok (IsSigned CompleteTransaction))) _ _ _ _ (λ e n. absurd (n refl refl)) (refuses (Ok (IsSigned CompleteTransaction)) _ _)
  signed_alone PutData t lc = decided_either (Q (Ok (IsSigned PutData))) _ _ _ _ (λ e n. done_alone _ _ _) (refuses (Ok (IsSigned PutData)) _ _)

  -- of every command: where it is refused, or its line names no answer
  pub word_alone : (names_answer (named command) ≡ true → (respond c s command random).status ≡ 0x9000 → ⊥) → Alone (respond c s command random)
  word_alone =
      respond_holds c s command random (Q (named command)) (λ w j. refuses (named command) (ended s) w) (λ g e. refuses (named command) (closed s) 0x6982)
      (λ p lc f. rw f.names (plain_alone p lc)) (λ g lc f. rw f.names (signed_alone g (chained (mac_of s command lc) s) lc))
