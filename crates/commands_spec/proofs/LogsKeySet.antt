-- Document 02, request 4, in other words: a completed transaction's record names the key set whose INITIALIZE UPDATE opened the channel,
-- whatever INITIALIZE UPDATE was sent in that channel since. Assumes nothing.
use mathlib.Core.Bool.{true}
use mathlib.Core.List.{List, [], ◌∷◌}
use mathlib.Core.Path.{◌≡◌, refl}
use Prim.Native.Nat.{ℕ, ◌≤◌}
use native.Mathlib.Omega.{arith}
use lib.ListN.{length, get_or, drop, replicate}
use Rattle.std.specs.Prelude.{Ok}
use Rattle.octets.specs.Bytes.{zeros, byte_at}
use Rattle.des_spec.proofs.Signature.{length-signature}
use Rattle.card.specs.declared.head.KeySet.{KeySet}
use Rattle.card.specs.declared.head.Head.{Head}
use Rattle.card.specs.declared.log.Record.{Record}
use Rattle.card.specs.Log.{void, record_bytes}
use Rattle.card.specs.Card.{Card}
use Rattle.session.specs.declared.Set.{Set}
use Rattle.session.specs.declared.Set.TheVariants.{Debit, Credit}
use Rattle.session.specs.declared.Level.{Level}
use Rattle.session.specs.declared.Level.TheVariants.{Rmac}
use Rattle.session.specs.declared.Session.{Session}
use Rattle.session.specs.Transitions.{chained}
use Rattle.session.specs.Codes.{opened_by}
use Rattle.session.proofs.WhoMay.{open_or_not}
use Rattle.apdu.specs.declared.instructions.Signed.TheVariants.{CompleteTransaction}
use Rattle.apdu.specs.declared.instructions.Instruction.TheVariants.{IsSigned}
use Rattle.apdu.proofs.Table.{instructions}
use Rattle.commands_spec.specs.CompleteTransaction.{log_record}
use Rattle.commands_spec.specs.Respond.{named, respond, card_after}
use Rattle.commands_spec.specs.Sent.{plain_command, signed_by, initialization, completion}
use Rattle.commands_spec.specs.Allowed.{Numbered, first, second, third, with_rmac, Entitled, debit, Allows, NamedBy, by_debit, by_credit, by_admin}
use Rattle.commands_spec.specs.Sums.{keys, currency, card, session}
use Rattle.commands_spec.proofs.Judgements.{complete_passed}
use Rattle.commands_spec.proofs.Notes.{completes}
use Rattle.commands_spec.proofs.Moves.{only-complete_moves}
use Rattle.commands_spec.proofs.Sending.{InChannel}
use Rattle.commands_spec.proofs.Granted.{named_by, complete_moves}
use Rattle.commands_spec.proofs.Authentication.{update_granted, authenticate_granted}

-- ---- of every COMPLETE TRANSACTION with 9000

-- it ran in a channel with R-MAC, and the newest record names the set that opened it
pub record NamesSet (s : Session) (d : Card) : Type 0 where
  pub set : Set
  pub level : s.channel.level ≡ Rmac set
  pub byte : NamedBy set ((get_or d.log 0 void).keyset ∷ [])

newest_names : (set : Set) (l : Level) (log rest : List Record) (r : Record) → l ≡ Rmac set → log ≡ r ∷ rest → r.keyset ≡ opened_by l
    → NamedBy set ((get_or log 0 void).keyset ∷ [])
newest_names set l log rest r e f g = rw (f, g, e) (named_by set)

pub complete_names : (c : Card) (s : Session) (command random : List ℕ) → byte_at command 0 ≡ 0x94 → byte_at command 1 ≡ 0x46
    → (respond c s command random).status ≡ 0x9000 → NamesSet s (card_after c s command random)
unfolding named chained log_record
complete_names c s command random a b w =
    let i = (instructions (Ok (IsSigned CompleteTransaction)) (byte_at command 0) (byte_at command 1)).1 (a, b) in
    let k = completes c s command random i w in
    let l = (open_or_not s.channel.level).with_rmac (complete_passed c.head (chained k.mac s) k.passed).with_rmac in
    let m = (only-complete_moves c s command random).moved i w in
    record { set = l.0; level = l.1; byte = newest_names l.0 s.channel.level _ _ _ l.1 m.log refl }

-- ---- of the commands as sent

-- the byte is the set's number
numbered_byte : (h : Head) (k : KeySet) (n : ℕ) (set : Set) (l : List ℕ) → Numbered h k n set → NamedBy set l → l ≡ n ∷ []
numbered_byte h k n set l (first e) by_debit = refl
numbered_byte h k n set l (second e) by_credit = refl
numbered_byte h k n set l (third e) by_admin = refl

-- the session after INITIALIZE UPDATE of set n
abbrev pub offered_by : Card → Session → ℕ → List ℕ → List ℕ → List ℕ → Session
offered_by c s n host challenge le = (respond c s (plain_command 0x80 0x50 n 0x00 host le) challenge).session

-- and after EXTERNAL AUTHENTICATE with R-MAC behind it
abbrev pub opened_behind : Card → Session → List ℕ → List ℕ → Session
opened_behind c s le random = (respond c s (signed_by s.offer.mac (zeros 8) 0x84 0x82 0x11 0x00 s.offer.expected le) random).session

-- both
module _ (c : Card) (s : Session) (n : ℕ) (set : Set) (k : KeySet) (host challenge le le₁ random : List ℕ) (names : Numbered c.head k n set)
    (defined : k.defined ≡ true) (selected : s.selected ≡ true) (host-long : length host ≡ 8) (challenge-long : length challenge ≡ 8)
    (short : length le ≤ 1) (short₁ : length le₁ ≤ 1) where
  abbrev offered_in : Session
  offered_in = offered_by c s n host challenge le

  abbrev opened_in : Session
  opened_in = opened_behind c offered_in le₁ random

  pub opens : InChannel opened_in (Rmac set) × (opened_in.verified ≡ s.verified)
  opens =
      let o = (update_granted c s n set k host challenge le names defined selected host-long challenge-long short).session in
      let long : length offered_in.offer.expected ≡ 8 = rw o (length-signature _ (zeros 8) _ refl) in
      let a = (authenticate_granted c offered_in set 0x11 (Rmac set) le₁ random (rw o selected) (rw o refl) long with_rmac short₁).session in
      (record { selected = rw a (rw o selected); level = rw a refl; chain = rw a (length-signature _ (zeros 8) _ refl) }, rw a (rw o refl))

  -- INITIALIZE UPDATE of set n' in that channel
  module _ (n' : ℕ) (set' : Set) (k' : KeySet) (host' challenge' le' : List ℕ) (names' : Numbered c.head k' n' set') (defined' : k'.defined ≡ true)
      (host-long' : length host' ≡ 8) (challenge-long' : length challenge' ≡ 8) (short' : length le' ≤ 1) where
    abbrev later_in : Session
    later_in = offered_by c opened_in n' host' challenge' le'

    pub stays_open : InChannel later_in (Rmac set) × (later_in.verified ≡ s.verified)
    stays_open =
        let i = opens.0 in
        let o = (update_granted c opened_in n' set' k' host' challenge' le' names' defined' i.selected host-long' challenge-long' short').session in
        (record { selected = rw o i.selected; level = rw o i.level; chain = rw o i.chain }, rw o opens.1)

    -- a transaction in it, which 01 allows: byte 25 of record 1 is n
    pub names_opener : (p1 currency amount : ℕ) (context le₂ le₃ random₂ random₃ : List ℕ) → Entitled p1 set s.verified
        → Allows c.head p1 currency amount → length context ≡ 16 → length le₂ ≤ 1 → length le₃ ≤ 1
        → let t = (respond c later_in (initialization later_in p1 currency amount le₂) random₂).session in
        drop 24 (record_bytes (get_or (card_after c t (completion t context le₃) random₃).log 0 void)) ≡ n ∷ []
    names_opener p1 currency amount context le₂ le₃ random₂ random₃ e a long short₂ short₃ =
        numbered_byte c.head k n set _ names
        (complete_moves c later_in set p1 currency amount le₂ random₂ short₂ stays_open.0 (rw stays_open.1 e) a context le₃ random₃ long short₃).logged.keyset

-- ---- a purchase of P6's card that is so: set 1 opens the channel, INITIALIZE UPDATE of set 2 is sent in it

abbrev buyer : Card
buyer = record { head = card 350 32767 500 0 100; log = replicate 10 void }

buyer_allows : Allows buyer.head 0x00 currency 350
unfolding card
buyer_allows =
    record {
      personal = refl;
      equipped = λ e. absurd (omega arith);
      room = omega arith;
      same = refl;
      above = omega arith;
      signed = omega arith;
      debits = λ e. (omega arith, omega arith);
      credits = λ n. absurd (n refl);
    }

buyer_sets : Numbered buyer.head keys 0x01 Debit × Numbered buyer.head keys 0x02 Credit × (keys.defined ≡ true) × (session.selected ≡ true)
unfolding card keys session
buyer_sets = (first refl, second refl, refl, refl)

pub purchase-named :
    let s₁ = offered_by buyer session 0x01 (zeros 8) (zeros 8) [] in
    let s₂ = opened_behind buyer s₁ [] (zeros 8) in
    let s₃ = offered_by buyer s₂ 0x02 (zeros 8) (zeros 8) [] in
    let t = (respond buyer s₃ (initialization s₃ 0x00 currency 350 []) (zeros 8)).session in
    drop 24 (record_bytes (get_or (card_after buyer t (completion t (zeros 16) []) (zeros 8)).log 0 void)) ≡ 0x01 ∷ []
purchase-named =
    let b = buyer_sets in
    names_opener buyer session 0x01 Debit keys (zeros 8) (zeros 8) [] [] (zeros 8) b.0 b.2 b.3 refl refl (omega arith) (omega arith)
    0x02 Credit keys (zeros 8) (zeros 8) [] b.1 b.2 refl refl (omega arith)
    0x00 currency 350 (zeros 16) [] [] (zeros 8) (zeros 8) (debit Debit session.verified) buyer_allows refl (omega arith) (omega arith)
