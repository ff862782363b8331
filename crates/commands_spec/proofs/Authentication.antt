-- INITIALIZE UPDATE of a defined key set is not refused, and EXTERNAL AUTHENTICATE behind it with the right cryptogram and C-MAC opens the
-- channel: session keys, cryptograms and C-MAC spelled out, by the cipher's definitions alone. Assumes nothing.
use mathlib.Core.Bool.{true, not, ◌||◌}
use mathlib.Core.List.{List, [], ◌∷◌, ◌++◌, append_assoc, append-nil}
use mathlib.Core.Path.{◌≡◌, refl, sym, ap, ◌∙◌, subst}
use Prim.Native.Nat.{ℕ, ◌+◌, ◌≤◌}
use native.Mathlib.Omega.{arith}
use lib.Dec.{eqb}
use lib.ListN.{length, take, drop, length-append, length-drop}
use lib.Seq.{take_at}
use Rattle.octets.specs.Choice.{refuse}
use Rattle.octets.specs.Bytes.{zeros, part, same}
use Rattle.octets.specs.Words.{word}
use Rattle.octets.specs.Buffers.{content}
use Rattle.octets.proofs.Equality.{same_refl, same_equal, equal_same}
use Rattle.octets.proofs.Holding.{content-holding}
use Rattle.octets.proofs.Parts.{part-all, part-between}
use Rattle.des_spec.specs.Des.{encipher}
use Rattle.des_spec.specs.Modes.{ecb_text, signature}
use Rattle.des_spec.proofs.Signature.{length-signature}
use Rattle.card.specs.declared.head.KeySet.{KeySet}
use Rattle.card.specs.declared.head.Head.{Head}
use Rattle.card.specs.Card.{Card}
use Rattle.session.specs.declared.Set.{Set}
use Rattle.session.specs.declared.Level.{Level}
use Rattle.session.specs.declared.Pending.{Pending}
use Rattle.session.specs.declared.Pending.TheVariants.{Nothing, Update, Debiting, Crediting}
use Rattle.session.specs.declared.Session.{Session}
use Rattle.session.specs.Transitions.{offered, opened}
use Rattle.session.specs.Codes.{set_of}
use Rattle.apdu.specs.declared.instructions.Plain.TheVariants.{InitializeUpdate, ExternalAuthenticate}
use Rattle.apdu.specs.Instructions.{instruction, of80, of84}
use Rattle.apdu.specs.Parameters.{is_set, plain_parameters, has_record}
use Rattle.apdu.specs.Lengths.{plain_length}
use Rattle.apdu.specs.Early.{is_select}
use Rattle.channel.specs.Channel.{derivation, session_key, card_cryptogram, host_cryptogram, cmac_of}
use Rattle.commands_spec.specs.declared.outcome.Outcome.{Outcome}
use Rattle.commands_spec.specs.Outcomes.{refused, done}
use Rattle.commands_spec.specs.KeySets.{key_set_of}
use Rattle.commands_spec.specs.InitializeUpdate.{offer, update_answer, initialize_update_of}
use Rattle.commands_spec.specs.ExternalAuthenticate.{level_for, authenticated, external_authenticate_of}
use Rattle.commands_spec.specs.Respond.{plain_of, respond}
use Rattle.commands_spec.specs.Sent.{plain_command, signed_text, signed_by}
use Rattle.commands_spec.specs.Allowed.{Numbered, first, second, third, LevelOf, with_cmac, with_rmac}
use Rattle.commands_spec.specs.Order.{refuses, passes, accepted, update_rules, authenticate_rules}
use Rattle.commands_spec.proofs.Reasons.{unset, lacking, pick_word}
use Rattle.commands_spec.proofs.Sending.{reaches_plain}

-- ---- INITIALIZE UPDATE

-- "card challenge bytes 5–8, host challenge 1–4, card 1–4, host 5–8", enciphered under a key
abbrev pub derived : List ℕ → List ℕ → List ℕ → List ℕ
derived key host card = ecb_text encipher key (drop 4 card ++ take 4 host ++ take 4 card ++ drop 4 host)

-- what it gives: the answer, and a session that differs in what is pending alone
pub record Offers (s : Session) (n : ℕ) (set : Set) (k : KeySet) (host card : List ℕ) (o : Outcome) : Type 0 where
  pub status : o.status ≡ 0x9000
  pub reply : content o.reply ≡ zeros 10 ++ n ∷ 0x01 ∷ card ++ signature (derived k.keys.enc host card) (zeros 8) (host ++ card) ++ word 0x9000
  pub session : o.session
      ≡ record {
        selected = s.selected;
        verified = s.verified;
        channel = s.channel;
        pending = Update set;
        offer = record {
          enc = derived k.keys.enc host card;
          mac = derived k.keys.mac host card;
          expected = signature (derived k.keys.enc host card) (zeros 8) (card ++ host);
        };
      }

-- a set's number names its keys
numbered_keys : (h : Head) (k : KeySet) (n : ℕ) (set : Set) → Numbered h k n set → (set_of n ≡ set) × (key_set_of set h ≡ k) × (is_set n ≡ true)
unfolding set_of key_set_of is_set
numbered_keys h k n set (first e) = (refl, sym e, refl)
numbered_keys h k n set (second e) = (refl, sym e, refl)
numbered_keys h k n set (third e) = (refl, sym e, refl)

derived_is : (key host card : List ℕ) → length host ≡ 8 → length card ≡ 8 → session_key key host card ≡ derived key host card
unfolding session_key derivation
derived_is key host card h c =
    rw (part-all (drop 4 card) 4 (omega (arith, length-drop 4 card)), part-all (drop 4 host) 4 (omega (arith, length-drop 4 host)))

-- it is not refused
pub update_granted : (c : Card) (s : Session) (n : ℕ) (set : Set) (k : KeySet) (host card le : List ℕ) → Numbered c.head k n set → k.defined ≡ true
    → s.selected ≡ true → length host ≡ 8 → length card ≡ 8 → length le ≤ 1
    → Offers s n set k host card (respond c s (plain_command 0x80 0x50 n 0x00 host le) card)
unfolding instruction of80 is_select plain_parameters has_record plain_length plain_of initialize_update_of offer update_answer card_cryptogram host_cryptogram done offered
update_granted c s n set k host card le m d sel h r short =
    let u = numbered_keys c.head k n set m in
    rw (
      reaches_plain c s card InitializeUpdate 0x80 0x50 n 0x00 host le (omega arith) short refl sel u.2 refl (rw h),
      u.0,
      u.1,
      d,
      derived_is k.keys.enc host card h r,
      derived_is k.keys.mac host card h r,
    )
    (record { status = refl; reply = content-holding _; session = refl })

-- ---- EXTERNAL AUTHENTICATE

-- what it gives: the status word alone, and a session with the offered channel, whose chains start from this C-MAC and from zero
pub record Opened (s : Session) (l : Level) (mac : List ℕ) (o : Outcome) : Type 0 where
  pub status : o.status ≡ 0x9000
  pub reply : content o.reply ≡ word 0x9000
  pub session : o.session
      ≡ record {
        selected = s.selected;
        verified = s.verified;
        channel = record { level = l; enc = s.offer.enc; mac = s.offer.mac; cmac = mac; rmac = zeros 8 };
        pending = Nothing;
        offer = record { enc = zeros 16; mac = zeros 16; expected = zeros 8 };
      }

level_is : (set : Set) (p1 : ℕ) (l : Level) → LevelOf set p1 l → (level_for p1 set ≡ l) × ((eqb p1 0x01 || eqb p1 0x11) ≡ true)
unfolding level_for
level_is set p1 l with_cmac = (refl, refl)
level_is set p1 l with_rmac = (refl, refl)

module _ (c : Card) (s : Session) (set : Set) (p1 : ℕ) (l : Level) (le random : List ℕ) (sel : s.selected ≡ true) (pending : s.pending ≡ Update set)
    (long : length s.offer.expected ≡ 8) (level : LevelOf set p1 l) (short : length le ≤ 1) where
  abbrev text : List ℕ
  text = signed_text 0x84 0x82 p1 0x00 s.offer.expected

  abbrev mac : List ℕ
  mac = signature s.offer.mac (zeros 8) text

  mac-long : length mac ≡ 8
  mac-long = length-signature s.offer.mac (zeros 8) text refl

  as_plain : signed_by s.offer.mac (zeros 8) 0x84 0x82 p1 0x00 s.offer.expected le ≡ plain_command 0x84 0x82 p1 0x00 (s.offer.expected ++ mac) le
  unfolding signed_by signed_text plain_command
  as_plain =
      let n : length s.offer.expected + 8 ≡ length (s.offer.expected ++ mac) = omega (arith, length-append s.offer.expected mac, mac-long) in
      ap (λ (k : ℕ). 0x84 ∷ 0x82 ∷ p1 ∷ 0x00 ∷ k ∷ (s.offer.expected ++ mac) ++ le) n

  abbrev command : List ℕ
  command = plain_command 0x84 0x82 p1 0x00 (s.offer.expected ++ mac) le

  covered : take 13 command ≡ text
  unfolding signed_by signed_text
  covered = ap (take 13) (sym as_plain ∙ append_assoc text mac le) ∙ take_at text (mac ++ le) 13 (omega (arith, long))

  reached : respond c s command random ≡ external_authenticate_of s.pending c.head s p1 command (s.offer.expected ++ mac)
  unfolding instruction of84 is_select plain_parameters has_record plain_length plain_of
  reached =
      let n : length (s.offer.expected ++ mac) ≡ 16 = omega (arith, length-append s.offer.expected mac, mac-long) in
      reaches_plain c s random ExternalAuthenticate 0x84 0x82 p1 0x00 (s.offer.expected ++ mac) le (omega arith) short refl sel (level_is set p1 l level).1 refl (rw n)

  -- behind INITIALIZE UPDATE, with the cryptogram that it expects and the C-MAC over it, it is not refused
  pub authenticate_granted : Opened s l mac (respond c s (signed_by s.offer.mac (zeros 8) 0x84 0x82 p1 0x00 s.offer.expected le) random)
  unfolding external_authenticate_of authenticated cmac_of done opened
  authenticate_granted =
      let a : part (s.offer.expected ++ mac) 0 8 ≡ s.offer.expected = take_at s.offer.expected mac 8 long in
      let b : part (s.offer.expected ++ mac) 8 8 ≡ mac =
      rw (← append-nil (s.offer.expected ++ mac), append_assoc) (part-between s.offer.expected mac [] 8 8 long mac-long) in
      rw (as_plain, reached, pending, a, b, covered, same_refl s.offer.expected, same_refl mac, (level_is set p1 l level).0)
      (record { status = refl; reply = content-holding _; session = refl })

-- ---- their refusals, in 01's order

-- INITIALIZE UPDATE
pub update_order : (c : Card) (s : Session) (n : ℕ) (set : Set) (k : KeySet) (host card le : List ℕ) → Numbered c.head k n set → s.selected ≡ true
    → length host ≡ 8 → length le ≤ 1 → update_rules k (respond c s (plain_command 0x80 0x50 n 0x00 host le) card).status
unfolding instruction of80 is_select plain_parameters has_record plain_length plain_of initialize_update_of refused done
update_order c s n set k host card le m sel h short =
    let u = numbered_keys c.head k n set m in
    rw (reaches_plain c s card InitializeUpdate 0x80 0x50 n 0x00 host le (omega arith) short refl sel u.2 refl (rw h), u.0, u.1)
    (subst (update_rules k) (sym (pick_word (not k.defined) _ _)) (unset k.defined 0x6A88 0x9000 accepted))

-- EXTERNAL AUTHENTICATE, by what is pending
module _ (s : Session) (h : Head) (p1 : ℕ) (command cryptogram mac right : List ℕ) (a : part (cryptogram ++ mac) 0 8 ≡ cryptogram)
    (b : part (cryptogram ++ mac) 8 8 ≡ mac) (covered : signature s.offer.mac (zeros 8) (take 13 command) ≡ right) where
  not_pending : (q : Pending) → s.pending ≡ q → ((set : Set) → q ≡ Update set → ⊥) → authenticate_rules s cryptogram mac right 0x6985
  not_pending q e n = refuses (λ set k. n set (sym e ∙ k))

  authenticate_rows : (q : Pending) → s.pending ≡ q → authenticate_rules s cryptogram mac right (external_authenticate_of q h s p1 command (cryptogram ++ mac)).status
  unfolding external_authenticate_of authenticated cmac_of refused done
  authenticate_rows Nothing e = not_pending Nothing e (λ set k. let z : ◌≡◌ {A = ℕ} 0 1 = cc in omega arith)
  authenticate_rows (Debiting n) e = not_pending (Debiting n) e (λ set k. let z : ◌≡◌ {A = ℕ} 0 1 = cc in omega arith)
  authenticate_rows (Crediting n) e = not_pending (Crediting n) e (λ set k. let z : ◌≡◌ {A = ℕ} 0 1 = cc in omega arith)
  authenticate_rows (Update set) e =
      rw (a, b, covered)
      (subst (authenticate_rules s cryptogram mac right)
      (sym (pick_word (not (same cryptogram s.offer.expected)) _ _ ∙ ap (refuse (not (same cryptogram s.offer.expected)) 0x6300) (pick_word (not (same mac right)) _ _)))
      (passes (λ n. n set e)
      (lacking (same cryptogram s.offer.expected) 0x6300 _ (same_equal _ _) (equal_same _ _)
      (lacking (same mac right) 0x6982 _ (same_equal _ _) (equal_same _ _)
      accepted))))

-- the text that its C-MAC covers
text-is : (p1 : ℕ) (cryptogram mac le : List ℕ) → length cryptogram ≡ 8 → length mac ≡ 8
    → take 13 (plain_command 0x84 0x82 p1 0x00 (cryptogram ++ mac) le) ≡ signed_text 0x84 0x82 p1 0x00 cryptogram
unfolding plain_command signed_text
text-is p1 cryptogram mac le long long' =
    let n : length (cryptogram ++ mac) ≡ length cryptogram + 8 = omega (arith, length-append cryptogram mac) in
    let t : take 8 ((cryptogram ++ mac) ++ le) ≡ cryptogram = rw append_assoc (take_at cryptogram (mac ++ le) 8 long) in
    rw (n, t)

-- EXTERNAL AUTHENTICATE at either level, in any session
pub authenticate_order : (c : Card) (s : Session) (set : Set) (p1 : ℕ) (l : Level) (cryptogram mac le random : List ℕ) → LevelOf set p1 l → s.selected ≡ true
    → length cryptogram ≡ 8 → length mac ≡ 8 → length le ≤ 1
    → authenticate_rules s cryptogram mac (signature s.offer.mac (zeros 8) (signed_text 0x84 0x82 p1 0x00 cryptogram))
    (respond c s (plain_command 0x84 0x82 p1 0x00 (cryptogram ++ mac) le) random).status
unfolding instruction of84 is_select plain_parameters has_record plain_length plain_of
authenticate_order c s set p1 l cryptogram mac le random level sel long long' short =
    let n : length (cryptogram ++ mac) ≡ 16 = omega (arith, length-append cryptogram mac) in
    let a : part (cryptogram ++ mac) 0 8 ≡ cryptogram = take_at cryptogram mac 8 long in
    let b : part (cryptogram ++ mac) 8 8 ≡ mac = rw (← append-nil (cryptogram ++ mac), append_assoc) (part-between cryptogram mac [] 8 8 long long') in
    rw (reaches_plain c s random ExternalAuthenticate 0x84 0x82 p1 0x00 (cryptogram ++ mac) le (omega arith) short refl sel (level_is set p1 l level).1 refl (rw n))
    (authenticate_rows s c.head p1 (plain_command 0x84 0x82 p1 0x00 (cryptogram ++ mac) le) cryptogram mac _ a b (ap (signature s.offer.mac (zeros 8)) (text-is p1 cryptogram mac le long long')) s.pending refl)
