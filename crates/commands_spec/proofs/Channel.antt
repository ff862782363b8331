-- The channel after a command, over `respond`: what closes it, what opens another, what moves each chain; each exactly there. Commands are
-- told by their bytes, C-MACs by the signature of the bytes before them. Assumes nothing.
use mathlib.Core.Bool.{Bool, true, false, not, ◌&&◌, false≢true}
use mathlib.Core.List.{List, [], ◌∷◌, ◌++◌, append_assoc}
use mathlib.Core.Logic.{◌⊎◌, inl, inr}
use mathlib.Core.Path.{◌≡◌, refl, sym, ap, ◌∙◌}
use Prim.Native.Nat.{ℕ, ◌+◌, ◌-◌}
use native.Mathlib.Omega.{arith}
use borrow.Author.Tests.{eqb-true, eqb-false, not-true, not-false}
use lib.Dec.{eqb}
use lib.ListN.{length, get_or, take, length-append}
use lib.Seq.{take_at}
use Rattle.std.specs.Prelude.{Ok}
use Rattle.octets.specs.Bytes.{zeros, byte_at, part, same}
use Rattle.octets.specs.Buffers.{content}
use Rattle.octets.proofs.Equality.{equal_same, same_equal, differ_same}
use Rattle.octets.proofs.Holding.{content-holding}
use Rattle.octets.proofs.Parts.{part-part, part-between}
use Rattle.octets.proofs.Rules.{and_yes, and_right, pick_holds}
use Rattle.des_spec.specs.Modes.{signature}
use Rattle.card.specs.declared.head.Head.{Head}
use Rattle.card.specs.Log.{void}
use Rattle.card.specs.Card.{Card}
use Rattle.session.specs.declared.Set.{Set}
use Rattle.session.specs.declared.Level.TheVariants.{Closed, Mac, Rmac}
use Rattle.session.specs.declared.Channel.{Channel}
use Rattle.session.specs.declared.Pending.{Pending}
use Rattle.session.specs.declared.Pending.TheVariants.{Nothing, Update, Debiting, Crediting}
use Rattle.session.specs.declared.Session.{Session}
use Rattle.session.specs.Transitions.{ended, closed, reselected, flagged, offered, opened, chained, answered}
use Rattle.session.specs.Access.{is_open}
use Rattle.session.specs.Codes.{set_of}
use Rattle.session.proofs.WhoMay.{open_or_not}
use Rattle.channel.specs.Channel.{cmac_of, rmac_of}
use Rattle.channel.proofs.Spelled.{signature-long}
use Rattle.apdu.specs.declared.instructions.Plain.{Plain}
use Rattle.apdu.specs.declared.instructions.Plain.TheVariants.{Select, InitializeUpdate, ExternalAuthenticate, VerifyPin, GetData, ReadRecord}
use Rattle.apdu.specs.declared.instructions.Signed.{Signed}
use Rattle.apdu.specs.declared.instructions.Signed.TheVariants.{PutKey, PinChange, StoreData, InitializeTransaction, CompleteTransaction, PutData}
use Rattle.apdu.specs.declared.instructions.Instruction.TheVariants.{IsPlain}
use Rattle.apdu.specs.Parsing.{data_of}
use Rattle.apdu.specs.Lengths.{mac_size}
use Rattle.apdu.proofs.Table.{instructions}
use Rattle.apdu.proofs.Shapes.{header}
use Rattle.commands_spec.specs.declared.outcome.Outcome.{Outcome}
use Rattle.commands_spec.specs.Outcomes.{refused, done, decided}
use Rattle.commands_spec.specs.Words.{is_one}
use Rattle.commands_spec.specs.KeySets.{key_set_of}
use Rattle.commands_spec.specs.Select.{select_of}
use Rattle.commands_spec.specs.InitializeUpdate.{initialize_update_of}
use Rattle.commands_spec.specs.ExternalAuthenticate.{level_for, authenticated, external_authenticate_of}
use Rattle.commands_spec.specs.PutKey.{put_key_of}
use Rattle.commands_spec.specs.PinChange.{pin_change_of}
use Rattle.commands_spec.specs.StoreData.{store_data_of}
use Rattle.commands_spec.specs.VerifyPin.{judged, verify_pin_of}
use Rattle.commands_spec.specs.InitializeTransaction.{initialize_transaction_of}
use Rattle.commands_spec.specs.CompleteTransaction.{complete_transaction_of}
use Rattle.commands_spec.specs.GetData.{get_data_of}
use Rattle.commands_spec.specs.PutData.{put_data_of}
use Rattle.commands_spec.specs.ReadRecord.{asked, read_record_of}
use Rattle.commands_spec.specs.Respond.{plain_of, signed_of, authorized, respond}
use Rattle.commands_spec.proofs.ByBytes.{early_words, Selects, Authenticates, Signs, Untouched, PlainPast, I, one_plain, plain_or_signed, select_names, authenticate_names, sign_names, signed-long, shape_lc, shape_formed, past_holds}

-- ---- the law

-- no channel
abbrev pub none : Channel
none = record { level = Closed; enc = zeros 16; mac = zeros 16; cmac = zeros 8; rmac = zeros 8 }

-- a right C-MAC of a signed command: the eight bytes that end its data are the signature of all bytes before them, Lc being byte 5
abbrev pub RightMac : Session → List ℕ → Type 0
RightMac s command =
    part command (byte_at command 4 - 3) 8 ≡ signature s.channel.mac s.channel.cmac (take (byte_at command 4 - 3) command)

-- the channel that EXTERNAL AUTHENTICATE opens: its level by P1, the offered keys, the C-MAC that was sent, no R-MAC yet
pub record Opens (s : Session) (command : List ℕ) (set : Set) (t : Channel) : Type 0 where
  pub level_01 : byte_at command 2 ≡ 0x01 → t.level ≡ Mac set
  pub level_11 : byte_at command 2 ≡ 0x11 → t.level ≡ Rmac set
  pub enc : t.enc ≡ s.offer.enc
  pub mac : t.mac ≡ s.offer.mac
  pub cmac : t.cmac ≡ part command 13 8
  pub rmac : t.rmac ≡ zeros 8

-- EXTERNAL AUTHENTICATE: the host cryptogram is bytes 6 to 13, the C-MAC bytes 14 to 21, from zero
pub record Authenticated (s : Session) (command : List ℕ) (set : Set) (o : Outcome) : Type 0 where
  -- "cryptogram wrong 6300"
  pub cryptogram : (part command 5 8 ≡ s.offer.expected → ⊥) → (o.status ≡ 0x6300) × (o.session.channel ≡ none)
  -- "C-MAC wrong 6982"
  pub mac : part command 5 8 ≡ s.offer.expected → (part command 13 8 ≡ signature s.offer.mac (zeros 8) (take 13 command) → ⊥)
      → (o.status ≡ 0x6982) × (o.session.channel ≡ none)
  pub right : part command 5 8 ≡ s.offer.expected → part command 13 8 ≡ signature s.offer.mac (zeros 8) (take 13 command)
      → (o.status ≡ 0x9000) × Opens s command set o.session.channel

-- the bytes of an answer
abbrev pub response : Outcome → List ℕ
response o = content o.reply

-- how many of them come before an R-MAC and 90 00
abbrev pub before : Outcome → ℕ
before o = length (response o) - 10

-- a signed command with a right C-MAC, whatever its status word: level and keys stay, the C-MAC chain moves on to what was sent, the
-- R-MAC chain only with 9000 of class 94, INITIALIZE and COMPLETE TRANSACTION, and then to the last eight bytes before 90 00
pub record Moves (s : Session) (command : List ℕ) (o : Outcome) : Type 0 where
  pub level : o.session.channel.level ≡ s.channel.level
  pub enc : o.session.channel.enc ≡ s.channel.enc
  pub mac : o.session.channel.mac ≡ s.channel.mac
  pub cmac : o.session.channel.cmac ≡ part command (byte_at command 4 - 3) 8
  pub rmac : byte_at command 0 ≡ 0x94 → o.status ≡ 0x9000 → o.session.channel.rmac ≡ part (response o) (before o) 8
  -- "MAC key over this command's C-MAC, response data, 90 00; start zero, then the last R-MAC"
  pub signature : byte_at command 0 ≡ 0x94 → o.status ≡ 0x9000
      → o.session.channel.rmac
      ≡ signature s.channel.mac s.channel.rmac (part command (byte_at command 4 - 3) 8 ++ take (before o) (response o) ++ (0x90 ∷ 0x00 ∷ []))
  pub quiet : (byte_at command 0 ≡ 0x94 → o.status ≡ 0x9000 → ⊥) → o.session.channel.rmac ≡ s.channel.rmac

-- SELECT that reaches its AID, right or not: selected by 9000, deselected by 6A82, the PIN flag kept, all else ended
pub record Reselected (s : Session) (o : Outcome) : Type 0 where
  pub selected : ((o.status ≡ 0x9000) × (o.session.selected ≡ true)) ⊎ ((o.status ≡ 0x6A82) × (o.session.selected ≡ false))
  pub flag : o.session.verified ≡ s.verified
  pub channel : o.session.channel ≡ none
  pub pending : o.session.pending ≡ Nothing

-- a command in a session s that ends in an outcome o
pub record ChannelAfter (s : Session) (command : List ℕ) (o : Outcome) : Type 0 where
  -- "a SELECT that reaches its AID, right or not, ends all but the PIN flag"
  pub selected : Selects command → Reselected s o
  -- "Step 6 is replaced .. the last two close any channel"
  pub authenticated : (set : Set) → Authenticates s command set → Authenticated s command set o
  -- "no channel, or wrong C-MAC, 6982 and the channel closes"
  pub unsigned : (g : Signed) → Signs s command g → (s.channel.level ≡ Closed) ⊎ (RightMac s command → ⊥) → (o.status ≡ 0x6982) × (o.session.channel ≡ none)
  -- "A right C-MAC moves the chain on even if a later step refuses"
  pub signed : (g : Signed) → Signs s command g → (s.channel.level ≡ Closed → ⊥) → RightMac s command → Moves s command o
  -- every other command keeps channel and chains
  pub otherwise : Untouched s command → o.session.channel ≡ s.channel

-- a command signed so has a right C-MAC: header, Lc that counts the C-MAC, data, the signature of all that, and Le or none
pub right_mac : (s : Session) (cla ins p1 p2 : ℕ) (body le : List ℕ)
    → RightMac s (cla ∷ ins ∷ p1 ∷ p2 ∷ (length body + 8) ∷ (body ++ (signature s.channel.mac s.channel.cmac (cla ∷ ins ∷ p1 ∷ p2 ∷ (length body + 8) ∷ body) ++ le)))
right_mac s cla ins p1 p2 body le =
    let front : List ℕ = cla ∷ ins ∷ p1 ∷ p2 ∷ (length body + 8) ∷ body in
    let mac : List ℕ = signature s.channel.mac s.channel.cmac front in
    let n : length body + 8 - 3 ≡ length front = omega arith in
    rw n
    (part-between front mac le (length front) 8 refl (signature-long s.channel.mac s.channel.cmac front)
    ∙ ap (signature s.channel.mac s.channel.cmac) (sym (take_at front (mac ++ le) (length front) refl)))

-- ---- a signed command past step 5

-- past a command's rules, or refused by them
decided_or : (P : Outcome → Type 0) (w : ℕ) (h : Head) (s : Session) (o : Outcome) → (w ≡ 0x9000 → P o) → ((w ≡ 0x9000 → ⊥) → P (refused h s w))
    → P (decided w h s o)
unfolding decided
decided_or P w h s o f g = pick_holds P (eqb w 0x9000) _ _ (λ e. f (eqb-true w 0x9000 e)) (λ e. g (eqb-false w 0x9000 e))

-- an answer, an R-MAC and 90 00
record Ends (r answer mac : List ℕ) : Type 0 where
  pub last : part r (length r - 10) 8 ≡ mac
  pub first : take (length r - 10) r ≡ answer

ends : (r answer mac : List ℕ) → r ≡ answer ++ mac ++ (0x90 ∷ 0x00 ∷ []) → length mac ≡ 8 → Ends r answer mac
ends r answer mac d l =
    let w : List ℕ = 0x90 ∷ 0x00 ∷ [] in
    let e : r ≡ answer ++ (mac ++ w) = d ∙ append_assoc answer mac w in
    let n : length r ≡ length answer + (8 + 2) = ap length e ∙ length-append answer (mac ++ w) ∙ omega (arith, length-append mac w) in
    let k : length r - 10 ≡ length answer = omega arith in
    record {
      last = rw k (rw e (part-between answer mac w (length answer) 8 refl l));
      first = rw k (rw e (take_at answer (mac ++ w) (length answer) refl));
    }

module _ (s : Session) (command mac : List ℕ) (right : mac ≡ part command (byte_at command 4 - 3) 8) where
  -- nothing but the C-MAC chain
  stays : (o : Outcome) → o.session.channel ≡ (chained mac s).channel → (byte_at command 0 ≡ 0x94 → o.status ≡ 0x9000 → ⊥) → Moves s command o
  unfolding chained
  stays o e n =
      record {
        level = ap (λ (t : Channel). t.level) e;
        enc = ap (λ (t : Channel). t.enc) e;
        mac = ap (λ (t : Channel). t.mac) e;
        cmac = ap (λ (t : Channel). t.cmac) e ∙ right;
        rmac = λ a b. absurd (n a b);
        signature = λ a b. absurd (n a b);
        quiet = λ q. ap (λ (t : Channel). t.rmac) e;
      }

  -- an answer with an R-MAC
  answers : (o : Outcome) (answer : List ℕ)
      → o.session.channel ≡ (answered Nothing (rmac_of s.channel.mac s.channel.rmac mac answer) (chained mac s)).channel
      → response o ≡ answer ++ rmac_of s.channel.mac s.channel.rmac mac answer ++ (0x90 ∷ 0x00 ∷ [])
      → byte_at command 0 ≡ 0x94 → o.status ≡ 0x9000 → Moves s command o
  unfolding answered chained rmac_of
  answers o answer e r c f =
      let m : List ℕ = rmac_of s.channel.mac s.channel.rmac mac answer in
      let h = ends (response o) answer m r (signature-long _ _ _) in
      let t : o.session.channel.rmac ≡ m = ap (λ (t : Channel). t.rmac) e in
      record {
        level = ap (λ (t : Channel). t.level) e;
        enc = ap (λ (t : Channel). t.enc) e;
        mac = ap (λ (t : Channel). t.mac) e;
        cmac = ap (λ (t : Channel). t.cmac) e ∙ right;
        rmac = λ a b. t ∙ sym h.last;
        signature = λ a b. rw (h.first, ← right) t;
        quiet = λ q. absurd (q c f);
      }

module _ (c : Card) (s : Session) (command : List ℕ) (g : Signed) (x : Signs s command g) where
  abbrev b : ℕ
  b = byte_at command 4

  abbrev n : ℕ
  n = 5 + (b - mac_size)

  abbrev m : List ℕ
  m = cmac_of s.channel.mac s.channel.cmac command n

  abbrev O : Outcome
  O = authorized g c.head s (header command b) command

  place : n ≡ b - 3
  place = omega (arith, signed-long g b x.lc)

  -- no channel or a wrong C-MAC
  shut : (s.channel.level ≡ Closed) ⊎ (RightMac s command → ⊥) → (is_open s.channel.level && same (part command n 8) m) ≡ false
  unfolding is_open cmac_of
  shut (inl e) = rw e
  shut (inr w) = rw place (and_right (is_open s.channel.level) _ (differ_same _ _ w))

  signed-closes : (s.channel.level ≡ Closed) ⊎ (RightMac s command → ⊥) → (O.status ≡ 0x6982) × (O.session.channel ≡ none)
  unfolding authorized refused closed
  signed-closes e = rw (shut e) (refl, refl)

  -- a channel and a right C-MAC
  sent : RightMac s command → m ≡ part command (b - 3) 8
  unfolding cmac_of
  sent r = rw place (sym r)

  permits : (s.channel.level ≡ Closed → ⊥) → RightMac s command → (is_open s.channel.level && same (part command n 8) m) ≡ true
  unfolding cmac_of
  permits o r = and_yes _ _ ((open_or_not s.channel.level).opened o) (rw place (equal_same _ _ r))

  -- the commands of class 84 send no R-MAC
  of_84 : (k : Signed) → byte_at command 0 ≡ 0x84 → RightMac s command → (o : Outcome) → o.session.channel ≡ (chained m s).channel → Moves s command o
  of_84 k e r o f = stays s command m (sent r) o f (λ z. absurd (omega arith))

  runs : (k : Signed) → Signs s command k → RightMac s command → Moves s command (signed_of k c.head (chained m s) (header command b) (data_of command (b - mac_size)))
  unfolding signed_of put_key_of pin_change_of store_data_of initialize_transaction_of complete_transaction_of put_data_of refused done ended flagged chained answered
  runs PutKey y r =
      let z = of_84 PutKey y.code.0 r in
      decided_or (Moves s command) _ _ _ _ (λ t. z _ refl) (λ t. z _ refl)
  runs PinChange y r =
      let z = of_84 PinChange y.code.0 r in
      decided_or (Moves s command) _ _ _ _ (λ t. pick_holds (Moves s command) (eqb (length (data_of command (b - mac_size))) 0) _ _ (λ u. z _ refl) (λ u. z _ refl)) (λ t. z _ refl)
  runs StoreData y r =
      let z = of_84 StoreData y.code.0 r in
      decided_or (Moves s command) _ _ _ _ (λ t. z _ refl) (λ t. z _ refl)
  runs InitializeTransaction y r =
      decided_or (Moves s command) _ _ _ _
      (λ t. answers s command m (sent r) _ _ refl (content-holding _) y.code.0 refl)
      (λ t. stays s command m (sent r) _ refl (λ z. t))
  runs CompleteTransaction y r =
      decided_or (Moves s command) _ _ _ _
      (λ t. answers s command m (sent r) _ _ refl (content-holding _) y.code.0 refl)
      (λ t. stays s command m (sent r) _ refl (λ z. t))
  runs PutData y r =
      let z = of_84 PutData y.code.0 r in
      decided_or (Moves s command) _ _ _ _ (λ t. z _ refl) (λ t. z _ refl)

  signed_moves : (s.channel.level ≡ Closed → ⊥) → RightMac s command → Moves s command O
  unfolding authorized
  signed_moves o r = rw (permits o r) (runs g x r)

  signed-after : ChannelAfter s command O
  signed-after =
      record {
        selected = λ y. absurd (plain_or_signed (I s command) Select g (select_names s command y) (sign_names s command g x));
        authenticated = λ set y. absurd (plain_or_signed (I s command) ExternalAuthenticate g (authenticate_names s command set y) (sign_names s command g x));
        unsigned = λ k y e. signed-closes e;
        signed = λ k y o r. signed_moves o r;
        otherwise = λ u. absurd (u.signs g x);
      }

-- ---- the other commands past step 5

two_plain : Select ≡ ExternalAuthenticate → ⊥
two_plain e = let z : ◌≡◌ {A = ℕ} 0 1 = cc in omega arith

one_update : (pending : Pending) (a b : Set) → pending ≡ Update a → pending ≡ Update b → a ≡ b
one_update pending a b e f = cc

unequal : (a b : List ℕ) → not (same a b) ≡ true → a ≡ b → ⊥
unequal a b t e = false≢true (sym (not-true (same a b) t) ∙ equal_same a b e)

equal : (a b : List ℕ) → not (same a b) ≡ false → a ≡ b
equal a b t = same_equal a b (not-false (same a b) t)

module _ (c : Card) (s : Session) (command random : List ℕ) where
  abbrev H : Head
  H = c.head

  abbrev A : Outcome → Type 0
  A o = ChannelAfter s command o

  -- a refusal of steps 1 to 5, and every plain command but two
  kept : (o : Outcome) → Untouched s command → o.session.channel ≡ s.channel → A o
  kept o u e =
      record {
        selected = λ y. absurd (u.selects y);
        authenticated = λ set y. absurd (u.authenticates set y);
        unsigned = λ k y f. absurd (u.signs k y);
        signed = λ k y f r. absurd (u.signs k y);
        otherwise = λ v. e;
      }

  -- a plain command is none of the signed ones, and SELECT or EXTERNAL AUTHENTICATE only by its name
  apart : (p : Plain) → I s command ≡ Ok (IsPlain p) → (p ≡ Select → ⊥) → (p ≡ ExternalAuthenticate → ⊥) → Untouched s command
  apart p e n q =
      record {
        selects = λ y. n (one_plain (I s command) p Select e (select_names s command y));
        authenticates = λ set y. q (one_plain (I s command) p ExternalAuthenticate e (authenticate_names s command set y));
        signs = λ g y. plain_or_signed (I s command) p g e (sign_names s command g y);
      }

  -- the bytes of the two that touch it
  select-bytes : (lc : ℕ) → PlainPast c s command Select lc → Selects command
  select-bytes lc f =
      let k = (instructions (Ok (IsPlain Select)) (byte_at command 0) (byte_at command 1)).0 f.names in
      let p = f.fit.parameters in
      record { cla = k.0; ins = k.1; p1 = p.0; p2 = p.1; formed = shape_formed s command lc f.formed }

  authenticate_bytes : (lc : ℕ) → PlainPast c s command ExternalAuthenticate lc → (set : Set) → s.pending ≡ Update set → Authenticates s command set
  authenticate_bytes lc f set e =
      let l : lc ≡ 16 = f.fit.length in
      let k = (instructions (Ok (IsPlain ExternalAuthenticate)) (byte_at command 0) (byte_at command 1)).0 f.names in
      let p = f.fit.parameters in
      let q = shape_lc s command lc f.formed (omega arith) in
      record {
        cla = k.0;
        ins = k.1;
        p1 = p.0;
        p2 = p.1;
        lc = q.0 ∙ l;
        least = omega (arith, q.1);
        most = omega (arith, q.2);
        selected = f.fit.selected;
        pending = e;
      }

  -- SELECT: both answers
  reselects : Selects command → (o : Outcome) → Reselected s o → A o
  reselects x o h =
      let i = select_names s command x in
      record {
        selected = λ y. h;
        authenticated = λ set y. absurd (two_plain (one_plain (I s command) Select ExternalAuthenticate i (authenticate_names s command set y)));
        unsigned = λ g y f. absurd (plain_or_signed (I s command) Select g i (sign_names s command g y));
        signed = λ g y f r. absurd (plain_or_signed (I s command) Select g i (sign_names s command g y));
        otherwise = λ u. absurd (u.selects x);
      }

  selects : (lc : ℕ) → PlainPast c s command Select lc → A (select_of H s (data_of command lc))
  unfolding select_of done refused reselected
  selects lc f =
      let x = select-bytes lc f in
      pick_holds A (same (data_of command lc) (take H.purse.aid.size H.purse.aid.bytes)) _ _
      (λ t. reselects x _ (record { selected = inl (refl, refl); flag = refl; channel = refl; pending = refl }))
      (λ t. reselects x _ (record { selected = inr (refl, refl); flag = refl; channel = refl; pending = refl }))

  -- EXTERNAL AUTHENTICATE behind INITIALIZE UPDATE
  judges : (set : Set) → Authenticates s command set → (o : Outcome) → Authenticated s command set o → A o
  judges set x o h =
      let i = authenticate_names s command set x in
      record {
        selected = λ y. absurd (two_plain (one_plain (I s command) Select ExternalAuthenticate (select_names s command y) i));
        authenticated = λ k y. rw (one_update s.pending k set y.pending x.pending) h;
        unsigned = λ g y f. absurd (plain_or_signed (I s command) ExternalAuthenticate g i (sign_names s command g y));
        signed = λ g y f r. absurd (plain_or_signed (I s command) ExternalAuthenticate g i (sign_names s command g y));
        otherwise = λ u. absurd (u.authenticates set x);
      }

  judged_update : (set : Set) → Authenticates s command set → A (authenticated set H s (byte_at command 2) command (part command 5 16))
  unfolding authenticated refused done closed opened level_for cmac_of
  judged_update set x =
      let a : part (part command 5 16) 0 8 ≡ part command 5 8 = part-part command 5 16 0 8 (omega arith) in
      let b : part (part command 5 16) 8 8 ≡ part command 13 8 = part-part command 5 16 8 8 (omega arith) in
      rw (a, b)
      (pick_holds A (not (same (part command 5 8) s.offer.expected)) _ _
      (λ t.
      let n = unequal _ _ t in
      judges set x _ (record { cryptogram = λ z. (refl, refl); mac = λ e. absurd (n e); right = λ e. absurd (n e) }))
      (λ t.
      let q = equal _ _ t in
      pick_holds A (not (same (part command 13 8) (signature s.offer.mac (zeros 8) (take 13 command)))) _ _
      (λ u.
      let n = unequal _ _ u in
      judges set x _ (record { cryptogram = λ z. absurd (z q); mac = λ e z. (refl, refl); right = λ e z. absurd (n z) }))
      (λ u.
      let r = equal _ _ u in
      judges set x _
      (record {
        cryptogram = λ z. absurd (z q);
        mac = λ e z. absurd (z r);
        right = λ e z. (refl, record { level_01 = λ p. rw p; level_11 = λ p. rw p; enc = refl; mac = refl; cmac = sym z; rmac = refl });
      }))))

  -- what is pending is something else
  unoffered : (lc : ℕ) → PlainPast c s command ExternalAuthenticate lc → ((set : Set) → s.pending ≡ Update set → ⊥) → Untouched s command
  unoffered lc f n =
      record {
        selects = λ y. two_plain (one_plain (I s command) Select ExternalAuthenticate (select_names s command y) f.names);
        authenticates = λ set y. n set y.pending;
        signs = λ g y. plain_or_signed (I s command) ExternalAuthenticate g f.names (sign_names s command g y);
      }

  authenticates : (lc : ℕ) → PlainPast c s command ExternalAuthenticate lc → (pending : Pending) → s.pending ≡ pending
      → A (external_authenticate_of pending H s (byte_at command 2) command (data_of command lc))
  unfolding external_authenticate_of refused ended
  authenticates lc f (Update set) e =
      let l : lc ≡ 16 = f.fit.length in
      rw l (judged_update set (authenticate_bytes lc f set e))
  authenticates lc f Nothing e = kept _ (unoffered lc f (λ set h. let z : ◌≡◌ {A = ℕ} 0 1 = cc in omega arith)) refl
  authenticates lc f (Debiting n) e = kept _ (unoffered lc f (λ set h. let z : ◌≡◌ {A = ℕ} 0 1 = cc in omega arith)) refl
  authenticates lc f (Crediting n) e = kept _ (unoffered lc f (λ set h. let z : ◌≡◌ {A = ℕ} 0 1 = cc in omega arith)) refl

  pin-kept : Untouched s command → (right : Bool) → A (judged right H s)
  unfolding judged done flagged
  pin-kept u true = kept _ u refl
  pin-kept u false = kept _ u refl

  plain-after : (p : Plain) (lc : ℕ) → PlainPast c s command p lc
      → A (plain_of p H (get_or c.log (asked command) void) s (header command lc) command (data_of command lc) random)
  unfolding plain_of initialize_update_of verify_pin_of get_data_of read_record_of refused done ended offered
  plain-after Select lc f = selects lc f
  plain-after InitializeUpdate lc f =
      let u = apart InitializeUpdate f.names (λ e. let z : ◌≡◌ {A = ℕ} 0 1 = cc in omega arith) (λ e. let z : ◌≡◌ {A = ℕ} 0 1 = cc in omega arith) in
      pick_holds A (not (key_set_of (set_of (byte_at command 2)) H).defined) _ _ (λ t. kept _ u refl) (λ t. kept _ u refl)
  plain-after ExternalAuthenticate lc f = authenticates lc f s.pending refl
  plain-after VerifyPin lc f =
      let u = apart VerifyPin f.names (λ e. let z : ◌≡◌ {A = ℕ} 0 1 = cc in omega arith) (λ e. let z : ◌≡◌ {A = ℕ} 0 1 = cc in omega arith) in
      decided_or A _ _ _ _ (λ t. pin-kept u _) (λ t. kept _ u refl)
  plain-after GetData lc f = kept _ (apart GetData f.names (λ e. let z : ◌≡◌ {A = ℕ} 0 1 = cc in omega arith) (λ e. let z : ◌≡◌ {A = ℕ} 0 1 = cc in omega arith)) refl
  plain-after ReadRecord lc f = kept _ (apart ReadRecord f.names (λ e. let z : ◌≡◌ {A = ℕ} 0 1 = cc in omega arith) (λ e. let z : ◌≡◌ {A = ℕ} 0 1 = cc in omega arith)) refl

  -- for every card, session, command and random bytes
  pub channel_after : ChannelAfter s command (respond c s command random)
  unfolding refused ended
  channel_after = past_holds c s command random A (λ w j u. kept _ u refl) plain-after (signed-after c s command)

-- ---- told by the status word

-- 9000 and 6A82 of a SELECT, 9000, 6300 and 6982 of an EXTERNAL AUTHENTICATE are answered past steps 1 to 5, the latter behind its
-- INITIALIZE UPDATE; so with these words, and with no other of these two commands, the channel is none or the offered one
pub record ByStatus (s : Session) (command : List ℕ) (o : Outcome) : Type 0 where
  pub selects : byte_at command 0 ≡ 0x00 → byte_at command 1 ≡ 0xA4 → (o.status ≡ 0x9000) ⊎ (o.status ≡ 0x6A82) → Selects command
  pub authenticates : byte_at command 0 ≡ 0x84 → byte_at command 1 ≡ 0x82 → (o.status ≡ 0x9000) ⊎ (o.status ≡ 0x6300) ⊎ (o.status ≡ 0x6982)
      → (set : Set) × Authenticates s command set

-- a word of steps 1 to 5 is none of these
no_word : (w x : ℕ) → is_one w early_words ≡ true → is_one x early_words ≡ false → w ≡ x → ⊥
no_word w x j n e = false≢true (sym n ∙ ap (λ (y : ℕ). is_one y early_words) (sym e) ∙ j)

select_early : (w : ℕ) → is_one w early_words ≡ true → (w ≡ 0x9000) ⊎ (w ≡ 0x6A82) → ⊥
unfolding is_one
select_early w j (inl e) = no_word w 0x9000 j refl e
select_early w j (inr e) = no_word w 0x6A82 j refl e

authenticate_early : (w : ℕ) → is_one w early_words ≡ true → (w ≡ 0x9000) ⊎ (w ≡ 0x6300) ⊎ (w ≡ 0x6982) → ⊥
unfolding is_one
authenticate_early w j (inl e) = no_word w 0x9000 j refl e
authenticate_early w j (inr (inl e)) = no_word w 0x6300 j refl e
authenticate_early w j (inr (inr e)) = no_word w 0x6982 j refl e

module _ (c : Card) (s : Session) (command random : List ℕ) where
  abbrev B : Outcome → Type 0
  B o = ByStatus s command o

  -- a refusal of steps 1 to 5, and EXTERNAL AUTHENTICATE's 6985
  early_told : (t : Session) (w : ℕ) → is_one w early_words ≡ true → B (refused c.head t w)
  unfolding refused
  early_told t w j = record { selects = λ x y e. absurd (select_early w j e); authenticates = λ x y e. absurd (authenticate_early w j e) }

  -- any other command
  elsewhere : (o : Outcome) → (I s command ≡ Ok (IsPlain Select) → ⊥) → (I s command ≡ Ok (IsPlain ExternalAuthenticate) → ⊥) → B o
  elsewhere o a b =
      record {
        selects = λ x y e. absurd (a ((instructions (Ok (IsPlain Select)) (byte_at command 0) (byte_at command 1)).1 (x, y)));
        authenticates = λ x y e. absurd (b ((instructions (Ok (IsPlain ExternalAuthenticate)) (byte_at command 0) (byte_at command 1)).1 (x, y)));
      }

  another : (p : Plain) → I s command ≡ Ok (IsPlain p) → (p ≡ Select → ⊥) → (p ≡ ExternalAuthenticate → ⊥) → (o : Outcome) → B o
  another p i n q o = elsewhere o (λ e. n (one_plain (I s command) p Select i e)) (λ e. q (one_plain (I s command) p ExternalAuthenticate i e))

  authenticate_told : (lc : ℕ) → PlainPast c s command ExternalAuthenticate lc → (pending : Pending) → s.pending ≡ pending
      → B (external_authenticate_of pending c.head s (byte_at command 2) command (data_of command lc))
  unfolding external_authenticate_of is_one
  authenticate_told lc f (Update set) e =
      record {
        selects =
            λ x y h. absurd (two_plain (one_plain (I s command) Select ExternalAuthenticate ((instructions (Ok (IsPlain Select)) (byte_at command 0) (byte_at command 1)).1 (x, y)) f.names));
        authenticates = λ x y h. (set, authenticate_bytes c s command random lc f set e);
      }
  authenticate_told lc f Nothing e = early_told (ended s) 0x6985 refl
  authenticate_told lc f (Debiting n) e = early_told (ended s) 0x6985 refl
  authenticate_told lc f (Crediting n) e = early_told (ended s) 0x6985 refl

  plain_told : (p : Plain) (lc : ℕ) → PlainPast c s command p lc
      → B (plain_of p c.head (get_or c.log (asked command) void) s (header command lc) command (data_of command lc) random)
  unfolding plain_of
  plain_told Select lc f =
      record {
        selects = λ x y e. select-bytes c s command random lc f;
        authenticates =
            λ x y h. absurd (two_plain (one_plain (I s command) Select ExternalAuthenticate f.names ((instructions (Ok (IsPlain ExternalAuthenticate)) (byte_at command 0) (byte_at command 1)).1 (x, y))));
      }
  plain_told InitializeUpdate lc f = another InitializeUpdate f.names (λ e. let z : ◌≡◌ {A = ℕ} 0 1 = cc in omega arith) (λ e. let z : ◌≡◌ {A = ℕ} 0 1 = cc in omega arith) _
  plain_told ExternalAuthenticate lc f = authenticate_told lc f s.pending refl
  plain_told VerifyPin lc f = another VerifyPin f.names (λ e. let z : ◌≡◌ {A = ℕ} 0 1 = cc in omega arith) (λ e. let z : ◌≡◌ {A = ℕ} 0 1 = cc in omega arith) _
  plain_told GetData lc f = another GetData f.names (λ e. let z : ◌≡◌ {A = ℕ} 0 1 = cc in omega arith) (λ e. let z : ◌≡◌ {A = ℕ} 0 1 = cc in omega arith) _
  plain_told ReadRecord lc f = another ReadRecord f.names (λ e. let z : ◌≡◌ {A = ℕ} 0 1 = cc in omega arith) (λ e. let z : ◌≡◌ {A = ℕ} 0 1 = cc in omega arith) _

  -- for every card, session, command and random bytes
  pub by_status : ByStatus s command (respond c s command random)
  by_status =
      past_holds c s command random B (λ w j u. early_told (ended s) w j) plain_told
      (λ g x.
      elsewhere _ (λ e. plain_or_signed (I s command) Select g e (sign_names s command g x))
      (λ e. plain_or_signed (I s command) ExternalAuthenticate g e (sign_names s command g x)))
