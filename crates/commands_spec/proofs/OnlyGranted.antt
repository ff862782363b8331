-- The other direction of `initialize_granted`: INITIALIZE TRANSACTION answers 9000 only where document 01 allows it, on every card, in every
-- session and for every command. Assumes nothing.
use mathlib.Core.Bool.{Bool, true, false, ◌&&◌, false≢true}
use mathlib.Core.List.{List}
use mathlib.Core.Path.{◌≡◌, refl, sym, ◌∙◌}
use Prim.Native.Nat.{ℕ, ◌-◌, ◌≤◌}
use native.Mathlib.Omega.{arith}
use borrow.Author.Tests.{leb-true, eqb-true, not-false, ne_eqb, eq-eqb}
use lib.Dec.{leb, eqb}
use Rattle.std.specs.Prelude.{Result, Ok}
use Rattle.octets.specs.Choice.{pick}
use Rattle.octets.specs.Bytes.{byte_at}
use Rattle.octets.specs.Words.{word_at}
use Rattle.octets.proofs.Conditions.{and_both}
use Rattle.octets.proofs.Numbers.{word_in_part}
use Rattle.card.specs.declared.head.Head.{Head}
use Rattle.card.specs.Card.{Card}
use Rattle.session.specs.declared.Set.{Set}
use Rattle.session.specs.declared.Level.{Level}
use Rattle.session.specs.declared.Level.TheVariants.{Closed, Mac, Rmac}
use Rattle.session.specs.declared.Session.{Session}
use Rattle.session.specs.Transitions.{ended, closed, chained}
use Rattle.session.specs.Access.{access, access_of, has_rmac}
use Rattle.apdu.specs.declared.instructions.Signed.{Signed}
use Rattle.apdu.specs.declared.instructions.Signed.TheVariants.{PutKey, PinChange, StoreData, InitializeTransaction, CompleteTransaction, PutData}
use Rattle.apdu.specs.declared.instructions.Instruction.{Instruction}
use Rattle.apdu.specs.declared.instructions.Instruction.TheVariants.{IsSigned}
use Rattle.apdu.specs.declared.refusals.Refusal.{Refusal}
use Rattle.apdu.specs.Parsing.{data_of}
use Rattle.apdu.specs.Instructions.{instruction, of94}
use Rattle.apdu.specs.Parameters.{signed_parameters}
use Rattle.apdu.specs.Lengths.{mac_size, signed_length}
use Rattle.apdu.proofs.Shapes.{header}
use Rattle.commands_spec.specs.declared.outcome.Outcome.{Outcome}
use Rattle.commands_spec.specs.Outcomes.{refused, decided}
use Rattle.commands_spec.specs.Words.{is_one, refusals}
use Rattle.commands_spec.specs.InitializeTransaction.{lacks, entitled, initialize_status, initialize_transaction_of}
use Rattle.commands_spec.specs.Respond.{signed_of, named, respond}
use Rattle.commands_spec.specs.Allowed.{Entitled, Allows}
use Rattle.commands_spec.proofs.Steps.{early, early_refusal, mac_of, Accepted, respond_holds}
use Rattle.commands_spec.proofs.Ways.{not_refused}
use Rattle.commands_spec.proofs.Entitled.{entitled_by}
use Rattle.commands_spec.proofs.Judgements.{initialize_passed}

-- what the card and the session had where P1, currency and amount are those of the command's bytes
pub record Granted (c : Card) (s : Session) (command : List ℕ) : Type 0 where
  pub set : Set
  pub level : s.channel.level ≡ Rmac set
  pub entitled : Entitled (byte_at command 2) set s.verified
  pub allows : Allows c.head (byte_at command 2) (word_at command 5) (word_at command 7)

-- ---- what each rule tells

-- a level with R-MAC, and its set
record HasSet (l : Level) : Type 0 where
  set : Set
  is : l ≡ Rmac set

rmac_set : (l : Level) → has_rmac l ≡ true → HasSet l
unfolding has_rmac
rmac_set Closed e = absurd (false≢true e)
rmac_set (Mac set) e = absurd (false≢true e)
rmac_set (Rmac set) e = record { set = set; is = refl }

equipped_by : (p1 : ℕ) (bank pin : Bool) → lacks p1 bank pin ≡ false → p1 ≡ 0x02 → (bank ≡ true) × (pin ≡ true)
unfolding lacks
equipped_by p1 bank pin e q = and_both bank pin (not-false (bank && pin) (rw (eq-eqb p1 0x02 q) at e))

-- 01's conditions, where no rule refuses
rules_passed : (h : Head) (s : Session) (p1 currency amount : ℕ) → p1 ≤ 2 → initialize_status h s p1 currency amount ≡ 0x9000
    → (l : HasSet s.channel.level) × Entitled p1 l.set s.verified × Allows h p1 currency amount
unfolding access
rules_passed h s p1 currency amount one_of_lem e =
    let f = initialize_passed h s p1 currency amount e in
    let l = rmac_set s.channel.level f.with_rmac in
    let w : entitled p1 (access_of l.set) s.verified ≡ true = rw l.is at f.may in (
      l,
      entitled_by p1 l.set s.verified one_of_lem w,
      record {
        personal = f.personal;
        equipped = equipped_by p1 _ _ f.equipped;
        room = f.room;
        same = f.same;
        above = f.above;
        signed = f.signed;
        debits = λ q. f.debits (eq-eqb p1 0x00 q);
        credits = λ q. f.credits (ne_eqb p1 0x00 q);
      },
    )

-- ---- the command

decided_passed : (w : ℕ) (h : Head) (s : Session) (o : Outcome) → (decided w h s o).status ≡ 0x9000 → w ≡ 0x9000
unfolding decided refused
decided_passed w h s o e = go (eqb w 0x9000) refl e
  where
    go : (b : Bool) → eqb w 0x9000 ≡ b → (pick b o (refused h s w)).status ≡ 0x9000 → w ≡ 0x9000
    go true p q = eqb-true w 0x9000 p
    go false p q = q

module _ (c : Card) (s : Session) (command random : List ℕ) (is : named command ≡ Ok (IsSigned InitializeTransaction)) where
  abbrev P : Outcome → Type 0
  P o = o.status ≡ 0x9000 → Granted c s command

  not_early : (w : ℕ) → is_one w early ≡ true → P (refused c.head (ended s) w)
  unfolding is_one refusals
  not_early w j e = absurd (not_refused c.head (ended s) w 0x9000 (refused c.head (ended s) w) (early_refusal w j) refl e refl)

  not_unsigned : P (refused c.head (closed s) 0x6982)
  unfolding refused
  not_unsigned e = absurd (omega arith)

  other : {A : Type 0} (i : Result Instruction Refusal) → named command ≡ i → (Ok (IsSigned InitializeTransaction) ≡ i → ⊥) → A
  other i e n = absurd (n (sym is ∙ e))

  initialize_holds : (lc : ℕ) → Accepted s command InitializeTransaction lc
      → P (initialize_transaction_of c.head (chained (mac_of s command lc) s) (byte_at command 2) (data_of command (lc - mac_size)))
  unfolding signed_parameters signed_length initialize_transaction_of chained
  initialize_holds lc f e =
      let k : lc ≡ 12 = eqb-true lc 12 f.long in
      let t = chained (mac_of s command lc) s in
      let a : word_at (data_of command (lc - mac_size)) 0 ≡ word_at command 5 = rw k (word_in_part command 5 4 0 (omega arith)) in
      let b : word_at (data_of command (lc - mac_size)) 2 ≡ word_at command 7 = rw k (word_in_part command 5 4 2 (omega arith)) in
      let j : initialize_status c.head t (byte_at command 2) (word_at command 5) (word_at command 7) ≡ 0x9000 =
      rw (a, b) at (decided_passed _ c.head (ended t) _ e) in
      let q = and_both (eqb (byte_at command 3) 0x00) (leb (byte_at command 2) 0x02) f.parameters in
      let r = rules_passed c.head t (byte_at command 2) (word_at command 5) (word_at command 7) (leb-true _ _ q.1) j in
      record { set = r.0.set; level = r.0.is; entitled = r.1; allows = r.2 }

  signed_holds : (g : Signed) (lc : ℕ) → Accepted s command g lc
      → P (signed_of g c.head (chained (mac_of s command lc) s) (header command lc) (data_of command (lc - mac_size)))
  unfolding signed_of
  signed_holds PutKey lc f = other _ f.names (λ z. let n : ◌≡◌ {A = ℕ} 0 1 = cc in omega arith)
  signed_holds PinChange lc f = other _ f.names (λ z. let n : ◌≡◌ {A = ℕ} 0 1 = cc in omega arith)
  signed_holds StoreData lc f = other _ f.names (λ z. let n : ◌≡◌ {A = ℕ} 0 1 = cc in omega arith)
  signed_holds InitializeTransaction lc f = initialize_holds lc f
  signed_holds CompleteTransaction lc f = other _ f.names (λ z. let n : ◌≡◌ {A = ℕ} 0 1 = cc in omega arith)
  signed_holds PutData lc f = other _ f.names (λ z. let n : ◌≡◌ {A = ℕ} 0 1 = cc in omega arith)

  holds : P (respond c s command random)
  holds =
      respond_holds c s command random P not_early (λ g i. not_unsigned)
      (λ p lc f. other _ f.names (λ z. let n : ◌≡◌ {A = ℕ} 0 1 = cc in omega arith)) signed_holds

-- 9000 only where 01 allows it: 94 44 are the first two bytes, P1 the third, currency and amount the words behind the header
pub only_granted : (c : Card) (s : Session) (command random : List ℕ) → byte_at command 0 ≡ 0x94 → byte_at command 1 ≡ 0x44
    → (respond c s command random).status ≡ 0x9000 → Granted c s command
unfolding named instruction of94
only_granted c s command random b0 b1 = holds c s command random (rw (b0, b1))
