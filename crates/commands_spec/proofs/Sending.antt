-- A command as a terminal sends it passes step 1, and a rightly signed one in an open channel steps 1 to 6: it reaches its own rules.
-- Assumes nothing.
use mathlib.Core.Bool.{true, ◌||◌}
use mathlib.Core.List.{List, [], ◌∷◌, ◌++◌, append_assoc}
use mathlib.Core.Path.{◌≡◌, refl}
use Prim.Native.Nat.{ℕ, zero, suc, ◌+◌, ◌-◌, ◌≤◌, ◌<◌}
use native.Mathlib.Omega.{arith}
use borrow.Author.Tests.{le-ltb, lt-ltb, ne_eqb, eq-eqb}
use lib.Dec.{eqb}
use lib.ListN.{length, get_or, take, drop, length-append}
use lib.Seq.{take_at}
use Rattle.std.specs.Prelude.{Ok}
use Rattle.octets.specs.Bytes.{byte_at}
use Rattle.octets.proofs.Equality.{same_refl}
use Rattle.octets.proofs.Parts.{part-between}
use Rattle.octets.proofs.Rules.{or_left, or_right}
use Rattle.des_spec.specs.Modes.{signature}
use Rattle.des_spec.proofs.Signature.{length-signature}
use Rattle.card.specs.Log.{void}
use Rattle.card.specs.Card.{Card}
use Rattle.session.specs.declared.Level.{Level}
use Rattle.session.specs.declared.Session.{Session}
use Rattle.session.specs.Transitions.{chained}
use Rattle.session.specs.Access.{is_open}
use Rattle.apdu.specs.declared.instructions.Plain.{Plain}
use Rattle.apdu.specs.declared.instructions.Signed.{Signed}
use Rattle.apdu.specs.declared.instructions.Instruction.TheVariants.{IsPlain, IsSigned}
use Rattle.apdu.specs.Parsing.{headed, parsed}
use Rattle.apdu.specs.Instructions.{instruction}
use Rattle.apdu.specs.Parameters.{plain_parameters, signed_parameters, has_record}
use Rattle.apdu.specs.Lengths.{plain_length, signed_length}
use Rattle.apdu.specs.Early.{is_select, early_status, plain_status, signed_status}
use Rattle.channel.specs.Channel.{cmac_of}
use Rattle.commands_spec.specs.Outcomes.{decided}
use Rattle.commands_spec.specs.ReadRecord.{asked}
use Rattle.commands_spec.specs.Respond.{plain_of, signed_of, authorized, on_instruction, on_parsed, respond_to, respond}
use Rattle.commands_spec.specs.Sent.{plain_command, signed_text, next_mac, signed_by, signed_command, bare_command}

-- a session in which the purse is selected and a channel of that level is open
pub record InChannel (s : Session) (l : Level) : Type 0 where
  pub selected : s.selected ≡ true
  pub level : s.channel.level ≡ l
  pub chain : length s.channel.cmac ≡ 8

-- ---- step 1

-- 5+Lc or 6+Lc: Le is there or not
with_or_without : (a n k : ℕ) → a ≡ 5 + n + k → k ≤ 1 → (eqb a (5 + n) || eqb a (6 + n)) ≡ true
with_or_without a n zero e h = or_left (eqb a (5 + n)) (eqb a (6 + n)) (eq-eqb a (5 + n) (omega arith))
with_or_without a n (suc zero) e h = or_right (eqb a (5 + n)) (eqb a (6 + n)) (eq-eqb a (6 + n) (omega arith))
with_or_without a n (suc (suc k)) e h = absurd (omega arith)

-- header, Lc, and that many bytes of data, perhaps with Le behind them, are that command
parsed-sent : (command : List ℕ) (n k : ℕ) → byte_at command 4 ≡ n → length command ≡ 5 + n + k → k ≤ 1 → 0 < n → parsed command ≡ headed command n
unfolding parsed
parsed-sent command n k b e short h =
    let a = length command in
    rw (b, le-ltb a 4 (omega arith), le-ltb a 6 (omega arith), ne_eqb n 0 (λ z. omega arith), with_or_without a n k e short)

-- four bytes, or five, are a command without data
parsed_bare : (command : List ℕ) → 4 ≤ length command → length command ≤ 5 → parsed command ≡ headed command 0
unfolding parsed
parsed_bare command h k =
    let a = length command in
    rw (le-ltb a 4 h, lt-ltb a 6 (omega arith))

module _ (c : Card) (s : Session) (random : List ℕ) where
  -- ---- a plain command with data, past steps 1 to 5

  pub reaches_plain : (p : Plain) (cla ins p1 p2 : ℕ) (body le : List ℕ) → 0 < length body → length le ≤ 1
      → instruction cla ins ≡ Ok (IsPlain p) → (is_select p || s.selected) ≡ true → plain_parameters p p1 p2 ≡ true
      → has_record p p1 c.head.fixed.logsize ≡ true → plain_length p (length body) ≡ true
      → let command = plain_command cla ins p1 p2 body le in
      respond c s command random
      ≡ plain_of p c.head (get_or c.log (asked command) void) s (record { cla = cla; ins = ins; p1 = p1; p2 = p2; lc = length body }) command body random
  unfolding respond respond_to on_parsed on_instruction plain_status early_status decided plain_command
  reaches_plain p cla ins p1 p2 body le some short i d q l n =
      let b : take (length body) (body ++ le) ≡ body = take_at body le (length body) refl in
      let command = cla ∷ ins ∷ p1 ∷ p2 ∷ length body ∷ body ++ le in
      let e : length command ≡ 5 + length body + length le = omega (arith, length-append body le) in
      rw (parsed-sent command (length body) (length le) refl e short some, i, d, q, l, n, b)

  -- ---- a plain command without data

  pub reaches_bare : (p : Plain) (cla ins p1 p2 : ℕ) (le : List ℕ) → length le ≤ 1
      → instruction cla ins ≡ Ok (IsPlain p) → (is_select p || s.selected) ≡ true → plain_parameters p p1 p2 ≡ true
      → has_record p p1 c.head.fixed.logsize ≡ true → plain_length p 0 ≡ true
      → let command = bare_command cla ins p1 p2 le in
      respond c s command random
      ≡ plain_of p c.head (get_or c.log (asked command) void) s (record { cla = cla; ins = ins; p1 = p1; p2 = p2; lc = 0 }) command [] random
  unfolding respond respond_to on_parsed on_instruction plain_status early_status decided bare_command
  reaches_bare p cla ins p1 p2 le short i d q l n =
      let command = cla ∷ ins ∷ p1 ∷ p2 ∷ le in
      rw (parsed_bare command (omega arith) (omega arith), i, d, q, l, n)

  -- ---- a signed command, rightly signed in an open channel, past steps 1 to 6: with the chain moved on

  pub reaches_signed : (g : Signed) (l : Level) (cla ins p1 p2 : ℕ) (body le : List ℕ) → length le ≤ 1 → InChannel s l
      → instruction cla ins ≡ Ok (IsSigned g) → signed_parameters g p1 p2 ≡ true → signed_length g (length body + 8) ≡ true → is_open l ≡ true
      → respond c s (signed_command s cla ins p1 p2 body le) random
      ≡ signed_of g c.head (chained (next_mac s (signed_text cla ins p1 p2 body)) s)
      (record { cla = cla; ins = ins; p1 = p1; p2 = p2; lc = length body + 8 }) body
  unfolding respond respond_to on_parsed on_instruction signed_status early_status decided authorized cmac_of signed_command signed_by signed_text next_mac
  reaches_signed g l cla ins p1 p2 body le short o i q n k =
      let text = cla ∷ ins ∷ p1 ∷ p2 ∷ (length body + 8) ∷ body in
      let mac = signature s.channel.mac s.channel.cmac text in
      let long : length mac ≡ 8 = length-signature s.channel.mac s.channel.cmac text o.chain in
      let e : length ((text ++ mac) ++ le) ≡ 5 + (length body + 8) + length le = omega (arith, length-append (body ++ mac) le, length-append body mac) in
      let f : length body + 8 - 8 ≡ length body = omega arith in
      let covered : take (5 + length body) ((text ++ mac) ++ le) ≡ text = rw append_assoc (take_at text (mac ++ le) (5 + length body) (omega arith)) in
      let behind : take 8 (drop (5 + length body) ((text ++ mac) ++ le)) ≡ mac =
      rw append_assoc (part-between text mac le (5 + length body) 8 (omega arith) long) in
      let inside : take (length body) ((body ++ mac) ++ le) ≡ body = rw append_assoc (take_at body (mac ++ le) (length body) refl) in
      let opened : is_open s.channel.level ≡ true = rw o.level k in
      rw (
        parsed-sent ((text ++ mac) ++ le) (length body + 8) (length le) refl e short (omega arith),
        i,
        o.selected,
        q,
        n,
        f,
        opened,
        behind,
        covered,
        inside,
        same_refl mac,
      )
