-- A command on memory, by its tests; and the record that it would read, in memory and in the card's log. Assumes nothing.
use Prim.Native.Nat.{ℕ, ◌≤◌, ◌<◌}
use mathlib.Core.Bool.{true, false}
use mathlib.Core.List.{List}
use mathlib.Core.Path.{◌≡◌, refl, ◌∙◌}
use native.Mathlib.Omega.{arith}
use native.Mathlib.Decide.{dec_le}
use native.Mathlib.Nat.{lt_of_not-le}
use borrow.Author.Tests.{eq-eqb, ne_eqb, lt-ltb, le-ltb}
use Rattle.std.specs.Prelude.{Some, None}
use lib.Dec.{eqb, ltb}
use lib.ListN.{length, get_or, get_or-eq_default}
use Rattle.octets.specs.Bytes.{field}
use Rattle.octets.proofs.Parts.{field-part, part-all}
use Rattle.card.specs.declared.head.Head.{Head}
use Rattle.card.specs.declared.log.Record.{Record}
use Rattle.card.specs.Log.{void}
use Rattle.card.specs.Card.{Card}
use Rattle.memory.specs.Layout.{memory_size}
use Rattle.memory.specs.Reading.{size_in, head_in, record_at, log_in, readable, read_card, reading}
use Rattle.memory.proofs.Cards.{readable_read}
use Rattle.memory.proofs.InPlace.{record_void, reading_card, reading_none}
use Rattle.memory.proofs.Ring.{length-rows, row_at}
use Rattle.memory.proofs.Seen.{view, reads}
use Rattle.session.specs.declared.Session.{Session}
use Rattle.commands_spec.specs.declared.outcome.Outcome.{Outcome}
use Rattle.commands_spec.specs.ReadRecord.{asked}
use Rattle.commands_spec.specs.Respond.{respond_to, respond}
use Rattle.purse_spec.specs.Calls.{awaits}
use Rattle.purse_spec.specs.Commands.{least_area, outcome_run, on_card, command}
use Rattle.purse.specs.declared.calls.Called.{Called}
use Rattle.purse.specs.declared.calls.Answer.{Answer}
use Rattle.purse.specs.declared.calls.Answer.TheVariants.{MemoryLength, NoCard, AreaLength, RandomLength}
use Rattle.purse.specs.Called.{Gives, storeless}
use Rattle.purse.proofs.Outcomes.{refusal_gives}

-- eight bytes are all of the eight
drawn_whole : (s : List ℕ) → length s ≡ 8 → field s 0 8 ≡ s
drawn_whole s e = field-part s 0 8 (omega (arith, e)) ∙ part-all s 8 (omega (arith, e))

-- what readable memory reads as
abbrev card_in : List ℕ → Card
card_in m = record { head = head_in m; log = log_in m }

-- a record of the log is where memory has it
record_asked : (m : List ℕ) (k : ℕ) → readable m ≡ true → get_or (log_in m) k void ≡ record_at m k
unfolding log_in view
record_asked m k e =
    let n = size_in m in
    let f = (reads m (card_in m) (readable_read m e)).formed.filled in
    elim (dec_le n k) [
      | yes h ↦ get_or-eq_default (log_in m) void {n = k} (omega (arith, h, length-rows n (record_at m))) ∙ record_void m _ k refl (omega (arith, h, f))
      | no h ↦ row_at n k (record_at m) void (lt_of_not-le h)
    ]

module _ (m : List ℕ) (s : Session) (bytes random area : List ℕ) (limit : ℕ) where
  pub memory_sized : (length m ≡ memory_size → ⊥) → Gives (command m s bytes random area limit) (storeless MemoryLength s) m area
  unfolding command
  memory_sized h = let t : eqb (length m) memory_size ≡ false = ne_eqb _ _ h in rw t (refusal_gives MemoryLength 1 s m area refl)

  pub area_sized : length m ≡ memory_size → length area < least_area → Gives (command m s bytes random area limit) (storeless AreaLength s) m area
  unfolding command
  area_sized h a =
      let t : eqb (length m) memory_size ≡ true = eq-eqb _ _ h in
      let u : ltb (length area) least_area ≡ true = lt-ltb _ _ a in
      rw (t, u) (refusal_gives AreaLength 3 s m area refl)

  pub random_sized : length m ≡ memory_size → least_area ≤ length area → (length random ≡ 8 → ⊥)
      → Gives (command m s bytes random area limit) (storeless RandomLength s) m area
  unfolding command
  random_sized h a n =
      let t : eqb (length m) memory_size ≡ true = eq-eqb _ _ h in
      let u : ltb (length area) least_area ≡ false = le-ltb _ _ a in
      let v : eqb (length random) 8 ≡ false = ne_eqb _ _ n in
      rw (t, u, v) (refusal_gives RandomLength 4 s m area refl)

  -- past the three
  passed : length m ≡ memory_size → least_area ≤ length area → length random ≡ 8
      → command m s bytes random area limit ≡ on_card (read_card m) m s bytes random area limit
  unfolding command
  passed h a n =
      let t : eqb (length m) memory_size ≡ true = eq-eqb _ _ h in
      let u : ltb (length area) least_area ≡ false = le-ltb _ _ a in
      let v : eqb (length random) 8 ≡ true = eq-eqb _ _ n in
      rw (t, u, v)

  pub no_card_lem : length m ≡ memory_size → least_area ≤ length area → length random ≡ 8 → reading m ≡ None
      → Gives (command m s bytes random area limit) (storeless NoCard s) m area
  unfolding read_card on_card
  no_card_lem h a n e = rw (passed h a n, reading_none m e) (refusal_gives NoCard 2 s m area refl)

  pub a_card : (h : Head) (x : Record) (drawn : List ℕ) (o : Outcome) (r : Called Answer) (m' area' : List ℕ) → length m ≡ memory_size
      → least_area ≤ length area → length random ≡ 8 → reading m ≡ Some h → x ≡ record_at m (asked bytes) → drawn ≡ field random 0 8
      → o ≡ respond_to h x s bytes drawn → Gives (outcome_run o m area limit) r m' area' → Gives (command m s bytes random area limit) r m' area'
  unfolding on_card awaits respond
  a_card h x drawn o r m' area' l a n e q d t f =
      let c = reading_card m h e in
      let k : drawn ≡ random = d ∙ drawn_whole random n in
      rw (passed l a n, readable_read m c.0, record_asked m (asked bytes) c.0, ← q, ← c.1, ← k, ← t) f
