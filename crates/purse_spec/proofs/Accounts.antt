-- The book, call by call: document 01, "A finished installation sets it to 0 and drops the note. INITIALIZE TRANSACTION with 9000 notes its
-- amount, a debit's as negative. COMPLETE with 9000, or a cut one demand 3 counts, is completed: the note is added to the sum. Other calls
-- drop the note if finished and do nothing if not", by bytes and numbers. Assumes nothing.
use mathlib.Core.Bool.{Bool, true, false, ◌&&◌}
use mathlib.Core.List.{List}
use mathlib.Core.Option.{Option, none, some}
use mathlib.Core.Path.{◌≡◌, refl}
use Prim.Native.Nat.{ℕ, ◌+◌, ◌*◌}
use native.Mathlib.Omega.{arith}
use borrow.Author.Tests.{eq-eqb, ne_eqb, eqb-true}
use lib.Dec.{eqb}
use Rattle.octets.specs.Bytes.{byte_at}
use Rattle.octets.proofs.Conditions.{and_both}
use Rattle.purse_spec.specs.Calls.{Run}
use Rattle.purse_spec.specs.History.{install, start, send}
use Rattle.purse_spec.specs.Ledger.{Note, Ledger, empty, noting, added_to, status_word, is_initialize, is_complete, note_of, fed_command, fed}
use Rattle.purse_spec.proofs.Names.{Begins, begins}

-- ---- what happens to a book b, which becomes c

-- another note, or none, and the sum as it was
pub record Notes (n : Option Note) (b c : Ledger) : Type 0 where
  pub credits : c.credits ≡ b.credits
  pub debits : c.debits ≡ b.debits
  pub note : c.note ≡ n

-- "the note is added to the sum": a credit to the credits, a debit to the debits; where there is none, nothing is
pub record Adds (b c : Ledger) : Type 0 where
  pub credit : (amount : ℕ) → b.note ≡ some (record { debit = false; amount = amount }) → (c.credits ≡ b.credits + amount) × (c.debits ≡ b.debits)
  pub debit : (amount : ℕ) → b.note ≡ some (record { debit = true; amount = amount }) → (c.debits ≡ b.debits + amount) × (c.credits ≡ b.credits)
  pub nothing : b.note ≡ none → c ≡ b

-- a command's amount: its bytes 7 and 8; P1 00 is a debit
pub record AmountOf (bytes : List ℕ) (n : Note) : Type 0 where
  pub amount : n.amount ≡ 256 * byte_at bytes 7 + byte_at bytes 8
  pub debit : byte_at bytes 2 ≡ 0x00 → n.debit ≡ true
  pub credit : (byte_at bytes 2 ≡ 0x00 → ⊥) → n.debit ≡ false

-- of a command that gave r, and behind which the number has grown or not
pub record Books (bytes : List ℕ) (r : Run) (grew : Bool) (b c : Ledger) : Type 0 where
  -- INITIALIZE TRANSACTION with 9000
  pub noted : r.answer ≡ 0 → Begins bytes 0x94 0x44 → status_word r ≡ 0x9000 → (n : Note) × AmountOf bytes n × Notes (some n) b c
  -- COMPLETE TRANSACTION with 9000
  pub completed : r.answer ≡ 0 → Begins bytes 0x94 0x46 → status_word r ≡ 0x9000 → Adds b c
  -- others, finished
  pub dropped : r.answer ≡ 0 → (Begins bytes 0x94 0x44 → status_word r ≡ 0x9000 → ⊥) → (Begins bytes 0x94 0x46 → status_word r ≡ 0x9000 → ⊥)
      → Notes none b c
  -- others, not finished
  pub nothing : (r.answer ≡ 0 → ⊥) → (r.answer ≡ 7 → Begins bytes 0x94 0x46 → grew ≡ true → ⊥) → c ≡ b
  -- a cut COMPLETE TRANSACTION behind which the number has grown
  pub cut : r.answer ≡ 7 → Begins bytes 0x94 0x46 → grew ≡ true → Adds b c

-- ---- each call

-- a finished installation
pub installation_books : (d : List ℕ) (limit : ℕ) (r : Run) (grew : Bool) (b : Ledger) → r.answer ≡ 0
    → fed (install d limit) r grew b ≡ record { credits = 0; debits = 0; note = none }
unfolding fed empty
installation_books d limit r grew b e = rw (eq-eqb r.answer 0 e)

-- a finished start-up
pub start_books : (limit : ℕ) (r : Run) (grew : Bool) (b : Ledger) → r.answer ≡ 0 → Notes none b (fed (start limit) r grew b)
unfolding fed noting
start_books limit r grew b e = rw (eq-eqb r.answer 0 e) (record { credits = refl; debits = refl; note = refl })

-- those that aren't finished
pub unfinished_books : (d : List ℕ) (limit : ℕ) (r : Run) (grew : Bool) (b : Ledger) → (r.answer ≡ 0 → ⊥)
    → (fed (install d limit) r grew b ≡ b) × (fed (start limit) r grew b ≡ b)
unfolding fed
unfinished_books d limit r grew b e = rw (ne_eqb r.answer 0 e) (refl, refl)

no_and : (x y : Bool) → (x ≡ true → y ≡ true → ⊥) → (x && y) ≡ false
no_and true true h = absurd (h refl refl)
no_and true false h = refl
no_and false y h = refl

adds : (b : Ledger) (o : Option Note) → b.note ≡ o → Adds b (added_to o b)
unfolding added_to
adds b none e =
    record {
      credit = λ n h. absurd (let z : ◌≡◌ {A = ℕ} 0 1 = cc in omega arith);
      debit = λ n h. absurd (let z : ◌≡◌ {A = ℕ} 0 1 = cc in omega arith);
      nothing = λ h. refl;
    }
adds b (some n) e =
    record {
      credit = λ k h. let q : n ≡ record { debit = false; amount = k } = cc in rw q (refl, refl);
      debit = λ k h. let q : n ≡ record { debit = true; amount = k } = cc in rw q (refl, refl);
      nothing = λ h. absurd (let z : ◌≡◌ {A = ℕ} 0 1 = cc in omega arith);
    }

-- a command with 9000 isn't one that begins otherwise
not_so : (bytes : List ℕ) (r : Run) (ins : ℕ) → (Begins bytes 0x94 ins → status_word r ≡ 0x9000 → ⊥) → (eqb (byte_at bytes 0) 0x94 && eqb (byte_at bytes 1) ins && eqb (status_word r) 0x9000) ≡ false
not_so bytes r ins h = no_and _ (eqb (status_word r) 0x9000) (λ t u. h (begins bytes ins t) (eqb-true _ _ u))

-- a command
pub command_books : (bytes random area : List ℕ) (limit : ℕ) (r : Run) (grew : Bool) (b : Ledger)
    → Books bytes r grew b (fed (send bytes random area limit) r grew b)
unfolding fed fed_command is_initialize is_complete note_of noting
command_books bytes random area limit r grew b =
    record {
      noted = λ e h w.
          rw (eq-eqb r.answer 0 e, eq-eqb (byte_at bytes 0) 0x94 h.0, eq-eqb (byte_at bytes 1) 0x44 h.1, eq-eqb (status_word r) 0x9000 w) (
            record { debit = eqb (byte_at bytes 2) 0x00; amount = byte_at bytes 7 * 256 + byte_at bytes 8 },
            record { amount = omega arith; debit = λ z. eq-eqb (byte_at bytes 2) 0 z; credit = λ z. ne_eqb (byte_at bytes 2) 0 z },
            record { credits = refl; debits = refl; note = refl },
          );
      completed = λ e h w.
          let k = h.1 in
          rw (
            eq-eqb r.answer 0 e,
            eq-eqb (byte_at bytes 0) 0x94 h.0,
            ne_eqb (byte_at bytes 1) 0x44 (λ z. omega arith),
            eq-eqb (byte_at bytes 1) 0x46 k,
            eq-eqb (status_word r) 0x9000 w,
          )
          (adds b b.note refl);
      dropped = λ e x y. rw (eq-eqb r.answer 0 e, not_so bytes r 0x44 x, not_so bytes r 0x46 y) (record { credits = refl; debits = refl; note = refl });
      nothing = λ e x.
          rw (
            ne_eqb r.answer 0 e,
            no_and (eqb r.answer 7 && (eqb (byte_at bytes 0) 0x94 && eqb (byte_at bytes 1) 0x46)) grew
                (λ t g. let u = and_both (eqb r.answer 7) (eqb (byte_at bytes 0) 0x94 && eqb (byte_at bytes 1) 0x46) t in x (eqb-true _ _ u.0) (begins bytes 0x46 u.1) g),
          );
      cut = λ e h g.
          rw (ne_eqb r.answer 0 (omega arith), eq-eqb r.answer 7 e, eq-eqb (byte_at bytes 0) 0x94 h.0, eq-eqb (byte_at bytes 1) 0x46 h.1, g)
          (adds b b.note refl);
    }
