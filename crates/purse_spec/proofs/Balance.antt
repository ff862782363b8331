-- Demand 3's balance law, "a single claim about the whole list": after every list of calls that starts with a finished installation on
-- any memory and has no cut installation, "the balance that memory reads as in 01 equals completed credits less completed debits since
-- the last finished installation, and lies between zero and the maximum balance". Assumes nothing.
use mathlib.Core.Bool.{true, false≢true}
use mathlib.Core.List.{List, [], ◌∷◌}
use mathlib.Core.Option.{some}
use mathlib.Core.Path.{◌≡◌, refl, ap}
use Prim.Native.Nat.{ℕ, ◌+◌, ◌≤◌}
use native.Mathlib.Omega.{arith}
use lib.ListN.{length}
use Rattle.octets.specs.Bytes.{AreBytes}
use Rattle.octets.proofs.Rules.{pick_holds}
use Rattle.card.specs.Card.{Card, fresh_head, fresh}
use Rattle.memory.specs.Layout.{memory_size}
use Rattle.memory.specs.Reading.{read_card}
use Rattle.card.proofs.FreshCard.{fresh_proper}
use Rattle.session.specs.Transitions.{unselected}
use Rattle.session.proofs.Sizes.{unselected-sized}
use Rattle.commands_spec.specs.CompleteTransaction.{is_noted}
use Rattle.commands_spec.proofs.Facts.{facts}
use Rattle.purse_spec.specs.Calls.{Run, refusal, performed}
use Rattle.purse_spec.specs.Installation.{data_ok, data_fixed, data_aid, data_keys, installation}
use Rattle.purse_spec.specs.History.{Call, install, start, send, Situation, OfBytes, AllOfBytes, run, is_start, is_install, next, after_calls, OnlyStarts, Admissible, IsHistory}
use Rattle.purse_spec.specs.Ledger.{Ledger, empty, number_of, has_grown, fed, starts_of, grew_in, kept}
use Rattle.purse_spec.proofs.Performed.{by_limit}
use Rattle.purse_spec.proofs.Runs.{installed, installation-runs}
use Rattle.purse_spec.proofs.Installing.{installable, installed_reads}
use Rattle.purse_spec.proofs.Starting.{starts_keep}
use Rattle.purse_spec.proofs.Booking.{Agrees, BooksCall, refusal-booked, startup-booked, command-booked}

-- ---- installation

module _ (st : Situation) (b : Ledger) (d : List ℕ) (limit : ℕ) (f : AreBytes d) where
  abbrev x : Call
  x = install d limit

  -- a finished one starts the ledger anew
  installed_booked : length st.memory ≡ memory_size → data_ok d ≡ true → ((installed st.memory d limit).answer ≡ 7 → ⊥) → BooksCall x st b (installed st.memory d limit)
  unfolding performed fed empty fresh fresh_head unselected is_noted
  installed_booked e t =
      by_limit (λ (r : Run). (r.answer ≡ 7 → ⊥) → BooksCall x st b r) limit _ _ _ (λ k n. absurd (n refl))
      (λ k n g q. record {
        card = fresh (data_fixed d) (data_aid d) (data_keys d);
        reads = installed_reads st.memory d limit f e t k;
        proper = fresh_proper (data_fixed d) (data_aid d) (data_keys d) (installable d f t);
        sized = unselected-sized;
        sum = refl;
        note = λ z. absurd (false≢true z);
      })

  -- on any memory
  first-booked : (installation st.memory d limit).answer ≡ 0 → BooksCall x st b (installation st.memory d limit)
  unfolding refusal
  first-booked =
      installation-runs st.memory (λ (r : ℕ → Run). (r limit).answer ≡ 0 → BooksCall x st b (r limit)) d
      (λ n k l z. absurd (omega arith)) (λ e t z. installed_booked e t (λ s. omega arith))

  -- and later in the list, where it may be refused
  later_booked : Agrees st.memory st.session b → ((installation st.memory d limit).answer ≡ 7 → ⊥) → BooksCall x st b (installation st.memory d limit)
  later_booked h =
      installation-runs st.memory (λ (r : ℕ → Run). ((r limit).answer ≡ 7 → ⊥) → BooksCall x st b (r limit)) d
      (λ n k l z. refusal-booked st b h x n k l _ _) (λ e t n. installed_booked e t n)

-- ---- any call, any list

-- the start-ups directly behind a call are start-ups alone
starts_only : (xs : List Call) → OnlyStarts (starts_of xs)
unfolding OnlyStarts starts_of
starts_only [] = tt
starts_only (y ∷ xs) =
    pick_holds OnlyStarts (is_start y) _ _ (λ e. (e, starts_only xs)) (λ e. tt)

-- the number that memory reads after the start-ups directly behind a call is the one that it reads directly after the call
grew_now : (y : Call) (xs : List Call) (st : Situation) → grew_in y xs st ≡ has_grown (number_of (read_card st.memory)) (number_of (read_card (next y st).memory))
unfolding grew_in
grew_now y xs st =
    ap (λ (m : List ℕ). has_grown (number_of (read_card st.memory)) (number_of (read_card m))) (starts_keep (starts_of xs) (next y st) (starts_only xs))

-- any call but a cut installation
call_booked : (y : Call) (st : Situation) (b : Ledger) → OfBytes y → (is_install y ≡ true → (run y st).answer ≡ 7 → ⊥) → Agrees st.memory st.session b
    → BooksCall y st b (run y st)
unfolding run OfBytes is_install
call_booked (install d limit) st b f n h = later_booked st b d limit f h (n refl)
call_booked (start limit) st b f n h = startup-booked st b h limit
call_booked (send bytes random area limit) st b f n h =
    command-booked st b h bytes random area limit (λ e. record { proper = h.proper; sized = h.sized; bytes = f.0; drawn = record { size = e; each = f.1 } })

-- that start-ups alone follow a cut isn't used: a cut command leaves balance, number and note as they were
list_holds : (xs : List Call) (st : Situation) (b : Ledger) → AllOfBytes xs → Admissible xs st → Agrees st.memory st.session b
    → Agrees (after_calls xs st).memory (after_calls xs st).session (kept xs st b)
unfolding AllOfBytes Admissible after_calls kept next
list_holds [] st b f a h = h
list_holds (y ∷ xs) st b f a h =
    list_holds xs (next y st) (fed y (run y st) (grew_in y xs st) b) f.1 a.2
    (call_booked y st b f.0 a.1 h (grew_in y xs st) (grew_now y xs st))

-- ---- the law

-- memory reads as a card; its balance and completed debits make up completed credits; and it is at most the maximum balance
pub record Balanced (st : Situation) (b : Ledger) : Type 0 where
  pub card : Card
  pub reads : read_card st.memory ≡ some card
  pub sum : card.head.purse.balance + b.debits ≡ b.credits
  pub limit : card.head.purse.balance ≤ card.head.purse.parameters.maxbalance

balanced : (st : Situation) (b : Ledger) → Agrees st.memory st.session b → Balanced st b
balanced st b h = record { card = h.card; reads = h.reads; sum = h.sum; limit = (facts h.card.head h.proper.tests).balance }

-- THE BALANCE LAW: on any memory, in any session, whatever the ledger held before, every list that starts with a finished installation
pub balance_law : (xs : List Call) (st : Situation) (b : Ledger) → (given : AllOfBytes xs) → (history : IsHistory xs st) → Balanced (after_calls xs st) (kept xs st b)
unfolding AllOfBytes IsHistory after_calls kept is_install run OfBytes next
balance_law [] st b f h = absurd h
balance_law (install d limit ∷ xs) st b f h =
    let y = install d limit in
    balanced _ _
    (list_holds xs (next y st) (fed y (run y st) (grew_in y xs st) b) f.1 h.2
    (first-booked st b d limit f.0 h.1 (grew_in y xs st) (grew_now y xs st)))
balance_law (start limit ∷ xs) st b f h = absurd (false≢true h.0)
balance_law (send bytes random area limit ∷ xs) st b f h = absurd (false≢true h.0)
