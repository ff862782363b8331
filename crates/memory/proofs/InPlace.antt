-- What is read in place, at an address of the whole memory, is what its part says. Assumes nothing.
use mathlib.Core.Path.{◌≡◌, refl, sym, ap, ◌∙◌}
use mathlib.Core.Bool.{Bool, true, false, ◌&&◌}
use mathlib.Core.List.{List, [], ◌∷◌, ◌++◌}
use mathlib.Core.Logic.{inl}
use Prim.Native.Nat.{ℕ, zero, suc, ◌+◌, ◌-◌, ◌≤◌, ◌<◌, min}
use native.Mathlib.Nat.{zero-add, add-zero, suc-add}
use Rattle.std.specs.List.{list_all, range_with_len}
use native.Mathlib.Omega.{arith}
use borrow.Author.Tests.{lt-ltb, le-ltb}
use lib.Dec.{eqb}
use Rattle.std.specs.Prelude as std
use Rattle.octets.specs.Choice.{pick}
use Rattle.octets.specs.Tests.{all_true}
use Rattle.octets.specs.Bytes.{byte_at, part}
use Rattle.octets.proofs.Parts.{part_at}
use Rattle.octets.proofs.Rules.{and_yes}
use Rattle.stores.specs.Fields.{offset}
use Rattle.card.specs.declared.head.Head.{Head}
use Rattle.card.specs.declared.log.Record.{Record}
use Rattle.card.specs.Log.{record_size, void, record_in}
use Rattle.card.specs.Proper.{proper_tests, record_ok, log_ok}
use Rattle.card.proofs.Logs.{record_passes}
use Rattle.memory.specs.Layout.{hot_at, cold_at, slot, slot_at}
use Rattle.memory.specs.Structs.{hot_size, newest_in, filled_in, parameters_size, parameters_in, cold_widths, cold_size, purse_in, head_of}
use Rattle.memory.specs.Reading.{root_of, hot_of, cold_of, head_in, size_in, record_at, rows, log_in, formed_tests, readable, reading}

module _ (m : List ℕ) where
  -- a byte of H, and the flag in C
  pub hot_in : (i : ℕ) → i < hot_size → byte_at (hot_of m) i ≡ byte_at m (hot_at (root_of m) + i)
  hot_in i h = part_at m (hot_at (root_of m)) hot_size i h

  pub personalized_in : (head_in m).purse.parameters.personalized ≡ eqb (byte_at m (cold_at (root_of m) + offset cold_widths 2)) 1
  unfolding head_in head_of purse_in parameters_in
  personalized_in =
      let o = offset cold_widths 2 in
      ap (λ (x : ℕ). eqb x 1) (part_at (cold_of m) o parameters_size 0 (omega arith) ∙ part_at m (cold_at (root_of m)) cold_size o (omega arith))

  -- ---- a record

  pub record_void : (filled k : ℕ) → filled ≡ filled_in (hot_of m) → filled ≤ k → void ≡ record_at m k
  unfolding record_at
  record_void filled k e h = rw (← e, le-ltb k filled h)

  -- the slot of a record
  abbrev pub slot_of : ℕ → List ℕ
  slot_of k = part m (slot_at (slot (size_in m) (newest_in (hot_of m)) k)) record_size

  pub record_in_lem : (filled k : ℕ) (s : List ℕ) → filled ≡ filled_in (hot_of m) → k < filled → s ≡ slot_of k → record_in s ≡ record_at m k
  unfolding record_at
  record_in_lem filled k s e h a = rw (← e, lt-ltb k filled h, ← a)

  -- ---- the log, record by record

  -- past the records that were made all are void
  rest_passes : (b : Bool) (n : ℕ) (f : ℕ → Record) → ((k : ℕ) → k < n → f k ≡ void) → log_ok b (rows n f) ≡ true
  unfolding log_ok
  rest_passes b zero f v = refl
  rest_passes b (suc n) f v = and_yes _ _ (record_passes b (f 0) (inl (v 0 (omega arith)))) (rest_passes b n (λ k. f (suc k)) (λ k q. v (suc k) (omega arith)))

  -- so the test of a log is the test of the records from the a-th on, as many as were made
  made_pass : (b : Bool) (f g : ℕ → Record) (a made rest : ℕ) → ((k : ℕ) → k < made → f k ≡ g (a + k)) → ((k : ℕ) → made ≤ k → k < made + rest → f k ≡ void)
      → log_ok b (rows (made + rest) f) ≡ list_all (λ k. record_ok b (g k)) (range_with_len a made)
  unfolding log_ok
  made_pass b f g a zero rest e v = rw zero-add (rest_passes b rest f (λ k q. v k (omega arith) (omega arith)))
  made_pass b f g a (suc made) rest e v =
      let i = made_pass b (λ k. f (suc k)) g (a + 1) made rest
      (λ k q. e (suc k) (omega arith) ∙ ap g (omega arith)) (λ k q r. v (suc k) (omega arith) (omega arith)) in
      let h : f 0 ≡ g a = e 0 (omega arith) ∙ ap g (add-zero a) in
      rw suc-add (λ j. record_ok b (h j) && i j)

  pub log_by : (b : Bool) (made : ℕ) → made ≡ min (filled_in (hot_of m)) (size_in m)
      → log_ok b (log_in m) ≡ list_all (λ k. record_ok b (record_in (slot_of k))) (range_with_len 0 made)
  unfolding log_in
  log_by b made e =
      ap (λ (n : ℕ). log_ok b (rows n (record_at m))) (omega arith)
      ∙ made_pass b (record_at m) (λ k. record_in (slot_of k)) 0 made (size_in m - made)
      (λ k q. sym (record_in_lem _ k _ refl (omega arith) refl) ∙ ap (λ (j : ℕ). record_in (slot_of j)) (sym (zero-add k)))
      (λ k q r. sym (record_void _ k refl (omega arith)))

  -- ---- the whole

  all_both : (a b : List Bool) → all_true (a ++ b) ≡ (all_true a && all_true b)
  all_both [] b = refl
  all_both (true ∷ a) b = all_both a b
  all_both (false ∷ a) b = refl

  pub readable_by : readable m ≡ (all_true (formed_tests m) && all_true (proper_tests (head_in m)))
  unfolding readable
  readable_by = all_both (formed_tests m) (proper_tests (head_in m))

  -- what the code hands back
  pub reading_card : (h : Head) → reading m ≡ std.Some h → (readable m ≡ true) × (h ≡ head_in m)
  unfolding reading
  reading_card h e = go (readable m) refl e
    where
      go : (b : Bool) → readable m ≡ b → pick b (std.Some (head_in m)) std.None ≡ std.Some h → (readable m ≡ true) × (h ≡ head_in m)
      go true q k = (q, cc)
      go false q k = cc

  pub reading_none : reading m ≡ std.None → readable m ≡ false
  unfolding reading
  reading_none e = go (readable m) refl e
    where
      go : (b : Bool) → readable m ≡ b → pick b (std.Some (head_in m)) std.None ≡ std.None → readable m ≡ false
      go true q k = cc
      go false q k = q
