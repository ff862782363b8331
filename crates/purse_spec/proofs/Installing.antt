-- Installation on any memory: which data are accepted, "a finished one leaves the fresh card of its data", "A cut installation leaves
-- memory reading as before, as no card, or as the fresh card" (here never as the last). Assumes nothing.
use mathlib.Core.Bool.{true, false≢true}
use mathlib.Core.List.{List, [], ◌∷◌, ◌++◌}
use mathlib.Core.Logic.{◌⊎◌}
use mathlib.Core.Option.{none, some}
use mathlib.Core.Path.{◌≡◌, refl, sym, ap, ◌∙◌}
use Prim.Native.Nat.{ℕ, ◌+◌, ◌≤◌, ◌<◌}
use native.Mathlib.Numerals.{add-one}
use native.Mathlib.Omega.{arith}
use borrow.Author.Tests.{leb-true, le-leb, eqb-true, eq-eqb}
use lib.Dec.{leb, eqb}
use lib.ListN.{length, drop, length-drop, length-append, take-append-drop}
use lib.Seq.{get_or-drop, get_or-append-add, drop-cons, drop-drop, take_all}
use Rattle.octets.specs.Bytes.{AreBytes, byte_at, part, field, all_zero}
use Rattle.octets.proofs.Conditions.{all_true_lem, and_both}
use Rattle.octets.proofs.Equality.{bytes_zero}
use Rattle.octets.proofs.Parts.{byte_past, length_part, length-field, field_at}
use Rattle.octets.proofs.Octets.{field_octets}
use Rattle.octets.proofs.Ranges.{part_bytes, field-bytes}
use Rattle.stores.specs.Stores.{Store, leaves}
use Rattle.stores.proofs.Limits.{answers-done, limit_enough}
use Rattle.card.specs.Card.{fresh}
use Rattle.card.specs.Proper.{fixed_tests, aid_ok}
use Rattle.memory.specs.Layout.{memory_size}
use Rattle.memory.specs.Reading.{read_card}
use Rattle.memory.specs.Changes.{install_plan, install_count}
use Rattle.memory.proofs.Bounds.{install-length}
use Rattle.card.proofs.Bytes.{keys-sized}
use Rattle.card.proofs.FreshCard.{Installable}
use Rattle.memory.proofs.Installation.{install-cut, install-done}
use Rattle.session.specs.Transitions.{unselected}
use Rattle.purse_spec.specs.Calls.{Run, refusal, performed}
use Rattle.purse_spec.specs.Installation.{data_ok, data_fixed, data_aid, data_keys, installation}
use Rattle.purse_spec.specs.Reasons.{InRange}
use Rattle.purse_spec.proofs.Performed.{by_limit, performed_follows}
use Rattle.purse_spec.proofs.Runs.{installation_holds, installation-runs}

-- ---- the data

-- the numbers of installation data are in range
record Ranges (d : List ℕ) : Type 0 where
  pub least : 5 ≤ byte_at d 0
  pub most : byte_at d 0 ≤ 16
  pub long : length d ≡ byte_at d 0 + 51
  pub some_log : 1 ≤ byte_at d (byte_at d 0 + 1)
  pub most-log : byte_at d (byte_at d 0 + 1) ≤ 50
  pub some_tries : 3 ≤ byte_at d (byte_at d 0 + 2)
  pub most-tries : byte_at d (byte_at d 0 + 2) ≤ 15

-- the test tells exactly that
ranges : (d : List ℕ) → (data_ok d ≡ true → Ranges d) × (Ranges d → data_ok d ≡ true)
unfolding data_ok
ranges d =
    let n = byte_at d 0 in (
      λ e.
          let g = and_both _ (leb (byte_at d (n + 2)) 15) e in
          let f = and_both _ (leb 3 (byte_at d (n + 2))) g.0 in
          let k = and_both _ (leb (byte_at d (n + 1)) 50) f.0 in
          let j = and_both _ (leb 1 (byte_at d (n + 1))) k.0 in
          let i = and_both _ (eqb (length d) (n + 51)) j.0 in
          let h = and_both (leb 5 n) (leb n 16) i.0 in
          record {
            least = leb-true _ _ h.0;
            most = leb-true _ _ h.1;
            long = eqb-true _ _ i.1;
            some_log = leb-true _ _ j.1;
            most-log = leb-true _ _ k.1;
            some_tries = leb-true _ _ f.1;
            most-tries = leb-true _ _ g.1;
          },
      λ r. rw (
        le-leb 5 n r.least,
        le-leb n 16 r.most,
        eq-eqb (length d) (n + 51) r.long,
        le-leb 1 (byte_at d (n + 1)) r.some_log,
        le-leb (byte_at d (n + 1)) 50 r.most-log,
        le-leb 3 (byte_at d (n + 2)) r.some_tries,
        le-leb (byte_at d (n + 2)) 15 r.most-tries,
      ),
    )

-- where each part of data in range lies
module _ (d : List ℕ) (g : InRange d) where
  abbrev n : ℕ
  n = length g.aid

  -- behind the AID
  abbrev behind : List ℕ
  behind = g.size ∷ g.tries ∷ g.enc ++ (g.mac ++ g.dek)

  pub aid-length : byte_at d 0 ≡ n
  aid-length = ap (λ (l : List ℕ). byte_at l 0) g.is

  pub data_length_lem : length d ≡ n + 51
  data_length_lem =
      let k = g.keys in
      ap length g.is ∙ simp length-append (omega arith)

  -- a byte behind the AID
  behind-at : (i : ℕ) → byte_at d (n + 1 + i) ≡ byte_at behind i
  behind-at i =
      let e : n + 1 + i ≡ length (length g.aid ∷ g.aid) + i = omega arith in
      ap (λ (l : List ℕ). byte_at l (n + 1 + i)) g.is ∙ ap (byte_at (length g.aid ∷ g.aid ++ behind)) e ∙ get_or-append-add (length g.aid ∷ g.aid) behind i 0

  pub log-size : byte_at d (n + 1) ≡ g.size
  log-size = let e : n + 1 ≡ n + 1 + 0 = omega arith in ap (byte_at d) e ∙ behind-at 0

  pub most-tries : byte_at d (n + 2) ≡ g.tries
  most-tries = let e : n + 2 ≡ n + 1 + 1 = omega arith in ap (byte_at d) e ∙ behind-at 1

-- data in range are accepted
pub in_range : (d : List ℕ) → InRange d → data_ok d ≡ true
in_range d g =
    let n = aid-length d g in
    let s : byte_at d (byte_at d 0 + 1) ≡ g.size = rw n (log-size d g) in
    let t : byte_at d (byte_at d 0 + 2) ≡ g.tries = rw n (most-tries d g) in
    let l = data_length_lem d g in
    (ranges d).1
    (record {
      least = (let a = g.aids in omega arith);
      most = (let a = g.aids in omega arith);
      long = omega arith;
      some_log = (let a = g.sizes in omega arith);
      most-log = (let a = g.sizes in omega arith);
      some_tries = (let a = g.most in omega arith);
      most-tries = (let a = g.most in omega arith);
    })

-- a byte of a string and what follows it
cons-at : (d : List ℕ) (i k : ℕ) → i < length d → k ≡ i + 1 → drop i d ≡ byte_at d i ∷ drop k d
cons-at d i k h e = rw (e, add-one) (drop-cons d i 0 h)

-- a part of it and what follows
part-at_front : (d : List ℕ) (at n k : ℕ) → k ≡ at + n → drop at d ≡ part d at n ++ drop k d
part-at_front d at n k e = rw e (sym (rw (drop-drop n at d) at (take-append-drop n (drop at d))))

-- and no others are
pub only_in_range : (d : List ℕ) → data_ok d ≡ true → InRange d
only_in_range d e =
    let r = (ranges d).0 e in
    let n = byte_at d 0 in
    let l = r.long in
    let b = r.least in
    let k : length (part d 1 n) ≡ n = length_part d 1 n (omega arith) in
    let last : drop (n + 35) d ≡ part d (n + 35) 16 = sym (take_all 16 (drop (n + 35) d) (rw length-drop (omega arith))) in
    let keys : drop (n + 3) d ≡ part d (n + 3) 16 ++ (part d (n + 19) 16 ++ part d (n + 35) 16) =
    part-at_front d (n + 3) 16 (n + 19) (omega arith)
    ∙ ap (λ (x : List ℕ). part d (n + 3) 16 ++ x) (part-at_front d (n + 19) 16 (n + 35) (omega arith) ∙ ap (λ (x : List ℕ). part d (n + 19) 16 ++ x) last)
    in
    let numbers : drop (n + 1) d ≡ byte_at d (n + 1) ∷ byte_at d (n + 2) ∷ drop (n + 3) d =
    cons-at d (n + 1) (n + 2) (omega arith) (omega arith) ∙ ap (λ (x : List ℕ). byte_at d (n + 1) ∷ x) (cons-at d (n + 2) (n + 3) (omega arith) (omega arith))
    in
    record {
      aid = part d 1 n;
      size = byte_at d (n + 1);
      tries = byte_at d (n + 2);
      enc = part d (n + 3) 16;
      mac = part d (n + 19) 16;
      dek = part d (n + 35) 16;
      is =
          cons-at d 0 1 (omega arith) refl ∙ rw k
          (ap (λ (x : List ℕ). n ∷ x)
          (part-at_front d 1 n (n + 1) (omega arith) ∙ ap (λ (x : List ℕ). part d 1 n ++ x) (numbers ∙ ap (λ (x : List ℕ). byte_at d (n + 1) ∷ byte_at d (n + 2) ∷ x) keys)));
      aids = rw k (r.least, r.most);
      sizes = (r.some_log, r.most-log);
      most = (r.some_tries, r.most-tries);
      keys = (length_part d (n + 3) 16 (omega arith), length_part d (n + 19) 16 (omega arith), length_part d (n + 35) 16 (omega arith));
    }

-- the AID is followed by zeros
aid_ends : (d : List ℕ) (n : ℕ) → n ≤ 16 → 1 + n ≤ length d → all_zero (drop n (field (part d 1 n) 0 16)) ≡ true
aid_ends d n h k =
    let f = field (part d 1 n) 0 16 in
    let l : length f ≡ 16 = length-field (part d 1 n) 0 16 in
    let p : length (part d 1 n) ≡ n = length_part d 1 n k in
    bytes_zero (drop n f) (λ i q.
    let j : n + i < 16 = omega (arith, length-drop n f) in
    get_or-drop n f i 0 ∙ field_at (part d 1 n) 0 16 (n + i) j ∙ byte_past (part d 1 n) (0 + (n + i)) (omega arith))

-- what is not refused can be installed
pub installable : (d : List ℕ) → AreBytes d → data_ok d ≡ true → Installable (data_fixed d) (data_aid d) (data_keys d)
unfolding data_fixed data_aid data_keys fixed_tests aid_ok
installable d f e =
    let n = byte_at d 0 in
    let r = (ranges d).0 e in
    record {
      bytes = field_octets (part d 1 n) 0 16 (part_bytes d 1 n f);
      keys = keys-sized _ (field-bytes d _ 48 f);
      named =
          all_true_lem (leb 5 n ∷ leb n 16 ∷ all_zero (drop n (field (part d 1 n) 0 16)) ∷ [])
          (le-leb _ _ r.least, (le-leb _ _ r.most, (aid_ends d n r.most (let l = r.long in omega arith), tt)));
      tests =
          all_true_lem (fixed_tests (data_fixed d))
          (le-leb _ _ r.some_log, (le-leb _ _ r.most-log, (le-leb _ _ r.some_tries, (le-leb _ _ r.most-tries, tt))));
    }

-- ---- its runs

abbrev given_plan : List ℕ → List Store
given_plan d = install_plan (data_fixed d) (data_aid d) (data_keys d)

-- past its refusals and not cut, it leaves the fresh card
pub installed_reads : (m d : List ℕ) (limit : ℕ) → AreBytes d → length m ≡ memory_size → data_ok d ≡ true → length (given_plan d) ≤ limit
    → read_card (leaves (given_plan d) limit m) ≡ some (fresh (data_fixed d) (data_aid d) (data_keys d))
installed_reads m d limit f e t n =
    ap read_card (limit_enough (given_plan d) limit m n) ∙ install-done (data_fixed d) (data_aid d) (data_keys d) (installable d f t) m e

-- what isn't refused finishes from limit 231 on, whatever memory held
pub installation_finishes : (m d : List ℕ) (limit : ℕ) → AreBytes d → length m ≡ memory_size → data_ok d ≡ true → install_count ≤ limit
    → (installation m d limit).answer ≡ 0
installation_finishes m d limit f l t k =
    installation_holds m (λ (r : ℕ → Run). (r limit).answer ≡ 0) d (λ e. absurd (e l)) (λ e u. absurd (false≢true (sym u ∙ t)))
    (λ e u.
    let i = installable d f t in
    let n = install-length (data_fixed d) (data_aid d) (data_keys d) i.bytes i.keys in
    (performed_follows (given_plan d) limit m unselected [] []).answer ∙ answers-done (given_plan d) limit (omega arith))

-- "a finished one leaves the fresh card of its data"
pub installation-done : (m d : List ℕ) (limit : ℕ) → (given : AreBytes d) → (finished : (installation m d limit).answer ≡ 0)
    → read_card (installation m d limit).memory ≡ some (fresh (data_fixed d) (data_aid d) (data_keys d))
unfolding refusal performed
installation-done m d limit f =
    installation-runs m (λ (r : ℕ → Run). (r limit).answer ≡ 0 → read_card (r limit).memory ≡ some (fresh (data_fixed d) (data_aid d) (data_keys d))) d
    (λ n k l z. absurd (omega arith))
    (λ e t. by_limit (λ (r : Run). r.answer ≡ 0 → read_card r.memory ≡ some (fresh (data_fixed d) (data_aid d) (data_keys d))) limit _ _ _
    (λ k z. absurd (omega arith)) (λ k z. installed_reads m d limit f e t k))

-- a cut one reads as before or as no card
pub installation-cut : (m d : List ℕ) (limit : ℕ) → (cut : (installation m d limit).answer ≡ 7)
    → (read_card (installation m d limit).memory ≡ read_card m) ⊎ (read_card (installation m d limit).memory ≡ none)
unfolding refusal performed
installation-cut m d limit =
    installation-runs m (λ (r : ℕ → Run). (r limit).answer ≡ 7 → (read_card (r limit).memory ≡ read_card m) ⊎ (read_card (r limit).memory ≡ none)) d
    (λ n k l z. absurd (omega arith))
    (λ e t. by_limit (λ (r : Run). r.answer ≡ 7 → (read_card r.memory ≡ read_card m) ⊎ (read_card r.memory ≡ none)) limit _ _ _
    (λ k z. install-cut (data_fixed d) (data_aid d) (data_keys d) m e limit k) (λ k z. absurd (omega arith)))
