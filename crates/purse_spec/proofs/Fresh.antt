-- Installation data in range are accepted on any memory of 4,096 bytes, and leave the fresh card: "All else starts undefined and zero,
-- tries full", spelled out by fields. Assumes nothing.
use mathlib.Core.List.{List, [], ◌∷◌, ◌++◌, append_assoc}
use mathlib.Core.Option.{some}
use mathlib.Core.Path.{◌≡◌, refl, sym, ap, ◌∙◌}
use Prim.Native.Nat.{ℕ, ◌+◌, ◌-◌, ◌≤◌}
use native.Mathlib.Omega.{arith}
use lib.ListN.{length, drop, take, length-append, length-replicate, replicate-append-replicate}
use lib.Seq.{take_at, take_all, drop_at}
use Rattle.octets.specs.Bytes.{AreBytes, byte_at, part, field, zeros}
use Rattle.octets.proofs.Parts.{field-part, part-between}
use Rattle.card.specs.declared.head.Keys.{Keys}
use Rattle.card.specs.Keys.{keys_in}
use Rattle.card.specs.Card.{Card, fresh_head, fresh}
use Rattle.memory.specs.Reading.{read_card}
use Rattle.card.proofs.AsInstalled.{AsInstalled, as_installed}
use Rattle.card.proofs.Bytes.{keys-joined}
use Rattle.purse_spec.specs.Installation.{data_fixed, data_aid, data_keys}
use Rattle.purse_spec.specs.History.{install, Situation, run}
use Rattle.purse_spec.specs.Reasons.{InRange}
use Rattle.purse_spec.proofs.Installing.{in_range, aid-length, log-size, most-tries, data_length_lem, installation_finishes, installation-done}

-- a card of installation data as it starts
pub record Fresh {d : List ℕ} (g : InRange d) (c : Card) : Type 0 where
  -- what the data say: AID, log size, tries, key set 3
  pub aidlen : c.head.purse.aid.size ≡ length g.aid
  pub aid : c.head.purse.aid.bytes ≡ g.aid ++ zeros (16 - length g.aid)
  pub logsize : c.head.fixed.logsize ≡ g.size
  pub maxtries : c.head.fixed.maxtries ≡ g.tries
  pub enc : c.head.shared.admin.enc ≡ g.enc
  pub mac : c.head.shared.admin.mac ≡ g.mac
  pub dek : c.head.shared.admin.dek ≡ g.dek
  -- and all else "undefined and zero, tries full"
  pub starts : AsInstalled c.head.fixed c.head.purse.aid c.head.shared.admin c

-- ---- the data

-- a short string as a field of 16 bytes
padded : (s : List ℕ) → length s ≤ 16 → field s 0 16 ≡ s ++ zeros (16 - length s)
unfolding field
padded s h =
    let k = 16 - length s in
    let n : k + length s ≡ 16 = omega arith in
    let e : zeros 16 ≡ zeros k ++ zeros (length s) = sym (replicate-append-replicate k (length s) 0 ∙ ap zeros n) in
    ap (λ (l : List ℕ). take 16 (s ++ l)) e ∙ ap (take 16) (sym (append_assoc s (zeros k) (zeros (length s))))
    ∙ take_at (s ++ zeros k) (zeros (length s)) 16 (omega (arith, length-append s (zeros k), length-replicate {A = ℕ} k 0))

module _ (d : List ℕ) (g : InRange d) where
  -- the AID
  aid-there : part d 1 (byte_at d 0) ≡ g.aid
  aid-there = ap (λ (l : List ℕ). part l 1 (byte_at d 0)) g.is ∙ part-between (length g.aid ∷ []) g.aid _ 1 (byte_at d 0) refl (sym (aid-length d g))

  -- the keys
  keys-there : drop (byte_at d 0 + 3) d ≡ g.enc ++ (g.mac ++ g.dek)
  keys-there =
      let front : List ℕ = length g.aid ∷ g.aid ++ (g.size ∷ g.tries ∷ []) in
      let e : d ≡ front ++ (g.enc ++ (g.mac ++ g.dek)) = g.is ∙ sym (append_assoc (length g.aid ∷ g.aid) (g.size ∷ g.tries ∷ []) (g.enc ++ (g.mac ++ g.dek))) in
      let n = aid-length d g in
      ap (drop (byte_at d 0 + 3)) e ∙ drop_at front (g.enc ++ (g.mac ++ g.dek)) (byte_at d 0 + 3) (omega (arith, length-append (length g.aid ∷ g.aid) (g.size ∷ g.tries ∷ [])))

  long : byte_at d 0 + 51 ≡ length d
  long = let n = aid-length d g in let l = data_length_lem d g in omega arith

  keys-are : data_keys d ≡ record { enc = g.enc; mac = g.mac; dek = g.dek }
  unfolding data_keys
  keys-are =
      let l = long in
      ap keys_in
      (field-part d (byte_at d 0 + 3) 48 (omega arith) ∙ ap (take 48) keys-there
      ∙ take_all 48 (g.enc ++ (g.mac ++ g.dek)) (let k = g.keys in simp length-append (omega arith)))
      ∙ keys-joined g.enc g.mac g.dek g.keys.0 g.keys.1 g.keys.2

  -- the fresh card of the data
  fresh-fields : Fresh g (fresh (data_fixed d) (data_aid d) (data_keys d))
  unfolding fresh fresh_head data_fixed data_aid
  fresh-fields =
      let n = aid-length d g in
      let t : byte_at d (byte_at d 0 + 2) ≡ g.tries = rw n (most-tries d g) in
      let s : byte_at d (byte_at d 0 + 1) ≡ g.size = rw n (log-size d g) in
      record {
        aidlen = n;
        aid = ap (λ (x : List ℕ). field x 0 16) aid-there ∙ padded g.aid g.aids.1;
        logsize = s;
        maxtries = t;
        enc = ap (λ (k : Keys). k.enc) keys-are;
        mac = ap (λ (k : Keys). k.mac) keys-are;
        dek = ap (λ (k : Keys). k.dek) keys-are;
        starts = as_installed (data_fixed d) (data_aid d) (data_keys d);
      }

-- ---- the law

-- data in range, on any memory of 4,096 bytes and at limit 65,535 or above: done, and memory reads as the fresh card
pub installs : (st : Situation) (d : List ℕ) (limit : ℕ) → (given : AreBytes d) → (g : InRange d) → (long : length st.memory ≡ 4096) → (uncut : 65535 ≤ limit)
    → ((run (install d limit) st).answer ≡ 0) × (c : Card) × (read_card (run (install d limit) st).memory ≡ some c) × Fresh g c
unfolding run
installs st d limit f g e k =
    let z = installation_finishes st.memory d limit f e (in_range d g) (omega arith) in
    (z, fresh (data_fixed d) (data_aid d) (data_keys d), installation-done st.memory d limit f z, fresh-fields d g)
