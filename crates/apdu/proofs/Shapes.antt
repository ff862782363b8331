-- Step 1 by the shape of the bytes: four bytes are a header; five a header and Le; else a header, Lc, as many bytes of data as Lc says, at
-- least one, and at most one byte Le. All other bytes are no command. Assumes nothing.
use mathlib.Core.Bool.{true, ◌||◌}
use mathlib.Core.List.{List, [], ◌∷◌, ◌++◌}
use mathlib.Core.Logic.{◌↔◌}
use mathlib.Core.Path.{◌≡◌, refl, sym, ap, subst, ◌∙◌}
use Rattle.std.specs.Prelude.{Result, Ok, Err}
use Prim.Native.Nat.{ℕ, ◌+◌, ◌≤◌, ◌<◌}
use native.Mathlib.Omega.{arith}
use native.Mathlib.Decide.{dec_le}
use borrow.Author.Tests.{lt-ltb, le-ltb, eq-eqb, ne_eqb}
use lib.Dec.{ltb, eqb}
use lib.ListN.{length, take, drop, length-append, length-drop, take-append-drop}
use lib.Seq.{length-take-le}
use Rattle.octets.specs.Bytes.{byte_at}
use Rattle.octets.proofs.Rules.{first, or_left, or_right, pick_holds}
use Rattle.octets.proofs.Parts.{part-between}
use Rattle.apdu.specs.declared.parsing.Apdu.{Apdu}
use Rattle.apdu.specs.declared.refusals.Refusal.{Refusal}
use Rattle.apdu.specs.declared.refusals.Refusal.TheVariants.{WrongLength}
use Rattle.apdu.specs.Parsing.{headed, parsed, data_of}

-- the header that leads the bytes c, with lc bytes of data
abbrev pub header : List ℕ → ℕ → Apdu
header c lc = record { cla = byte_at c 0; ins = byte_at c 1; p1 = byte_at c 2; p2 = byte_at c 3; lc = lc }

-- the bytes c of a command with the header a
pub data Shape (c : List ℕ) (a : Apdu) : Type 0 where
  four : a.lc ≡ 0 → c ≡ a.cla ∷ a.ins ∷ a.p1 ∷ a.p2 ∷ [] → Shape c a
  five : a.lc ≡ 0 → (le : ℕ) → c ≡ a.cla ∷ a.ins ∷ a.p1 ∷ a.p2 ∷ le ∷ [] → Shape c a
  full : (body le : List ℕ) → 1 ≤ a.lc → length body ≡ a.lc → length le ≤ 1 → c ≡ a.cla ∷ a.ins ∷ a.p1 ∷ a.p2 ∷ a.lc ∷ (body ++ le) → Shape c a

-- ---- the rows of step 1, in order

-- four or five bytes
pub parsed_bare : (c : List ℕ) → 4 ≤ length c → length c ≤ 5 → parsed c ≡ headed c 0
unfolding parsed
parsed_bare c h k = rw (le-ltb (length c) 4 h) (sym (first (ltb (length c) 6) _ _ _ (lt-ltb (length c) 6 (omega arith)) refl))

-- more of them, with Lc 00
parsed-none : (c : List ℕ) → 6 ≤ length c → byte_at c 4 ≡ 0 → parsed c ≡ Err WrongLength
unfolding parsed
parsed-none c h z =
    rw (le-ltb (length c) 4 (omega arith), le-ltb (length c) 6 h) (sym (first (eqb (byte_at c 4) 0) _ _ _ (eq-eqb (byte_at c 4) 0 z) refl))

module _ (c : List ℕ) (some : 1 ≤ byte_at c 4) where
  -- as many as Lc says, and Le or not
  pub parsed_full : 5 + byte_at c 4 ≤ length c → length c ≤ 6 + byte_at c 4 → parsed c ≡ headed c (byte_at c 4)
  unfolding parsed
  parsed_full h k =
      rw (le-ltb (length c) 4 (omega arith), le-ltb (length c) 6 (omega arith), ne_eqb (byte_at c 4) 0 (λ e. omega arith))
      (sym (first (eqb (length c) (5 + byte_at c 4) || eqb (length c) (6 + byte_at c 4)) _ _ _ fits refl))
    where
      fits : (eqb (length c) (5 + byte_at c 4) || eqb (length c) (6 + byte_at c 4)) ≡ true
      fits =
          elim (dec_le (length c) (5 + byte_at c 4)) [
            | yes e ↦ or_left (eqb (length c) (5 + byte_at c 4)) (eqb (length c) (6 + byte_at c 4)) (eq-eqb (length c) (5 + byte_at c 4) (omega arith))
            | no e ↦ or_right (eqb (length c) (5 + byte_at c 4)) (eqb (length c) (6 + byte_at c 4)) (eq-eqb (length c) (6 + byte_at c 4) (omega arith))
          ]

  -- any other number
  parsed_other : 6 ≤ length c → (5 + byte_at c 4 ≤ length c → length c ≤ 6 + byte_at c 4 → ⊥) → parsed c ≡ Err WrongLength
  unfolding parsed
  parsed_other h n =
      let u = ne_eqb (length c) (5 + byte_at c 4) (λ e. n (omega arith) (omega arith)) in
      let v = ne_eqb (length c) (6 + byte_at c 4) (λ e. n (omega arith) (omega arith)) in
      rw (le-ltb (length c) 4 (omega arith), le-ltb (length c) 6 h, ne_eqb (byte_at c 4) 0 (λ e. omega arith), u, v)

-- ---- bytes of such a shape are that command

shaped : (c : List ℕ) (a : Apdu) → Shape c a → parsed c ≡ Ok a
shaped c a (four l e) =
    let n = ap length e in
    parsed_bare c (omega arith) (omega arith) ∙ rw e (ap (λ (n : ℕ). Ok (record { cla = a.cla; ins = a.ins; p1 = a.p1; p2 = a.p2; lc = n })) (sym l))
shaped c a (five l le e) =
    let n = ap length e in
    parsed_bare c (omega arith) (omega arith) ∙ rw e (ap (λ (n : ℕ). Ok (record { cla = a.cla; ins = a.ins; p1 = a.p1; p2 = a.p2; lc = n })) (sym l))
shaped c a (full body le h l m e) =
    let n = ap length e in
    let k = length-append body le in
    let b : byte_at c 4 ≡ a.lc = ap (λ (x : List ℕ). byte_at x 4) e in
    parsed_full c (omega arith) (omega arith) (omega arith) ∙ rw (b, e)

-- ---- and no others are

never : (a : Apdu) → Err WrongLength ≡ Ok a → ⊥
never a e = let z : ◌≡◌ {A = ℕ} 0 1 = cc in omega arith

shape : (c : List ℕ) (a : Apdu) → parsed c ≡ Ok a → Shape c a
unfolding parsed
shape [] a e = absurd (never a e)
shape (x ∷ []) a e = absurd (never a e)
shape (x ∷ y ∷ []) a e = absurd (never a e)
shape (x ∷ y ∷ z ∷ []) a e = absurd (never a e)
shape (x ∷ y ∷ z ∷ v ∷ []) a e =
    let q : record { cla = x; ins = y; p1 = z; p2 = v; lc = 0 } ≡ a = cc in
    subst (λ (b : Apdu). Shape (x ∷ y ∷ z ∷ v ∷ []) b) q (four refl refl)
shape (x ∷ y ∷ z ∷ v ∷ le ∷ []) a e =
    let q : record { cla = x; ins = y; p1 = z; p2 = v; lc = 0 } ≡ a = cc in
    subst (λ (b : Apdu). Shape (x ∷ y ∷ z ∷ v ∷ le ∷ []) b) q (five refl le refl)
shape (x ∷ y ∷ z ∷ v ∷ n ∷ w ∷ r) a e = elim (dec_le 1 n) [ yes o ↦ some o | no o ↦ absurd (never a (sym (parsed-none c (omega arith) (omega arith)) ∙ e)) ]
  where
    c : List ℕ
    c = x ∷ y ∷ z ∷ v ∷ n ∷ w ∷ r

    whole : 1 ≤ n → 5 + n ≤ length c → length c ≤ 6 + n → Shape c a
    whole o h k =
        let f : headed c n ≡ Ok a = sym (parsed_full c o h k) ∙ e in
        let q : record { cla = x; ins = y; p1 = z; p2 = v; lc = n } ≡ a = cc in
        let d : length (drop n (w ∷ r)) ≤ 1 = rw (length-drop n (w ∷ r)) (omega arith) in
        let s = take-append-drop n (w ∷ r) in
        subst (λ (b : Apdu). Shape c b) q (full (take n (w ∷ r)) (drop n (w ∷ r)) o (length-take-le n (w ∷ r) (omega arith)) d (rw s))

    other : 1 ≤ n → (5 + n ≤ length c → length c ≤ 6 + n → ⊥) → Shape c a
    other o f = absurd (never a (sym (parsed_other c o (omega arith) f) ∙ e))

    some : 1 ≤ n → Shape c a
    some o =
        elim (dec_le (5 + n) (length c)) [
          | yes h ↦ elim (dec_le (length c) (6 + n)) [ yes k ↦ whole o h k | no k ↦ other o (λ l m. k m) ]
          | no h ↦ other o (λ l m. h l)
        ]

-- what the row says of a refusal
abbrev ByLength : Result Apdu Refusal → Type 0
ByLength (Ok a) = Unit {0}
ByLength (Err r) = r ≡ WrongLength

by_length : (c : List ℕ) → ByLength (parsed c)
unfolding parsed
by_length c =
    pick_holds ByLength (ltb (length c) 4) _ _ (λ e. refl)
    (λ e. pick_holds ByLength (ltb (length c) 6) _ _ (λ e. tt)
    (λ e. pick_holds ByLength (eqb (byte_at c 4) 0) _ _ (λ e. refl)
    (λ e. pick_holds ByLength (eqb (length c) (5 + byte_at c 4) || eqb (length c) (6 + byte_at c 4)) _ _ (λ e. tt) (λ e. refl))))

-- a refusal of step 1 is this one
pub refused_length : (P : Refusal → Type 0) → P WrongLength → (c : List ℕ) (r : Refusal) → parsed c ≡ Err r → P r
refused_length P w c r e = let q : r ≡ WrongLength = rw e at (by_length c) in rw q w

unshaped : (c : List ℕ) (p : Result Apdu Refusal) → parsed c ≡ p → ((a : Apdu) → Shape c a → ⊥) → p ≡ Err WrongLength
unshaped c (Ok a) e n = absurd (n a (shape c a e))
unshaped c (Err r) e n = ap Err (refused_length (λ (x : Refusal). x ≡ WrongLength) refl c r e)

apart : (p : Result Apdu Refusal) (a : Apdu) → p ≡ Err WrongLength → p ≡ Ok a → ⊥
apart p a e f = let z : ◌≡◌ {A = ℕ} 0 1 = cc in omega arith

-- ---- step 1

-- what bytes are as a command
pub record ByShape (c : List ℕ) : Type 0 where
  pub command : (a : Apdu) → (parsed c ≡ Ok a) ↔ Shape c a
  -- "otherwise 6700"
  pub otherwise : (parsed c ≡ Err WrongLength) ↔ ((a : Apdu) → Shape c a → ⊥)

-- every byte string is so
pub by_shape : (c : List ℕ) → ByShape c
by_shape c =
    record {
      command = λ a. (shape c a, shaped c a);
      otherwise = ((λ e a h. apart (parsed c) a e (shaped c a h)), unshaped c (parsed c) refl);
    }

-- "Le is ignored": a command's data are the bytes that Lc counts
pub data_shaped : (c : List ℕ) (a : Apdu) (body le : List ℕ) → length body ≡ a.lc → c ≡ a.cla ∷ a.ins ∷ a.p1 ∷ a.p2 ∷ a.lc ∷ (body ++ le)
    → data_of c a.lc ≡ body
data_shaped c a body le l e = rw e (part-between (a.cla ∷ a.ins ∷ a.p1 ∷ a.p2 ∷ a.lc ∷ []) body le 5 a.lc refl l)

-- a command's header is its first bytes
pub header_is : (c : List ℕ) (a : Apdu) → parsed c ≡ Ok a → a ≡ header c a.lc
header_is c a e = leads (shape c a e)
  where
    leads : Shape c a → a ≡ header c a.lc
    leads (four l q) = rw q
    leads (five l le q) = rw q
    leads (full body le h l m q) = rw q

-- and its data lie within it
pub data_within : (c : List ℕ) (a : Apdu) → parsed c ≡ Ok a → 0 < a.lc → 5 + a.lc ≤ length c
data_within c a e h = within (shape c a e)
  where
    within : Shape c a → 5 + a.lc ≤ length c
    within (four l q) = absurd (omega arith)
    within (five l le q) = absurd (omega arith)
    within (full body le k l m q) = omega (arith, ap length q, length-append body le)
