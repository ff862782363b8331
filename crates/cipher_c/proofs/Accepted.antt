-- A call whose engine and lengths are right, over plain variables: what the code has at the end is what the definition says. Assumes nothing.
use mathlib.Core.Path.{◌≡◌, ap, ◌∙◌}
use mathlib.Core.List.{List}
use Prim.Native.Nat.{ℕ, ◌*◌, ◌/◌, ◌≤◌}
use borrow.Author.Tests.{eq-eqb, le-ltb}
use lib.ListN.{length}
use Rattle.octets.specs.Bytes.{field, paste}
use Rattle.des_spec.specs.Des.{encipher, des}
use Rattle.des_spec.specs.Modes.{blocks, cbc_text, signature}
use Rattle.des_spec.proofs.Lengths.{length-des}
use Rattle.des_spec.proofs.Texts.{length-cbc_text}
use Rattle.tdes.specs.Single.{des_text, des_each}
use Rattle.tdes.proofs.Each.{length-each_text}
use Rattle.cipher_c.specs.Calls.{called, cbc_call, signature_call, des_call, des_each_call}

module _ (engine : ℕ) (key start : List ℕ) (k s : List ℕ) (n : engine ≤ 1) (ek : length key ≡ 16) (es : length start ≡ 8) (k' : k ≡ key) (s' : s ≡ start) where
  pub cbc-called : (text area : List ℕ) → area ≡ cbc_text encipher k s text → called (length area / 8) area ≡ cbc_call engine key start text
  unfolding cbc_call blocks
  cbc-called text area e =
      let l : length area ≡ length text = ap length e ∙ length-cbc_text encipher k s text (ap length s' ∙ es) in
      rw (l, e, k', s', le-ltb 1 engine n, eq-eqb (length key) 16 ek, eq-eqb (length start) 8 es)

  pub signature-called : (text out mac area : List ℕ) → 8 ≤ length out → mac ≡ signature k s text → area ≡ paste out 0 mac
      → called 8 area ≡ signature_call engine key start text out
  unfolding signature_call
  signature-called text out mac area h e a =
      rw (a, e, k', s', le-ltb 1 engine n, eq-eqb (length key) 16 ek, eq-eqb (length start) 8 es, le-ltb (length out) 8 h)

pub des-called : (engine : ℕ) (key k text area : List ℕ) → engine ≤ 1 → length key ≡ 8 → k ≡ key → area ≡ des_text encipher k text
    → called (length area / 8) area ≡ des_call engine key text
unfolding des_call des_text blocks
des-called engine key k text area n ek k' e =
    let l : length area ≡ length text = ap length e ∙ length-each_text (λ (i : ℕ). des encipher k) (λ i. length-des encipher k) text in
    rw (l, e, k', le-ltb 1 engine n, eq-eqb (length key) 8 ek)

pub each-called : (engine : ℕ) (keys text area : List ℕ) → engine ≤ 1 → length keys ≡ 8 * (length text / 8) → area ≡ des_each encipher keys text
    → called (length area / 8) area ≡ des_each_call engine keys text
unfolding des_each_call des_each blocks
each-called engine keys text area n ek e =
    let l : length area ≡ length text =
    ap length e ∙ length-each_text (λ (i : ℕ). des encipher (field keys (8 * i) 8)) (λ i. length-des encipher (field keys (8 * i) 8)) text in
    rw (l, e, le-ltb 1 engine n, eq-eqb (length keys) (8 * (length text / 8)) ek)
