-- `signature_under` takes in a block a turn: what is left of the text, from the value so far, leaves the value of the whole. Assumes nothing.
use Prim.Native.Nat.{ℕ, ◌+◌, ◌-◌, ◌*◌, ◌/◌, ◌<◌}
use mathlib.Core.Path.{◌≡◌, refl, sym, ap, ◌∙◌}
use mathlib.Core.List.{List}
use native.Mathlib.Numerals.{add-one}
use native.Mathlib.Omega.{arith}
use borrow.Author.Rules.{rules}
use lib.ListN.{length, take, drop, length-drop}
use lib.Seq.{take_all}
use Rattle.des_spec.specs.Bits.{xor_bytes}
use Rattle.des_spec.specs.Des.{encipher}
use Rattle.des_spec.specs.Modes.{padded}
use Rattle.des_spec.specs.Walk.{cbc_encipher_by, cbc_mode}
use Rattle.octets.proofs.Parts.{field-part}
use Rattle.des_spec.proofs.Signature.{signed, signed-next, signed_last, signature-signed}
use Rattle.tdes.specs.Turns.{triple_under}
use Rattle.tdes.proofs.InPlace.{after_block}
use Rattle.tdes.proofs.Under.{under_key}
use Rattle.tdes.proofs.signing.signature_under.Goals as goal

pub loop-i-init : goal.loop-i-init
loop-i-init g c = refl

pub loop-i-preserved : goal.loop-i-preserved
unfolding cbc_encipher_by
loop-i-preserved g c =
    let keys = c.of-keys.result in
    let f = triple_under (g.K.RoundKeys.bits keys.outer) (g.K.RoundKeys.bits keys.inner) in
    let t = c.args.text.now in
    let i = c.loop-i.i in
    let v = c.loop-i.value in
    let block = c.part.ensures ∙ field-part t (8 * i) 8 (omega arith) in
    let next = c.chained-next.ensures ∙ ap (λ (b : List ℕ). f (xor_bytes b v)) block in
    let left : drop (8 * (i + 1)) t ≡ drop 8 (drop (8 * i) t) = ap (λ (k : ℕ). drop (8 * k) t) (add-one i) ∙ sym (after_block i t) in
    (λ j. signed (cbc_encipher_by f) (next j) (left j))
    ∙ sym (signed-next (cbc_encipher_by f) v (drop (8 * i) t) (omega (arith, length-drop (8 * i) t)))
    ∙ c.loop-i.invariant

pub returns : goal.returns
unfolding cbc_mode cbc_encipher_by
returns g c =
    let a = c.args in
    let keys = c.of-keys in
    let f = triple_under (g.K.RoundKeys.bits keys.result.outer) (g.K.RoundKeys.bits keys.result.inner) in
    let t = a.text.now in
    let i = c.loop-i.i in
    let v = c.loop-i.value in
    let e : length a.start ≡ 8 = search rules in
    let n : i ≡ length t / 8 = omega arith in
    let short : length (drop (8 * i) t) < 8 = omega (arith, length-drop (8 * i) t) in
    let left : take (length t - 8 * (length t / 8)) (drop (8 * (length t / 8)) t) ≡ drop (8 * i) t =
    take_all (length t - 8 * (length t / 8)) (drop (8 * (length t / 8)) t) (omega (arith, length-drop (8 * (length t / 8)) t))
    ∙ ap (λ (k : ℕ). drop (8 * k) t) (sym n) in
    c.chained.ensures
    ∙ ap (λ (b : List ℕ). f (xor_bytes b v)) (c.padded_block.ensures ∙ ap padded left)
    ∙ sym (signed_last (cbc_encipher_by f) v (drop (8 * i) t) short)
    ∙ c.loop-i.invariant
    ∙ ap (λ (h : List ℕ → List ℕ). signed (cbc_encipher_by h) a.start t) (under_key encipher a.key _ _ keys.ensures.outer keys.ensures.inner)
    ∙ sym (signature-signed a.key a.start t e)
