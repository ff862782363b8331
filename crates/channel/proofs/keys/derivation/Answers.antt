-- `derivation`: the four halves in a row. Assumes nothing.
use mathlib.Core.List.{List, [], ◌++◌, append_assoc, append-nil}
use mathlib.Core.Path.{◌≡◌, ap, ◌∙◌}
use Prim.Native.Nat.{ℕ}
use native.Mathlib.Omega.{arith}
use lib.ListN.{length, length-append}
use Rattle.octets.specs.Bytes.{field}
use Rattle.octets.proofs.Parts.{field-part, part-all}
use Rattle.channel.specs.Channel.{derivation}
use borrow.Author.Rules.{rules}
use Rattle.channel.proofs.keys.derivation.Goals as goal

-- four pieces of four bytes are sixteen bytes
joined : (p q r s : List ℕ) → length p ≡ 4 → length q ≡ 4 → length r ≡ 4 → length s ≡ 4 → field (p ++ (q ++ (r ++ (s ++ [])))) 0 16 ≡ p ++ q ++ r ++ s
joined p q r s a b c d =
    let e : p ++ (q ++ (r ++ (s ++ []))) ≡ p ++ q ++ r ++ s = simp (append_assoc, append-nil) in
    let n : length (p ++ q ++ r ++ s) ≡ 16 = simp length-append (omega arith) in
    rw e (field-part (p ++ q ++ r ++ s) 0 16 (omega arith) ∙ part-all (p ++ q ++ r ++ s) 16 (omega arith))

pub returns : goal.returns
unfolding derivation
returns c =
    let host = c.args.host in
    let card = c.args.card in
    let host_size : length host ≡ 8 = search rules in
    let card_size : length card ≡ 8 = search rules in
    c.part-5.ensures
    ∙ ap (λ (s : List ℕ). field s 0 16) c.as_flattened.ensures.value
    ∙ joined c.part.result c.part-2.result c.part-3.result c.part-4.result (search rules) (search rules) (search rules) (search rules)
    ∙ rw (c.part.ensures, c.part-2.ensures, c.part-3.ensures, c.part-4.ensures)
    (rw (field-part card 4 4 (omega arith), field-part host 0 4 (omega arith), field-part card 0 4 (omega arith), field-part host 4 4 (omega arith)))
