-- `walk_under`: after i turns the text is what its first i blocks became, and then what it was. Assumes nothing.
use Prim.Native.Nat.{ℕ}
use mathlib.Core.Path.{ap, ◌∙◌}
use mathlib.Core.List.{List}
use borrow.Author.Rules.{rules}
use Rattle.des_spec.specs.Walk.{walk_text}
use Rattle.tdes.specs.declared.modes.Turned.{Turned}
use Rattle.tdes.specs.Turns.{mode, turned}
use Rattle.tdes.proofs.Under.{under_cipher, under_key, mode_sound}
use Rattle.tdes.proofs.InPlace.{first, turn, last}
use Rattle.tdes.proofs.modes.walk_under.Goals as goal

pub loop-i-init : goal.loop-i-init
loop-i-init g c = first _ _ _ (search rules)

pub loop-i-preserved : goal.loop-i-preserved
unfolding turned
loop-i-preserved g c =
    let keys = c.of-keys.result in
    turn (mode_sound c.args.way _ (under_cipher (g.K.RoundKeys.bits keys.outer) (g.K.RoundKeys.bits keys.inner))) c.loop-i.invariant (search rules)
    c.part-block.ensures (ap (λ (x : Turned). x.put) c.turn-turned.ensures) (ap (λ (x : Turned). x.next) c.turn-turned.ensures) c.paste.ensures

pub returns : goal.returns
returns g c =
    let a = c.args in
    let keys = c.of-keys.result in
    last (mode_sound a.way _ (under_cipher (g.K.RoundKeys.bits keys.outer) (g.K.RoundKeys.bits keys.inner))) c.loop-i.invariant (search rules)
    ∙ ap (λ (f : List ℕ → List ℕ). walk_text (mode a.way f) a.start a.text.now)
    (under_key a.decipher a.key _ _ c.of-keys.ensures.outer c.of-keys.ensures.inner)
