-- `fill`: what the string has, over zeros. Assumes nothing.
use Prim.Native.Nat.{◌+◌, ◌-◌, min}
use mathlib.Core.Path.{◌≡◌, ◌∙◌}
use native.Mathlib.Omega.{arith}
use lib.ListN.{length, length-replicate}
use Rattle.octets.specs.Bytes.{zeros}
use Rattle.octets.proofs.Parts.{field_past}
use Rattle.octets.proofs.Pasting.{rest_over_zeros}
use Rattle.octets.proofs.reading.fill.Goals as goal

pub returns-then-at-s : goal.returns-then-at-s
returns-then-at-s c =
    let a = c.args in
    let n = length a.area.now in
    let z : c.fill.new.self ≡ zeros n = c.fill.ensures.after (λ y e. e) in
    let k : a.at + c.min-n.result - a.at ≡ c.min-n.result = omega arith in
    let m : c.min-n.result ≡ min n (length a.s.now - a.at) = c.min-n.ensures ∙ rw z (rw length-replicate) in
    c.paste.ensures ∙ rw (z, k) (rest_over_zeros a.s.now a.at n c.min-n.result (omega arith) m)

pub returns-else-at-s : goal.returns-else-at-s
returns-else-at-s c =
    let a = c.args in
    c.fill.ensures.after (λ y e. e) ∙ field_past a.s.now a.at (length a.area.now) c.if-at-s.false
