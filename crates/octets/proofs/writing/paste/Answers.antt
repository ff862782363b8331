-- `paste`: what fits replaces the bytes from `at` on. Assumes nothing.
use Prim.Native.Nat.{◌+◌, ◌-◌}
use mathlib.Core.Path.{◌≡◌, refl, sym, ◌∙◌}
use native.Mathlib.Omega.{arith}
use lib.ListN.{length}
use lib.Seq.{take-length}
use Rattle.std.proofs.lemmas.Slice.{put_mid-paste}
use Rattle.octets.proofs.Pasting.{paste_fits, paste_past}
use Rattle.octets.proofs.writing.paste.Goals as goal
use Rattle.octets.proofs.writing.paste.Goals.{else-at-area-via-then-at-area+else-s-area, else-at-area-via-else-at-area}

pub returns-then-s-area : goal.returns-then-s-area
returns-then-s-area c =
    let a = c.args in
    let n = length a.s.now in
    let k : n ≡ a.at + n - a.at = omega arith in
    put_mid-paste a.at (a.at + n - a.at) a.area.now c.copy_from_slice.new.self a.s.now n c.copy_from_slice.ensures.after k refl
    ∙ rw take-length (sym (paste_fits a.area.now a.at a.s.now (omega arith)))

pub returns-else-at-area : goal.returns-else-at-area
returns-else-at-area c =
    let a = c.args in
    elim c.else-at-area.branch [
      | else-at-area-via-then-at-area+else-s-area w ↦ sym (paste_past a.area.now a.at a.s.now (omega arith))
      | else-at-area-via-else-at-area w ↦ sym (paste_past a.area.now a.at a.s.now (omega arith))
    ]
