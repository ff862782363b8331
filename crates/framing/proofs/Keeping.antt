-- Bytes that are moved to the front of their area. Assumes nothing.
use Prim.Native.Nat.{ℕ, ◌-◌, ◌≤◌, ◌<◌, min}
use mathlib.Core.List.{List, []}
use mathlib.Core.Path.{◌≡◌, refl, sym, ◌∙◌}
use native.Mathlib.Omega.{arith}
use native.Mathlib.Decide.{dec_le}
use native.Mathlib.Nat.{lt_of_not-le}
use lib.ListN.{length, drop, length-drop, drop_of_length-le}
use lib.Seq.{take-nil, take_all, get_or-drop, paste-suc, drop-paste}
use lib.Seq as seq
use Rattle.octets.specs.Bytes.{part, paste}
use Rattle.octets.proofs.Parts.{length_part}
use Rattle.octets.proofs.Pasting.{paste_fits, paste-nothing}
use Rattle.std.proofs.lemmas.List.{take_min}

module _ (a : List ℕ) (from to end : ℕ) (e : end ≡ min to (length a)) where
  nothing : end ≤ from → part a from (to - from) ≡ []
  nothing h = elim (dec_le to from) [ yes g ↦ short g | no g ↦ past (lt_of_not-le g) ]
    where
      short : to ≤ from → part a from (to - from) ≡ []
      short g = let z : to - from ≡ 0 = omega arith in rw z

      past : from < to → part a from (to - from) ≡ []
      past g = let l : length a ≤ from = omega arith in rw (drop_of_length-le a l) (take-nil (to - from))

  pub kept-none : end ≤ from → (0 ≡ length (part a from (to - from))) × (a ≡ paste a 0 (part a from (to - from)))
  kept-none h = rw (nothing h) (refl, sym (paste-nothing a 0))

  -- as many bytes as there are
  pub clipped : part a from (to - from) ≡ part a from (end - from)
  clipped =
      let n : end - from ≡ min (to - from) (length (drop from a)) = omega (arith, length-drop from a) in
      sym (rw n (take_min (to - from) (drop from a)))

  pub kept-all : (n : ℕ) (x : List ℕ) → n ≡ end - from → from < end → x ≡ seq.paste a 0 (drop from a) n
      → (n ≡ length (part a from (to - from))) × (x ≡ paste a 0 (part a from (to - from)))
  kept-all n x f g p =
      let k : length (part a from n) ≡ n = length_part a from n (omega arith) in
      rw (clipped, ← f) (sym k, p ∙ sym (rw k at (paste_fits a 0 (part a from n) (omega arith))))
