-- The bytes of a struct, piece by piece. Assumes nothing.
use mathlib.Core.Path.{◌≡◌, refl, sym, ap, ◌∙◌}
use mathlib.Core.List.{List, [], ◌∷◌, ◌++◌, append_assoc, append-nil}
use Prim.Native.Nat.{ℕ, ◌+◌, ◌≤◌, ◌<◌}
use native.Mathlib.Omega.{arith}
use lib.ListN.{length, get_or, take, drop, length-append, take-append-drop}
use Rattle.std.proofs.Common.{Bor, map}
use Rattle.std.proofs.lemmas.List.{take_more}
use Rattle.octets.specs.Bytes.{paste}
use Rattle.octets.proofs.Pasting.{take_pasted}
use Rattle.stores.specs.Fields.{joined}

joined-append : (fs gs : List (List ℕ)) → joined (fs ++ gs) ≡ joined fs ++ joined gs
joined-append [] gs = refl
joined-append (f ∷ fs) gs = rw (joined-append fs gs, append_assoc)

-- the pieces before the i-th, and it
module _ (fs : List (List ℕ)) (i : ℕ) (h : i < length fs) where
  joined_more : joined (take (i + 1) fs) ≡ joined (take i fs) ++ get_or fs i []
  joined_more = rw (take_more fs i [] h, joined-append, append-nil)

  joined_fits : length (joined (take (i + 1) fs)) ≤ length (joined fs)
  joined_fits =
      let e : joined fs ≡ joined (take (i + 1) fs) ++ joined (drop (i + 1) fs) =
      ap joined (sym (take-append-drop (i + 1) fs)) ∙ joined-append (take (i + 1) fs) (drop (i + 1) fs) in
      omega (arith, simp length-append at (ap length e))

  -- one piece more in front
  pub piece_laid : (at : ℕ) (s : List ℕ) → length (joined fs) ≡ length s → at ≡ length (joined (take i fs)) → take at s ≡ joined (take i fs)
      → (at + length (get_or fs i []) ≡ length (joined (take (i + 1) fs)))
      × (take (at + length (get_or fs i [])) (paste s at (get_or fs i [])) ≡ joined (take (i + 1) fs))
  piece_laid at s l a e =
      let f = get_or fs i [] in
      let n : at + length f ≡ length (joined (take (i + 1) fs)) = omega (arith, simp length-append at (ap length joined_more)) in
      let b = joined_fits in
      (n, take_pasted s at f (omega arith) ∙ ap (λ (t : List ℕ). t ++ f) e ∙ sym joined_more)

-- what references point to
abbrev pub pointed : List (Bor (List ℕ)) → List (List ℕ)
pointed ps = map (λ p. p.now) ps
