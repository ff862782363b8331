-- Fields of fixed widths: put together and taken apart again, and where they lie. Assumes nothing.
use Prim.Native.Nat.{ℕ, zero, suc, ◌+◌, ◌≤◌, ◌<◌}
use mathlib.Core.Path.{◌≡◌, refl, ap, ◌∙◌}
use mathlib.Core.List.{List, [], ◌∷◌}
use native.Mathlib.Omega.{arith}
use lib.ListN.{length, get_or, take, drop, length-append}
use lib.Seq.{take_at, drop_at, drop-drop}
use Rattle.octets.specs.Bytes.{part}
use Rattle.stores.specs.Fields.{total, offset, fields, joined, Fit}

pub joined_length : (ws : List ℕ) (fs : List (List ℕ)) → Fit ws fs → length (joined fs) ≡ total ws
joined_length [] [] h = refl
joined_length [] (f ∷ fs) h = absurd h
joined_length (w ∷ ws) [] h = absurd h
joined_length (w ∷ ws) (f ∷ fs) h = let i = joined_length ws fs h.1 in let e = h.0 in omega (arith, length-append f (joined fs))

-- put together and taken apart again
pub fields-joined : (ws : List ℕ) (fs : List (List ℕ)) → Fit ws fs → fields ws (joined fs) ≡ fs
fields-joined [] [] h = refl
fields-joined [] (f ∷ fs) h = absurd h
fields-joined (w ∷ ws) [] h = absurd h
fields-joined (w ∷ ws) (f ∷ fs) h = rw (take_at f (joined fs) w h.0, drop_at f (joined fs) w h.0, fields-joined ws fs h.1)

pub offset_fits : (ws : List ℕ) (k : ℕ) → offset ws k + get_or ws k 0 ≤ total ws
offset_fits [] k = omega arith
offset_fits (w ∷ ws) zero = omega arith
offset_fits (w ∷ ws) (suc k) = let i = offset_fits ws k in omega arith

-- field k is the part at its offset
pub fields_at : (ws block : List ℕ) (k : ℕ) → k < length ws → get_or (fields ws block) k [] ≡ part block (offset ws k) (get_or ws k 0)
fields_at [] block k h = absurd (omega arith)
fields_at (w ∷ ws) block zero h = refl
fields_at (w ∷ ws) block (suc k) h = fields_at ws (drop w block) k (omega arith) ∙ ap (take (get_or ws k 0)) (drop-drop (offset ws k) w block)
