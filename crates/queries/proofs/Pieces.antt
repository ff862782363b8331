-- A buffer of three pieces, and one of a length and as many bytes. Assumes nothing.
use Prim.Native.Nat.{ℕ, ◌+◌, ◌≤◌}
use mathlib.Core.List.{List, [], ◌∷◌, ◌++◌, append_assoc}
use mathlib.Core.Path.{◌≡◌, ap, ◌∙◌}
use native.Mathlib.Omega.{arith}
use lib.ListN.{length, length-append}
use Rattle.octets.specs.declared.buffer.Buffer.{Buffer}
use Rattle.octets.specs.Buffers.{content, holding, appended}
use Rattle.octets.proofs.Holding.{of_piece, content-holding, appended-holding}

two : (x y : List ℕ) → length x + length y ≤ 128 → appended (appended (holding []) x) y ≡ holding (x ++ y)
two x y h = ap (λ (b : Buffer). appended b y) (of_piece x (omega arith)) ∙ appended-holding x y h

pub three : (x y z : List ℕ) → length x + length y + length z ≤ 128 → appended (appended (appended (holding []) x) y) z ≡ holding (x ++ (y ++ z))
three x y z h =
    ap (λ (b : Buffer). appended b z) (two x y (omega arith))
    ∙ appended-holding (x ++ y) z (rw length-append h)
    ∙ ap holding (append_assoc x y z)

-- what a buffer holds, behind its length
pub measured : (x : List ℕ) → length x ≤ 127 → appended (appended (holding []) (length (content (holding x)) ∷ [])) (content (holding x)) ≡ holding (length x ∷ x)
measured x h = rw (content-holding x) (two (length x ∷ []) x (omega arith))
