-- Bytes in hex, two digits a byte, as they are put in the output. Assumes nothing.
use Prim.Native.Nat.{ℕ, ◌+◌, ◌*◌, ◌≤◌, ◌<◌}
use mathlib.Core.List.{List, [], ◌∷◌, ◌++◌, append_assoc}
use mathlib.Core.Path.{◌≡◌, refl, ◌∙◌}
use native.Mathlib.Numerals.{add-one}
use native.Mathlib.Omega.{arith}
use lib.ListN.{length, take, length-append}
use lib.Seq.{take-suc, length-take-le}
use Rattle.octets.specs.Bytes.{byte_at}
use Rattle.framing.specs.declared.output.Output.{Output}
use Rattle.framing.specs.Step.{PutsBehind}
use Rattle.framing.proofs.Putting.{puts_next}
use Rattle.bench_file.specs.Kinds.{area_size}
use Rattle.bench_file.specs.Lines.{hex_pair, hex, response_line}
use Rattle.bench_file.specs.Stream.{longest_line}

hex-append : (a b : List ℕ) → hex (a ++ b) ≡ hex a ++ hex b
unfolding hex
hex-append [] b = refl
hex-append (x ∷ a) b = rw (hex-append a b)

pub length-hex : (a : List ℕ) → length (hex a) ≡ 2 * length a
unfolding hex
length-hex [] = refl
length-hex (x ∷ a) = let h = length-hex a in omega arith

-- one byte more
hex-more : (x : List ℕ) (i : ℕ) → i < length x → hex (take (i + 1) x) ≡ hex (take i x) ++ hex_pair (byte_at x i)
unfolding hex
hex-more x i h = rw (add-one, take-suc x i 0 h, hex-append)

-- two digits more
pub hex_step : (x : List ℕ) (i : ℕ) (o p q : Output) → i < length x → o.written + 2 * length x ≤ length o.area.now → PutsBehind (hex (take i x)) o p
    → (p.written + 2 ≤ length p.area.now → PutsBehind (hex_pair (byte_at x i)) p q) → PutsBehind (hex (take (i + 1) x)) o q
hex_step x i o p q h l e f =
    let n : length (hex (take i x)) ≡ 2 * i = length-hex (take i x) ∙ rw (length-take-le i x (omega arith)) in
    rw (hex-more x i h) (puts_next (hex (take i x)) (hex_pair (byte_at x i)) o p q (omega arith) e f)

-- "C 0" and the response, in three pieces
pub response-put : (x : List ℕ) (o p q r : Output) → length x ≤ area_size → o.written + longest_line ≤ length o.area.now
    → PutsBehind (0x43 ∷ 0x20 ∷ 0x30 ∷ 0x20 ∷ []) o p → PutsBehind (hex x) p q
    → (q.written + 1 ≤ length q.area.now → PutsBehind (0x0A ∷ []) q r) → PutsBehind (response_line x) o r
unfolding response_line
response-put x o p q r l h e f g =
    let front : List ℕ = 0x43 ∷ 0x20 ∷ 0x30 ∷ 0x20 ∷ [] in
    let n = length-hex x in
    let m : length (front ++ hex x) ≡ 4 + 2 * length x = rw length-append (omega arith) in
    let two : PutsBehind (front ++ hex x) o q = puts_next front (hex x) o p q (omega arith) e (λ w. f) in
    rw (← append_assoc front (hex x) (0x0A ∷ [])) (puts_next (front ++ hex x) (0x0A ∷ []) o q r (omega arith) two g)
