-- A padded text: whole blocks, longer than the text, bytes; the text's first block where it has one; byte by byte. Assumes nothing.
use Prim.Native.Nat.{ℕ, zero, suc, ◌+◌, ◌-◌, ◌*◌, ◌/◌, ◌%◌, ◌<◌, ◌≤◌}
use mathlib.Core.Path.{◌≡◌, refl, sym, ap, ◌∙◌}
use mathlib.Core.List.{List, [], ◌∷◌, ◌++◌}
use native.Mathlib.Omega.{arith}
use lib.ListN.{length, get_or, take, drop, replicate, get_or-append, length-append, length-replicate, length-drop, drop_of_length-le}
use lib.Seq.{take-append-le, drop-append-le, get_or_at, get_or-append-add}
use lib.Dec.{lit<}
use Rattle.des_spec.specs.Bits.{Bytes}
use Rattle.des_spec.specs.Modes.{blocks, rest, padded}
use Rattle.des_spec.proofs.Lists.{below_append, below_cons, below_replicate}

pub length-padded : (t : List ℕ) → length (padded t) ≡ 8 * suc (length t / 8)
unfolding padded
length-padded t = length-append t (0x80 ∷ replicate (7 - length t % 8) 0) ∙ omega (arith, length-replicate {A = ℕ} (7 - length t % 8) 0)

pub padded-whole : (t : List ℕ) → length (padded t) % 8 ≡ 0
padded-whole t = omega (arith, length-padded t)

pub padded_longer : (t : List ℕ) → length t + 1 ≤ length (padded t)
padded_longer t = omega (arith, length-padded t)

pub bytes-padded : (t : List ℕ) → Bytes t → Bytes (padded t)
unfolding padded
bytes-padded t b = below_append t b (below_cons (lit< tt) (below_replicate (7 - length t % 8) 0 (lit< tt)))

pub blocks-padded : (t : List ℕ) → blocks (padded t) ≡ suc (blocks t)
unfolding blocks
blocks-padded t = omega (arith, length-padded t)

pub blocks-drop : (t : List ℕ) → 8 ≤ length t → blocks t ≡ suc (blocks (drop 8 t))
unfolding blocks
blocks-drop t h = simp length-drop (omega arith)

pub blocks_short : (t : List ℕ) → length t < 8 → blocks t ≡ 0
unfolding blocks
blocks_short t h = omega arith

pub rest-padded : (t : List ℕ) → rest (padded t) ≡ []
unfolding rest
rest-padded t = drop_of_length-le (padded t) {i = 8 * blocks (padded t)} (unfold blocks in omega (arith, length-padded t))

pub take-padded : (t : List ℕ) → 8 ≤ length t → take 8 (padded t) ≡ take 8 t
unfolding padded
take-padded t h = take-append-le 8 t (0x80 ∷ replicate (7 - length t % 8) 0) h

pub drop-padded : (t : List ℕ) → 8 ≤ length t → drop 8 (padded t) ≡ padded (drop 8 t)
unfolding padded
drop-padded t h =
    let e : 7 - length t % 8 ≡ 7 - length (drop 8 t) % 8 = simp length-drop (omega arith) in
    drop-append-le 8 t (0x80 ∷ replicate (7 - length t % 8) 0) h ∙ ap (λ (n : ℕ). drop 8 t ++ (0x80 ∷ replicate n 0)) e

-- ---- the bytes of a padded text: the text's, 80, zeros
pub get_or-padded-text : (t : List ℕ) (i : ℕ) → i < length t → get_or (padded t) i 0 ≡ get_or t i 0
unfolding padded
get_or-padded-text t i h = get_or-append t (0x80 ∷ replicate (7 - length t % 8) 0) 0 i h

pub get_or-padded_mark : (t : List ℕ) (i : ℕ) → i ≡ length t → get_or (padded t) i 0 ≡ 0x80
unfolding padded
get_or-padded_mark t i e = get_or_at t 0x80 (replicate (7 - length t % 8) 0) 0 i (sym e)

get_or-zeros : (n i : ℕ) → ◌≡◌ {A = ℕ} (get_or (replicate n 0) i 0) 0
get_or-zeros zero i = refl
get_or-zeros (suc n) zero = refl
get_or-zeros (suc n) (suc i) = get_or-zeros n i

pub get_or-padded_zero : (t : List ℕ) (i : ℕ) → length t < i → get_or (padded t) i 0 ≡ 0
unfolding padded
get_or-padded_zero t i h =
    let p : List ℕ = 0x80 ∷ replicate (7 - length t % 8) 0 in
    let e : i ≡ length t + suc (i - length t - 1) = omega arith in
    ap (λ (m : ℕ). get_or (t ++ p) m 0) e ∙ get_or-append-add t p (suc (i - length t - 1)) 0 ∙ get_or-zeros (7 - length t % 8) (i - length t - 1)
