-- What stands at each place of the lists of the definitions. Assumes nothing.
use Prim.Native.Nat.{ℕ, zero, suc, ◌+◌, ◌-◌, ◌*◌, ◌/◌, ◌%◌, ◌^◌, ◌<◌}
use mathlib.Core.Path.{◌≡◌, sym, ap, ◌∙◌, subst}
use mathlib.Core.List.{List, [], ◌∷◌, ◌++◌}
use native.Mathlib.Nat.{not-suc-le-zero, le_of_suc-le-suc, mul-suc, mul-zero, mul_comm, zero-add, add_comm, add_assoc, div-add-mod, mod-lt, div-lt_iff_lt-mul}
use native.Mathlib.Omega.{arith}
use lib.ListN.{length, get_or, take, drop, get_or-append}
use lib.Seq.{get_or-append-add, drop-drop}
use lib.Dec.{lit<}
use lib.Bits.{bit_xor}
use Rattle.des_spec.specs.Bits.{binary, number, binaries, parts, bits_of, bytes_of, xor, xor_bytes}
use Rattle.des_spec.specs.Des.{permute}
use Rattle.des_spec.proofs.Lists.{get_d_map, get_or-zip_with}
use Rattle.des_spec.proofs.Lengths.{length-binary, length-parts}

pub get_or-binary : (n v r : ℕ) → r < n → get_or (binary n v) r 0 ≡ v / 2 ^ (n - 1 - r) % 2
unfolding binary
get_or-binary zero v r h = absurd (not-suc-le-zero h)
get_or-binary (suc n) v zero h =
    let e : n ≡ suc n - 1 - 0 = omega arith in
    ap (λ (m : ℕ). v / 2 ^ m % 2) e
get_or-binary (suc n) v (suc r) h =
    let e : n - 1 - r ≡ suc n - 1 - suc r = omega arith in
    get_or-binary n v r (le_of_suc-le-suc h) ∙ ap (λ (m : ℕ). v / 2 ^ m % 2) e

-- bit r of number q
pub get_or-binaries : (n : ℕ) (vs : List ℕ) (q r : ℕ) → q < length vs → r < n → get_or (binaries n vs) (n * q + r) 0 ≡ get_or vs q 0 / 2 ^ (n - 1 - r) % 2
unfolding binaries
get_or-binaries n [] q r h g = absurd (not-suc-le-zero h)
get_or-binaries n (v ∷ vs) zero r h g =
    ap (λ (m : ℕ). get_or (binary n v ++ binaries n vs) m 0) (ap (λ (m : ℕ). m + r) (mul-zero n) ∙ zero-add r)
    ∙ get_or-append (binary n v) (binaries n vs) 0 r (subst (λ (m : ℕ). r < m) (sym (length-binary n v)) g)
    ∙ get_or-binary n v r g
get_or-binaries n (v ∷ vs) (suc q) r h g =
    let e : n * suc q + r ≡ length (binary n v) + (n * q + r) =
    ap (λ (m : ℕ). m + r) (mul-suc n q ∙ add_comm (n * q) n) ∙ add_assoc n (n * q) r ∙ ap (λ (m : ℕ). m + (n * q + r)) (sym (length-binary n v)) in
    ap (λ (m : ℕ). get_or (binary n v ++ binaries n vs) m 0) e
    ∙ get_or-append-add (binary n v) (binaries n vs) (n * q + r) 0
    ∙ get_or-binaries n vs q r (le_of_suc-le-suc h) g

-- bit i of all the numbers
pub get_or_spread : (n : ℕ) (vs : List ℕ) (i : ℕ) → 0 < n → i < n * length vs → get_or (binaries n vs) i 0 ≡ get_or vs (i / n) 0 / 2 ^ (n - 1 - i % n) % 2
get_or_spread n vs i h g =
    let q : i / n < length vs = (div-lt_iff_lt-mul h).1 (subst (λ (m : ℕ). i < m) (mul_comm n (length vs)) g) in
    ap (λ (m : ℕ). get_or (binaries n vs) m 0) (sym (div-add-mod i n)) ∙ get_or-binaries n vs (i / n) (i % n) q (mod-lt i h)

pub get_or-bits_of : (l : List ℕ) (i : ℕ) → i < 8 * length l → get_or (bits_of l) i 0 ≡ get_or l (i / 8) 0 / 2 ^ (7 - i % 8) % 2
unfolding bits_of
get_or-bits_of l i h = get_or_spread 8 l i (lit< tt) h

pub get_or-parts : (n w : ℕ) (l : List ℕ) (i : ℕ) → i < n → get_or (parts n w l) i [] ≡ take w (drop (w * i) l)
unfolding parts
get_or-parts zero w l i h = absurd (not-suc-le-zero h)
get_or-parts (suc n) w l zero h = ap (λ (m : ℕ). take w (drop m l)) (sym (mul-zero w))
get_or-parts (suc n) w l (suc i) h =
    get_or-parts n w (drop w l) i (le_of_suc-le-suc h)
    ∙ ap (take w) (drop-drop (w * i) w l ∙ ap (λ (m : ℕ). drop m l) (add_comm w (w * i) ∙ sym (mul-suc w i)))

pub get_or-bytes_of : (n : ℕ) (l : List ℕ) (i : ℕ) → i < n → get_or (bytes_of n l) i 0 ≡ number (take 8 (drop (8 * i) l))
unfolding bytes_of
get_or-bytes_of n l i h =
    get_d_map number (parts n 8 l) i [] 0 (subst (λ (m : ℕ). i < m) (sym (length-parts n 8 l)) h) ∙ ap number (get_or-parts n 8 l i h)

pub get_or-xor : (a b : List ℕ) (k : ℕ) → k < length a → k < length b → get_or (xor a b) k 0 ≡ (get_or a k 0 + get_or b k 0) % 2
unfolding xor
get_or-xor a b k h g = get_or-zip_with (λ (x y : ℕ). (x + y) % 2) a b k h g

pub get_or-xor_bytes : (a b : List ℕ) (k : ℕ) → k < length a → k < length b → get_or (xor_bytes a b) k 0 ≡ bit_xor (get_or a k 0) (get_or b k 0)
unfolding xor_bytes
get_or-xor_bytes a b k h g = get_or-zip_with bit_xor a b k h g

pub get_or-permute : (t l : List ℕ) (k : ℕ) → k < length t → get_or (permute t l) k 0 ≡ get_or l (get_or t k 0 - 1) 0
unfolding permute
get_or-permute t l k h = get_d_map (λ (i : ℕ). get_or l (i - 1) 0) t k 0 0 h
