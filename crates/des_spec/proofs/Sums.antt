-- What is added modulo 2 twice is gone: of bits, of bytes and of lists of them. Assumes nothing.
use Prim.Native.Nat.{ℕ, zero, suc, ◌+◌, ◌*◌, ◌/◌, ◌%◌, ◌^◌, ◌<◌, ◌≤◌}
use mathlib.Core.Path.{◌≡◌, refl, sym, ap, ◌∙◌, subst}
use mathlib.Core.List.{List, [], ◌∷◌, zip_with}
use native.Mathlib.Nat.{not-suc-le-zero, le_of_suc-le-suc, pow-succ'}
use native.Mathlib.Omega.{arith}
use lib.ListN.{length, get_or}
use lib.Arith.{lt-one}
use lib.Bits.{bit_xor, differ, xor_step, xor_zero_r}
use Rattle.des_spec.specs.Bits.{Bits, Bytes, xor, xor_bytes}

pub zip_with_twice : (f : ℕ → ℕ → ℕ) (a b : List ℕ) → length a ≤ length b
    → ((k : ℕ) → f (f (get_or a k 0) (get_or b k 0)) (get_or b k 0) ≡ get_or a k 0)
    → zip_with f (zip_with f a b) b ≡ a
unfolding zip_with
zip_with_twice f [] b h e = refl
zip_with_twice f (x ∷ a) [] h e = absurd (not-suc-le-zero h)
zip_with_twice f (x ∷ a) (y ∷ b) h e =
    ap (λ (v : ℕ). v ∷ zip_with f (zip_with f a b) b) (e 0) ∙ ap (λ (l : List ℕ). x ∷ l) (zip_with_twice f a b (le_of_suc-le-suc h) (λ k. e (suc k)))

pub xor_twice : (a b : List ℕ) → Bits a → length a ≤ length b → xor (xor a b) b ≡ a
unfolding xor
xor_twice a b f h = zip_with_twice (λ (x y : ℕ). (x + y) % 2) a b h (λ k. omega (arith, f.at k))

-- two digits, 0 or 1
differ_lt : (x y : ℕ) → x < 2 → y < 2 → differ x y < 2
differ_lt zero y h g = g
differ_lt (suc zero) zero h g = h
differ_lt (suc zero) (suc y) h g = omega arith
differ_lt (suc (suc x)) y h g = absurd (omega arith)

differ_twice : (x y : ℕ) → x < 2 → y < 2 → differ (differ x y) y ≡ x
differ_twice zero zero h g = refl
differ_twice zero (suc zero) h g = refl
differ_twice (suc zero) zero h g = refl
differ_twice (suc zero) (suc zero) h g = refl
differ_twice zero (suc (suc y)) h g = absurd (omega arith)
differ_twice (suc zero) (suc (suc y)) h g = absurd (omega arith)
differ_twice (suc (suc x)) y h g = absurd (omega arith)

pub bit_xor_twice : (k x y : ℕ) → y < 2 ^ k → bit_xor (bit_xor x y) y ≡ x
bit_xor_twice zero x y h =
    subst (λ (z : ℕ). bit_xor (bit_xor x z) z ≡ x) (sym (lt-one h)) (xor_zero_r (bit_xor x 0) ∙ xor_zero_r x)
bit_xor_twice (suc k) x y h =
    let s : ℕ = bit_xor (x / 2) (y / 2) in
    let d : ℕ = differ (x % 2) (y % 2) in
    let l : d < 2 = differ_lt (x % 2) (y % 2) (omega arith) (omega arith) in
    let e : bit_xor x y ≡ s * 2 + d = xor_step x y in
    let p : bit_xor x y / 2 ≡ s = omega arith in
    let q : bit_xor x y % 2 ≡ d = omega arith in
    let g : y < 2 * 2 ^ k = subst (λ (n : ℕ). y < n) (pow-succ' 2 k) h in
    xor_step (bit_xor x y) y
    ∙ ap (λ (n : ℕ). bit_xor n (y / 2) * 2 + differ (bit_xor x y % 2) (y % 2)) p
    ∙ ap (λ (n : ℕ). n * 2 + differ (bit_xor x y % 2) (y % 2)) (bit_xor_twice k (x / 2) (y / 2) (omega arith))
    ∙ ap (λ (n : ℕ). x / 2 * 2 + differ n (y % 2)) q
    ∙ ap (λ (n : ℕ). x / 2 * 2 + n) (differ_twice (x % 2) (y % 2) (omega arith) (omega arith))
    ∙ omega arith

pub xor_bytes_twice : (a b : List ℕ) → Bytes b → length a ≤ length b → xor_bytes (xor_bytes a b) b ≡ a
unfolding xor_bytes
xor_bytes_twice a b g h = zip_with_twice bit_xor a b h (λ k. bit_xor_twice 8 (get_or a k 0) (get_or b k 0) (g.at k))
