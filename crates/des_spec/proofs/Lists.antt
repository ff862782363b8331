-- Lists in general: the elements of what `map` and `zip_with` make, parts of a list, and bounds on the elements. Assumes nothing.
use Prim.Native.Nat.{ℕ, zero, suc, ◌+◌, ◌<◌, ◌≤◌, zero-le, suc-le-suc}
use mathlib.Core.Path.{◌≡◌, refl, ap, ◌∙◌, subst}
use mathlib.Core.List.{List, [], ◌∷◌, ◌++◌, map, zip_with}
use mathlib.Core.Logic.{◌⊎◌, inl, inr, ⊎_elim}
use native.Mathlib.Nat.{not-suc-le-zero, le_of_suc-le-suc}
use native.Mathlib.Omega.{arith}
use lib.ListN.{length, get_or, take, drop, length-take, length-drop, replicate, get_or-eq_default}
use lib.Seq.{get_or-take, get_or-drop, drop-cons}
use Rattle.des_spec.specs.Bits.{Below}

pub lt_or_ge : (a b : ℕ) → (a < b) ⊎ (b ≤ a)
lt_or_ge a zero = inr zero-le
lt_or_ge zero (suc b) = inl (suc-le-suc zero-le)
lt_or_ge (suc a) (suc b) = ⊎_elim (λ h. inl (suc-le-suc h)) (λ h. inr (suc-le-suc h)) (lt_or_ge a b)

pub get_d_map : {A B : Type 0} (f : A → B) (l : List A) (n : ℕ) (d : A) (e : B) → n < length l → get_or (map f l) n e ≡ f (get_or l n d)
get_d_map f [] n d e h = absurd (not-suc-le-zero h)
get_d_map f (x ∷ l) zero d e h = refl
get_d_map f (x ∷ l) (suc n) d e h = get_d_map f l n d e (le_of_suc-le-suc h)

-- what is below a bound stays below it
module _ {m : ℕ} where
  pub below_cons : {x : ℕ} {l : List ℕ} → x < m → Below m l → Below m (x ∷ l)
  below_cons {x} {l} h b = record { at = go }
    where
      go : (k : ℕ) → get_or (x ∷ l) k 0 < m
      go zero = h
      go (suc k) = b.at k

  pub below_head : {x : ℕ} {l : List ℕ} → Below m (x ∷ l) → x < m
  below_head b = b.at 0

  pub below_tail : {x : ℕ} {l : List ℕ} → Below m (x ∷ l) → Below m l
  below_tail b = record { at = λ k. b.at (suc k) }

  pub below_nil : {l : List ℕ} → Below m l → Below m []
  below_nil {l} b = record { at = λ k. subst (λ (x : ℕ). x < m) (get_or-eq_default l 0 (omega arith)) (b.at (length l)) }

  pub below_replicate : (n x : ℕ) → x < m → Below m (replicate n x)
  below_replicate zero x h = record { at = λ k. omega arith }
  below_replicate (suc n) x h = below_cons h (below_replicate n x h)

  pub below_append : (a : List ℕ) {b : List ℕ} → Below m a → Below m b → Below m (a ++ b)
  below_append [] f g = g
  below_append (x ∷ a) f g = below_cons (below_head f) (below_append a (below_tail f) g)

  pub below_drop : (n : ℕ) {l : List ℕ} → Below m l → Below m (drop n l)
  below_drop n b = record { at = λ k. rw get_or-drop (b.at (n + k)) }

  pub below_take : (n : ℕ) (l : List ℕ) → Below m l → Below m (take n l)
  below_take zero l b = below_nil b
  below_take (suc n) [] b = b
  below_take (suc n) (x ∷ l) b = below_cons (below_head b) (below_take n l (below_tail b))

module _ (f : ℕ → ℕ → ℕ) where
  pub length-zip_with : (a b : List ℕ) → length a ≤ length b → length (zip_with f a b) ≡ length a
  unfolding zip_with
  length-zip_with [] b h = refl
  length-zip_with (x ∷ a) [] h = absurd (not-suc-le-zero h)
  length-zip_with (x ∷ a) (y ∷ b) h = ap suc (length-zip_with a b (le_of_suc-le-suc h))

  pub get_or-zip_with : (a b : List ℕ) (k : ℕ) → k < length a → k < length b → get_or (zip_with f a b) k 0 ≡ f (get_or a k 0) (get_or b k 0)
  unfolding zip_with
  get_or-zip_with [] b k h g = absurd (not-suc-le-zero h)
  get_or-zip_with (x ∷ a) [] k h g = absurd (not-suc-le-zero g)
  get_or-zip_with (x ∷ a) (y ∷ b) zero h g = refl
  get_or-zip_with (x ∷ a) (y ∷ b) (suc k) h g = get_or-zip_with a b k (le_of_suc-le-suc h) (le_of_suc-le-suc g)

  pub below_zip_with : {m : ℕ} (a b : List ℕ) → 0 < m → ((k : ℕ) → f (get_or a k 0) (get_or b k 0) < m) → Below m (zip_with f a b)
  unfolding zip_with
  below_zip_with [] b z h = record { at = λ k. z }
  below_zip_with (x ∷ a) [] z h = record { at = λ k. z }
  below_zip_with (x ∷ a) (y ∷ b) z h = below_cons (h 0) (below_zip_with a b z (λ j. h (suc j)))

-- n elements from a place on
pub length_part : (l : List ℕ) (from n : ℕ) → from + n ≤ length l → length (take n (drop from l)) ≡ n
length_part l from n h = simp (length-take, length-drop) (omega arith)

pub get_d_part : (l : List ℕ) (from n i : ℕ) → i < n → get_or (take n (drop from l)) i 0 ≡ get_or l (from + i) 0
get_d_part l from n i h = get_or-take n (drop from l) i 0 h ∙ get_or-drop from l i 0

-- the same, written out
abbrev pub elements : List ℕ → ℕ → ℕ → List ℕ
elements l i zero = []
elements l i (suc n) = get_or l i 0 ∷ elements l (suc i) n

pub of_elements : (l : List ℕ) (i n : ℕ) → i + n ≤ length l → take n (drop i l) ≡ elements l i n
of_elements l i zero h = refl
of_elements l i (suc n) h =
    let g : i < length l = omega arith in
    let k : suc i + n ≤ length l = omega arith in
    ap (take (suc n)) (drop-cons l i 0 g) ∙ ap (λ (t : List ℕ). get_or l i 0 ∷ t) (of_elements l (suc i) n k)
