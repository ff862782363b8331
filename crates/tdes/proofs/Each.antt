-- The blocks of a text in place, each by the cipher of its number: after i of them the text is what they became, and then what it was.
-- Assumes nothing.
use Prim.Native.Nat.{ℕ, zero, suc, ◌+◌, ◌*◌, ◌/◌, ◌<◌, ◌≤◌}
use mathlib.Core.Path.{◌≡◌, refl, sym, ap, ◌∙◌, subst}
use mathlib.Core.List.{List, ◌++◌, append-nil, append_assoc}
use native.Mathlib.Nat.{add-zero, suc-add, add-suc, zero-add}
use native.Mathlib.Numerals.{add-one}
use native.Mathlib.Omega.{arith}
use lib.ListN.{length, take, drop, length-append, length-drop}
use lib.Seq.{take_at, drop_at, drop-drop}
use Rattle.octets.specs.Bytes.{field, paste}
use Rattle.octets.proofs.Parts.{field-part}
use Rattle.octets.proofs.Pasting.{paste_fits}
use Rattle.des_spec.specs.Modes.{blocks, rest}
use Rattle.tdes.specs.Single.{each, each_text}
use Rattle.tdes.proofs.InPlace.{drop_block, after_block}

module _ (f : ℕ → List ℕ → List ℕ) (long : (i : ℕ) (b : List ℕ) → length (f i b) ≡ 8) where
  length-each : (i n : ℕ) (t : List ℕ) → length (each f i n t) ≡ 8 * n
  unfolding each
  length-each i zero t = refl
  length-each i (suc n) t = length-append (f i (take 8 t)) (each f (suc i) n (drop 8 t)) ∙ omega (arith, long i (take 8 t), length-each (suc i) n (drop 8 t))

  pub length-each_text : (t : List ℕ) → length (each_text f t) ≡ length t
  unfolding each_text rest blocks
  length-each_text t =
      length-append (each f 0 (length t / 8) t) (drop (8 * (length t / 8)) t)
      ∙ omega (arith, length-each 0 (length t / 8) t, length-drop (8 * (length t / 8)) t)

  -- one block more
  each_next : (i n : ℕ) (t : List ℕ) → each f i (suc n) t ≡ each f i n t ++ f (i + n) (take 8 (drop (8 * n) t))
  unfolding each
  each_next i zero t = append-nil (f i (take 8 t)) ∙ ap (λ (k : ℕ). f k (take 8 t)) (sym (add-zero i))
  each_next i (suc n) t =
      let b = f i (take 8 t) in
      let y = each f (suc i) n (drop 8 t) in
      ap (λ (l : List ℕ). b ++ l) (each_next (suc i) n (drop 8 t))
      ∙ sym (append_assoc b y (f (suc i + n) (take 8 (drop (8 * n) (drop 8 t)))))
      ∙ ap (λ (l : List ℕ). (b ++ y) ++ f (suc i + n) (take 8 l)) (drop_block n t)
      ∙ ap (λ (k : ℕ). (b ++ y) ++ f k (take 8 (drop (8 * suc n) t))) (suc-add i n ∙ sym (add-suc i n))

pub record Done (f : ℕ → List ℕ → List ℕ) (t₀ : List ℕ) (i : ℕ) (t : List ℕ) : Type 0 where
  pub text : t ≡ each f 0 i t₀ ++ drop (8 * i) t₀
  pub long : length t ≡ length t₀
  pub most : i ≤ length t₀ / 8

pub first : (f : ℕ → List ℕ → List ℕ) (t : List ℕ) → Done f t 0 t
unfolding each
first f t = record { text = refl; long = refl; most = omega arith }

module _ (f : ℕ → List ℕ → List ℕ) (long : (i : ℕ) (b : List ℕ) → length (f i b) ≡ 8) {t₀ : List ℕ} {i : ℕ} {t : List ℕ} (p : Done f t₀ i t) where
  -- b is the block that is read, c what is put in its place, and y the text after that
  pub turn : {b c y : List ℕ} → i < length t₀ / 8 → b ≡ field t (8 * i) 8 → c ≡ f i b → y ≡ paste t (8 * i) c → Done f t₀ (i + 1) y
  turn {b} {c} {y} h eb ec ey =
      let lc : length c ≡ 8 = ap length ec ∙ long i b in
      let a = 8 * i in
      let j = 8 * suc i in
      let x = each f 0 i t₀ in
      let l : length t ≡ length t₀ = p.long in
      let lx : length x ≡ a = length-each f long 0 i t₀ in
      let before : take a t ≡ x = ap (take a) p.text ∙ take_at x (drop a t₀) a lx in
      let left : drop a t ≡ drop a t₀ = ap (drop a) p.text ∙ drop_at x (drop a t₀) a lx in
      let block : b ≡ take 8 (drop a t₀) = eb ∙ field-part t a 8 (omega arith) ∙ ap (take 8) left in
      let here : c ≡ f (0 + i) (take 8 (drop a t₀)) = ec ∙ ap (f i) block ∙ ap (λ (k : ℕ). f k (take 8 (drop a t₀))) (sym (zero-add i)) in
      let behind : drop (a + length c) t ≡ drop j t₀ = rw lc (sym (drop-drop 8 a t) ∙ ap (drop 8) left ∙ after_block i t₀) in
      let all : y ≡ each f 0 (suc i) t₀ ++ drop j t₀ =
      ey
      ∙ paste_fits t a c (omega arith)
      ∙ (λ k. (before k ++ here k) ++ behind k)
      ∙ ap (λ (z : List ℕ). z ++ drop j t₀) (sym (each_next f long 0 i t₀)) in
      subst (λ (n : ℕ). Done f t₀ n y) (sym (add-one i))
      record {
        text = all;
        long =
            ap length all
            ∙ length-append (each f 0 (suc i) t₀) (drop j t₀)
            ∙ omega (arith, length-each f long 0 (suc i) t₀, length-drop j t₀);
        most = h;
      }

  pub last : length t₀ / 8 ≤ i → t ≡ each_text f t₀
  unfolding each_text rest blocks
  last h =
      let e : i ≡ length t₀ / 8 = omega (arith, p.most) in
      p.text ∙ ap (λ (n : ℕ). each f 0 n t₀ ++ drop (8 * n) t₀) e
