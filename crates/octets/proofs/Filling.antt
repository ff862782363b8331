-- A loop that fills a list from the front, one store a turn, with the elements of a list that the contract names: `Filled t i out` says
-- that out is as long as t and that the first i elements of the two are the same. Assumes nothing.
use Prim.Native.Nat.{ℕ, ◌+◌, ◌<◌, ◌≤◌}
use mathlib.Core.Path.{◌≡◌, refl, sym, ap, ◌∙◌, subst}
use mathlib.Core.List.{List, [], ◌∷◌, ◌++◌}
use native.Mathlib.Numerals.{add-one}
use lib.ListN.{length, get_or, set, take, length-set}
use lib.Seq.{take-suc, take-suc-set, take_all}

pub record Filled {A : Type 0} (t : List A) (i : ℕ) (out : List A) : Type 0 where
  pub long : length out ≡ length t
  pub front : take i out ≡ take i t

module _ {A : Type 0} where
  pub fill_start : {t out : List A} → length out ≡ length t → Filled t 0 out
  fill_start e = record { long = e; front = refl }

  pub fill_step : {t out : List A} {i : ℕ} {v : A} (d : A) → Filled t i out → i < length t → v ≡ get_or t i d → Filled t (i + 1) (set out i v)
  fill_step {t} {out} {i} {v} d f h e =
      let g : i < length out = subst (λ (n : ℕ). i < n) (sym f.long) h in
      record {
        long = length-set out i v ∙ f.long;
        front =
            subst (λ (n : ℕ). take n (set out i v) ≡ take n t) (sym (add-one i))
            (take-suc-set out i v g ∙ ap (λ (l : List A). l ++ (v ∷ [])) f.front ∙ ap (λ (x : A). take i t ++ (x ∷ [])) e ∙ sym (take-suc t i d h));
      }

  pub fill_done : {t out : List A} {i : ℕ} → Filled t i out → length t ≤ i → out ≡ t
  fill_done {t} {out} {i} f h =
      sym (take_all i out (subst (λ (n : ℕ). n ≤ i) (sym f.long) h)) ∙ f.front ∙ take_all i t h
