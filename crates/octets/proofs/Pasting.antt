-- One byte string over another: what is left as it was, what is new, and two pieces in a row. Assumes nothing.
use Prim.Native.Nat.{ℕ, ◌+◌, ◌-◌, ◌≤◌, ◌<◌, min}
use mathlib.Core.Path.{◌≡◌, refl, sym, ap, ◌∙◌}
use mathlib.Core.List.{List, [], ◌++◌, append-nil, append_assoc}
use native.Mathlib.Omega.{arith}
use native.Mathlib.Decide.{dec_le}
use native.Mathlib.Nat.{lt_of_not-le, zero-add, add-zero}
use borrow.Author.Tests.{le-leb, lt-leb}
use lib.ListN.{length, take, drop, length-append, length-drop, length-replicate, drop_of_length-le, take-append-drop}
use lib.Seq.{take_at, take_all, drop_at, drop-drop, length-take-le, sets, sets-eq}
use Rattle.octets.specs.Bytes.{zeros, part, field, paste}
use Rattle.octets.proofs.Parts.{length_part, field-part, part-between, field_end, drop-zeros}

pub paste_fits : (d : List ℕ) (at : ℕ) (s : List ℕ) → at + length s ≤ length d → paste d at s ≡ take at d ++ s ++ drop (at + length s) d
unfolding paste
paste_fits d at s h = rw (le-leb (at + length s) (length d) h)

pub paste_past : (d : List ℕ) (at : ℕ) (s : List ℕ) → length d < at + length s → paste d at s ≡ d
unfolding paste
paste_past d at s h = rw (lt-leb (at + length s) (length d) h)

-- two strings with the same end from n on have the same end from i on
drops : (a b : List ℕ) (n i : ℕ) → n ≤ i → drop n a ≡ drop n b → drop i a ≡ drop i b
drops a b n i h e =
    let j : n + (i - n) ≡ i = omega arith in
    rw (← j, ← drop-drop (i - n) n a, e, drop-drop (i - n) n b)

-- store by store
pub paste_sets : (d : List ℕ) (at : ℕ) (s : List ℕ) → at + length s ≤ length d → sets d at s ≡ paste d at s
paste_sets d at s h = sets-eq s d at h ∙ sym (paste_fits d at s h)

pub length-paste : (d : List ℕ) (at : ℕ) (s : List ℕ) → length (paste d at s) ≡ length d
length-paste d at s = elim (dec_le (at + length s) (length d)) [ yes h ↦ fits h | no h ↦ ap length (paste_past d at s (lt_of_not-le h)) ]
  where
    fits : at + length s ≤ length d → length (paste d at s) ≡ length d
    fits h =
        rw (paste_fits d at s h, length-append, length-append, length-take-le at d (omega arith), length-drop)
        (omega arith)

-- over the front, over the whole, and nothing over anything
pub paste_front : (d s : List ℕ) → length s ≤ length d → paste d 0 s ≡ s ++ drop (length s) d
paste_front d s h = paste_fits d 0 s (omega arith) ∙ rw zero-add

pub paste-whole : (d s : List ℕ) → length s ≡ length d → paste d 0 s ≡ s
paste-whole d s e =
    let h : length d ≤ length s = omega arith in
    paste_front d s (omega arith) ∙ rw (drop_of_length-le d h) (append-nil s)

-- over zeros: what a string has from an index on, where it ends first
pub paste-field : (s : List ℕ) (at n : ℕ) → at ≤ length s → length s - at ≤ n → paste (zeros n) 0 (drop at s) ≡ field s at n
paste-field s at n h k =
    let l : length (drop at s) ≡ length s - at = length-drop at s in
    let g : length (drop at s) ≤ length (zeros n) = rw (length-replicate {A = ℕ} n 0) (omega arith) in
    paste_front (zeros n) (drop at s) g ∙ rw (l, drop-zeros n (length s - at) k) (field_end s at n h k)

-- as much of the rest as there is room for, over zeros
pub rest_over_zeros : (s : List ℕ) (at n m : ℕ) → at ≤ length s → m ≡ min n (length s - at) → paste (zeros n) 0 (take m (drop at s)) ≡ field s at n
rest_over_zeros s at n m h e = elim (dec_le n (length s - at)) [ yes g ↦ inside g | no g ↦ over (lt_of_not-le g) ]
  where
    inside : n ≤ length s - at → paste (zeros n) 0 (take m (drop at s)) ≡ field s at n
    inside g =
        let k : m ≡ n = omega arith in
        let l : length (part s at n) ≡ n = length_part s at n (omega arith) in
        rw k (paste-whole (zeros n) (part s at n) (l ∙ sym (length-replicate {A = ℕ} n 0)))
        ∙ sym (field-part s at n (omega arith))

    over : length s - at < n → paste (zeros n) 0 (take m (drop at s)) ≡ field s at n
    over g = rw (take_all m (drop at s) (rw length-drop (omega arith))) (paste-field s at n h (omega arith))

pub paste-nothing : (d : List ℕ) (at : ℕ) → paste d at [] ≡ d
paste-nothing d at = elim (dec_le (at + 0) (length d)) [ yes h ↦ fits h | no h ↦ paste_past d at [] (lt_of_not-le h) ]
  where
    fits : at + 0 ≤ length d → paste d at [] ≡ d
    fits h = paste_fits d at [] h ∙ rw (append-nil, add-zero) (take-append-drop at d)

module _ (d : List ℕ) (at : ℕ) (s : List ℕ) (h : at + length s ≤ length d) where
  front_length : length (take at d) ≡ at
  front_length = length-take-le at d (omega arith)

  head-length : length (take at d ++ s) ≡ at + length s
  head-length = length-append (take at d) s ∙ ap (λ (n : ℕ). n + length s) front_length

  split : paste d at s ≡ take at d ++ (s ++ drop (at + length s) d)
  split = paste_fits d at s h ∙ append_assoc (take at d) s (drop (at + length s) d)

  -- up to the piece's end, and after it
  pub take_pasted : take (at + length s) (paste d at s) ≡ take at d ++ s
  take_pasted =
      ap (take (at + length s)) (paste_fits d at s h)
      ∙ take_at (take at d ++ s) (drop (at + length s) d) (at + length s) head-length

  pub drop_pasted : drop (at + length s) (paste d at s) ≡ drop (at + length s) d
  drop_pasted =
      ap (drop (at + length s)) (paste_fits d at s h)
      ∙ drop_at (take at d ++ s) (drop (at + length s) d) (at + length s) head-length

  -- what was pasted is read
  pub part_pasted : part (paste d at s) at (length s) ≡ s
  part_pasted = rw split (part-between (take at d) s (drop (at + length s) d) at (length s) front_length refl)

  -- a second piece right after the first
  pub paste-next : (t : List ℕ) → at + length s + length t ≤ length d → paste (paste d at s) (at + length s) t ≡ paste d at (s ++ t)
  paste-next t k =
      let f : at + length s + length t ≤ length (paste d at s) = rw length-paste k in
      let e : at + length s + length t ≡ at + length (s ++ t) = rw length-append (omega arith) in
      let g : at + length (s ++ t) ≤ length d = omega arith in
      let a = drops (paste d at s) d (at + length s) (at + length s + length t) (omega arith) drop_pasted in
      paste_fits (paste d at s) (at + length s) t f
      ∙ rw (take_pasted, a, e, append_assoc (take at d) s t) (sym (paste_fits d at (s ++ t) g))
