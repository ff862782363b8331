-- The text of an R-MAC: pieces laid over an area one after the other, from its front on. It may be longer than a buffer. Assumes nothing.
use Prim.Native.Nat.{ℕ, ◌+◌, ◌≤◌}
use mathlib.Core.List.{List, [], ◌++◌}
use mathlib.Core.Path.{◌≡◌, refl, sym, ap, ◌∙◌}
use native.Mathlib.Omega.{arith}
use native.Mathlib.Nat.{zero-add}
use lib.ListN.{length, take, length-append}
use Rattle.octets.specs.Bytes.{paste}
use Rattle.octets.specs.Words.{word}
use Rattle.octets.specs.Buffers.{capacity}
use Rattle.octets.proofs.Pasting.{length-paste, paste-nothing, paste-next, take_pasted}

-- the area a is the area d with x, of n bytes, over its front
pub record Laid (d a x : List ℕ) (n : ℕ) : Type 0 where
  pub is : a ≡ paste d 0 x
  pub size : length x ≡ n
  pub fits : n ≤ length d

pub none_laid : (d : List ℕ) → Laid d d [] 0
none_laid d = record { is = sym (paste-nothing d 0); size = refl; fits = omega arith }

-- one piece p more, of m bytes
pub lay : {d a b x : List ℕ} {n : ℕ} (p : List ℕ) (m : ℕ) → b ≡ paste a n p → Laid d a x n → length p ≡ m → n + m ≤ length d → Laid d b (x ++ p) (n + m)
lay {d} {a} {b} {x} {n} p m e h l f =
    let k : length x ≡ n = h.size in
    record {
      is = e ∙ rw (h.is, ← k) (rw zero-add at (paste-next d 0 x (omega arith) p (omega arith)));
      size = length-append x p ∙ omega arith;
      fits = f;
    }

-- the area keeps its length, and its front is what was laid
pub laid_long : {d a x : List ℕ} {n : ℕ} → Laid d a x n → length a ≡ length d
laid_long {d} {a} {x} h = ap length h.is ∙ length-paste d 0 x

pub front : {d a x : List ℕ} {n : ℕ} → Laid d a x n → take n a ≡ x
front {d} {a} {x} {n} h =
    let k : length x ≡ n = h.size in
    let f : n ≤ length d = h.fits in
    rw (h.is, ← k) (rw zero-add at (take_pasted d 0 x (omega arith)))

-- the text of an R-MAC over an area: a C-MAC, data that a buffer has room for, 90 00
pub answer_laid : (d cmac body a1 a2 a3 : List ℕ) → length d ≡ 8 + capacity + 2 → length cmac ≡ 8 → length body ≤ capacity
    → a1 ≡ paste d 0 cmac → a2 ≡ paste a1 8 body → a3 ≡ paste a2 (8 + length body) (word 0x9000)
    → Laid d a3 (cmac ++ body ++ word 0x9000) (8 + length body + 2)
answer_laid d cmac body a1 a2 a3 l h f p q r =
    let s1 = lay cmac 8 p (none_laid d) h (omega arith) in
    let s2 = lay body (length body) q s1 refl (omega arith) in
    lay (word 0x9000) 2 r s2 refl (omega arith)
