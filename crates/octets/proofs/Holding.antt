-- What a buffer holds after each piece. Assumes nothing.
use Prim.Native.Nat.{ℕ, ◌+◌, ◌-◌, ◌≤◌, ◌<◌}
use mathlib.Core.List.{List, [], ◌++◌}
use mathlib.Core.Path.{◌≡◌, refl, sym, ap, ◌∙◌}
use native.Mathlib.Omega.{arith}
use native.Mathlib.Decide.{dec_le}
use native.Mathlib.Nat.{lt_of_not-le}
use borrow.Author.Tests.{le-leb, lt-leb}
use lib.Dec.{T, leb, leb→le}
use lib.ListN.{length, take, length-append, length-replicate}
use lib.Seq.{take_at, take_all, take-length, take-append_seam, drop-append-add, length-take-le}
use Rattle.octets.specs.declared.buffer.Buffer.{Buffer}
use Rattle.octets.specs.Bytes.{zeros, field, paste}
use Rattle.octets.specs.Buffers.{capacity, content, holding, appended}
use Rattle.octets.proofs.Parts.{field-part, drop-zeros}
use Rattle.octets.proofs.Pasting.{paste_fits}

zeros_pasted : (x p : List ℕ) (k : ℕ) → length p ≤ k → paste (x ++ zeros k) (length x) p ≡ x ++ p ++ zeros (k - length p)
zeros_pasted x p k h =
    paste_fits (x ++ zeros k) (length x) p (rw (length-append, length-replicate {A = ℕ} k 0) (omega arith))
    ∙ rw (take-append_seam, drop-append-add, drop-zeros k (length p) h)

-- the bytes in use, by their number
pub content_front : (b : Buffer) → take (length (content b)) b.bytes ≡ content b
content_front b = elim (dec_le b.len (length b.bytes)) [ yes h ↦ rw (length-take-le b.len b.bytes h) | no h ↦ all (lt_of_not-le h) ]
  where
    all : length b.bytes < b.len → take (length (content b)) b.bytes ≡ content b
    all h = rw (take_all b.len b.bytes (omega arith)) (take-length b.bytes)

pub content-holding : (x : List ℕ) → content (holding x) ≡ x
content-holding x = take-append_seam x (zeros (capacity - length x))

pub appended-holding : (x p : List ℕ) → length x + length p ≤ capacity → appended (holding x) p ≡ holding (x ++ p)
unfolding appended
appended-holding x p h =
    let e : capacity - length x - length p ≡ capacity - length (x ++ p) = rw length-append (omega arith) in
    let b = zeros_pasted x p (capacity - length x) (omega arith) ∙ ap (λ (n : ℕ). x ++ p ++ zeros n) e in
    rw (le-leb (length x + length p) capacity h)
    (λ i. record { bytes = b i; len = sym (length-append x p) i })

-- what doesn't fit is left out
pub appended_past : (b : Buffer) (p : List ℕ) → capacity < b.len + length p → appended b p ≡ b
unfolding appended
appended_past b p h = rw (lt-leb (b.len + length p) capacity h)

-- the buffer b holds x, of n bytes
pub record Holds (b : Buffer) (x : List ℕ) (n : ℕ) : Type 0 where
  pub is : b ≡ holding x
  pub size : length x ≡ n

pub none : (b : Buffer) → b ≡ holding [] → Holds b [] 0
none b e = record { is = e; size = refl }

-- one piece p more, of m bytes
pub step : {q b : Buffer} {x : List ℕ} {n : ℕ} (p : List ℕ) (m : ℕ) → q ≡ appended b p → Holds b x n → length p ≡ m → T (leb (n + m) capacity) → Holds q (x ++ p) (n + m)
step {q} {b} {x} {n} p m e h l t =
    let fits : n + m ≤ capacity = leb→le (n + m) capacity t in
    let k : length x ≡ n = h.size in
    record {
      is = e ∙ ap (λ (a : Buffer). appended a p) h.is ∙ appended-holding x p (omega arith);
      size = length-append x p ∙ omega arith;
    }

-- what it holds is the front of its bytes
pub held : {b : Buffer} {x : List ℕ} {n : ℕ} → Holds b x n → field b.bytes 0 n ≡ x
held {b} {x} {n} h =
    let k : length x ≡ n = h.size in
    let z = zeros (capacity - length x) in
    ap (λ (q : Buffer). field q.bytes 0 n) h.is
    ∙ field-part (x ++ z) 0 n (rw length-append (omega arith))
    ∙ take_at x z n k

-- one piece alone
pub of_piece : (p : List ℕ) → length p ≤ capacity → appended (holding []) p ≡ holding p
of_piece p h = appended-holding [] p (omega arith)
