-- `to_bytes`: the fields one after the other, each at its place.
use mathlib.Core.Path.{◌≡◌, refl, ap, ◌∙◌}
use mathlib.Core.List.{List, [], ◌∷◌, ◌++◌}
use Prim.Native.Nat.{ℕ, ◌/◌, ◌%◌, ◌<◌}
use native.Mathlib.Omega.{arith}
use lib.ListN.{length, set}
use Rattle.octets.specs.Words.{word}
use Rattle.std.proofs.Common.{rules}
use Rattle.card.specs.Log.{record_bytes}
use Rattle.card.proofs.log.Record.to_bytes.Goals as goal

-- the bytes of a number below 65,536
two_bytes : (n : ℕ) (l : List ℕ) → n < 65536 → l ≡ n / 256 % 256 ∷ n % 256 ∷ [] → l ≡ word n
two_bytes n l h e = let q : n / 256 % 256 ≡ n / 256 = omega arith in rw q at e

-- the last element stored
set-last : (l : List ℕ) (n x y : ℕ) → length l ≡ n → set (l ++ x ∷ []) n y ≡ l ++ y ∷ []
set-last [] n x y e = rw (← e)
set-last (z ∷ l) n x y e = rw (← e) (ap (λ k. z ∷ k) (set-last l (length l) x y refl))

pub returns : goal.returns
unfolding record_bytes
returns c =
    let r = c.args.self in
    let n = two_bytes r.number _ (omega arith) (c.copy_from_slice.ensures.after ∙ c.to_be_bytes.ensures) in
    let u = two_bytes r.currency _ (omega arith) (c.copy_from_slice-2.ensures.after ∙ c.to_be_bytes-2.ensures) in
    let a = two_bytes r.amount _ (omega arith) (c.copy_from_slice-3.ensures.after ∙ c.to_be_bytes-3.ensures) in
    let b = two_bytes r.balance _ (omega arith) (c.copy_from_slice-4.ensures.after ∙ c.to_be_bytes-4.ensures) in
    let s = c.copy_from_slice-5.ensures.after in
    let k : set (r.context ++ 0 ∷ []) 16 r.keyset ≡ r.context ++ r.keyset ∷ [] = set-last r.context 16 0 r.keyset (search rules) in
    rw (n, u, a, b, s, k)
