-- What is read of memory after stores: a part that no store touches stays, and what was written is read. Assumes nothing.
use Prim.Native.Nat.{ℕ, ◌+◌, ◌-◌, ◌≤◌, ◌<◌}
use mathlib.Core.Path.{◌≡◌, refl, ap, ◌∙◌}
use mathlib.Core.Logic.{◌≢◌}
use mathlib.Core.List.{List, [], ◌∷◌}
use native.Mathlib.Decide.{dec_le}
use native.Mathlib.Nat.{lt_of_not-le}
use native.Mathlib.Omega.{arith}
use lib.ListN.{length, drop, set}
use lib.Seq.{drop-set-lt, drop-set-add, take-set-le, get_or-set_other, sets}
use Rattle.octets.specs.Bytes.{part, paste, byte_at}
use Rattle.octets.proofs.Pasting.{paste_sets, part_pasted}
use Rattle.stores.specs.Stores.{Store, applied, writes, Out, OnlyAt}

pub part-set : (m : List ℕ) (a n i v : ℕ) → Out a n i → part (set m i v) a n ≡ part m a n
part-set m a n i v o = elim (dec_le a i) [ yes h ↦ above h | no h ↦ below (lt_of_not-le h) ]
  where
    below : i < a → part (set m i v) a n ≡ part m a n
    below h = rw (drop-set-lt a m i v h)

    above : a ≤ i → part (set m i v) a n ≡ part m a n
    above h =
        let e : i ≡ a + (i - a) = omega arith in
        let k : n ≤ i - a = elim (dec_le (a + n) i) [ yes g ↦ omega arith | no g ↦ absurd (o h (lt_of_not-le g)) ] in
        ap (λ (j : ℕ). part (set m j v) a n) e ∙ rw (drop-set-add a m (i - a) v) (take-set-le n (drop a m) (i - a) v k)

pub part-applied : (p : List Store) (m : List ℕ) (a n : ℕ) → OnlyAt (Out a n) p → part (applied p m) a n ≡ part m a n
unfolding applied
part-applied [] m a n h = refl
part-applied (s ∷ p) m a n h = part-applied p (set m s.at s.value) a n h.1 ∙ part-set m a n s.at s.value h.0

pub byte_applied : (p : List Store) (m : List ℕ) (i : ℕ) → OnlyAt (λ a. i ≢ a) p → byte_at (applied p m) i ≡ byte_at m i
unfolding applied
byte_applied [] m i h = refl
byte_applied (s ∷ p) m i h = byte_applied p (set m s.at s.value) i h.1 ∙ get_or-set_other m s.at i s.value 0 h.0

-- bytes put from an address on lie over what was there
applied_sets : (bytes m : List ℕ) (a : ℕ) → applied (writes a bytes) m ≡ sets m a bytes
unfolding applied writes
applied_sets [] m a = refl
applied_sets (b ∷ bytes) m a = applied_sets bytes (set m a b) _

pub applied-writes : (bytes m : List ℕ) (a : ℕ) → a + length bytes ≤ length m → applied (writes a bytes) m ≡ paste m a bytes
applied-writes bytes m a h = applied_sets bytes m a ∙ paste_sets m a bytes h

pub part-writes : (bytes m : List ℕ) (a : ℕ) → a + length bytes ≤ length m → part (applied (writes a bytes) m) a (length bytes) ≡ bytes
part-writes bytes m a h = rw (applied-writes bytes m a h) (part_pasted m a bytes h)
