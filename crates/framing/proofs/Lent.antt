-- The data of a whole frame, as they are lent. Assumes nothing.
use Prim.Native.Nat.{ℕ, ◌-◌, ◌≤◌}
use mathlib.Core.Bool.{Bool, true}
use mathlib.Core.List.{List}
use mathlib.Core.Path.{◌≡◌}
use native.Mathlib.Omega.{arith}
use lib.ListN.{length, take, drop}
use Rattle.framing.specs.Frames.{header_size, data_size, frame_data, frame_size, whole}
use Rattle.framing.proofs.Fronts.{whole_is}

-- the bytes of a frame behind its header, up to its end
module _ (ok : ℕ → ℕ → Bool) (s : List ℕ) (end : ℕ) (w : whole ok s ≡ true) (e : end ≡ frame_size s) where
  pub end_above : header_size ≤ end
  unfolding frame_size
  end_above = rw e (omega arith)

  pub end_within : end ≤ length s
  end_within = let l = (whole_is ok s w).long in rw e l

  pub lent_data : take (end - header_size) (drop header_size s) ≡ frame_data s
  unfolding frame_size
  lent_data = let n : end - header_size ≡ data_size s = omega arith in rw n
