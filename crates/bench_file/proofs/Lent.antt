-- The data of a whole frame, as they are lent: they hold what their kind has, and make its call. Assumes nothing.
use Prim.Native.Nat.{ℕ, ◌-◌, ◌≤◌}
use mathlib.Core.Bool.{true}
use mathlib.Core.List.{List}
use mathlib.Core.Path.{◌≡◌, sym, ◌∙◌}
use native.Mathlib.Omega.{arith}
use lib.ListN.{length, take, drop}
use Rattle.octets.specs.Bytes.{byte_at, part, zeros}
use Rattle.octets.specs.Words.{word_at}
use Rattle.octets.proofs.Parts.{length_part}
use Rattle.framing.specs.Frames.{header_size, data_size, frame_size, whole}
use Rattle.framing.proofs.Fronts.{whole_is}
use Rattle.framing.proofs.Lent.{lent_data}
use Rattle.purse_spec.specs.History.{install, start, send}
use Rattle.bench_file.specs.declared.kind.Kind.{Kind}
use Rattle.bench_file.specs.declared.kind.Kind.TheVariants.{Installation, Startup, Command}
use Rattle.bench_file.specs.Kinds.{number, area_size, size_ok, call_of, first_call}
use Rattle.bench_file.proofs.Headers.{Suited, installs, starts, sends, whole_suited}

-- the bytes of a frame behind its header, up to its end
abbrev pub lent : List ℕ → ℕ → List ℕ
lent s end = take (end - header_size) (drop header_size s)

module _ (s : List ℕ) (end : ℕ) (w : whole size_ok s ≡ true) (d : end ≡ frame_size s) where
  data_length_lem : length (lent s end) ≡ data_size s
  unfolding frame_size
  data_length_lem = rw (lent_data size_ok s end w d) (length_part s header_size (data_size s) (whole_is size_ok s w).long)

  pub limit_there : 2 ≤ length (lent s end)
  limit_there = rw data_length_lem (by (whole_suited s w))
    where
      by : Suited (byte_at s 2) (data_size s) → 2 ≤ data_size s
      by (installs k n) = n
      by (starts k n) = omega arith
      by (sends k n) = omega arith

  -- its kind, by the byte that says it
  module _ (byte : ℕ) (b : byte ≡ byte_at s 2) where
    pub some_kind : ((kind : Kind) → number kind ≡ byte → ⊥) → ⊥
    some_kind f = by (whole_suited s w)
      where
        by : Suited (byte_at s 2) (data_size s) → ⊥
        by (installs h n) = f Installation (sym (b ∙ h))
        by (starts h n) = f Startup (sym (b ∙ h))
        by (sends h n) = f Command (sym (b ∙ h))

    pub random_there : number Command ≡ byte → 10 ≤ length (lent s end)
    random_there e = rw data_length_lem (by (whole_suited s w))
      where
        by : Suited (byte_at s 2) (data_size s) → 10 ≤ data_size s
        by (installs h n) = omega (arith, e ∙ b ∙ h)
        by (starts h n) = omega (arith, e ∙ b ∙ h)
        by (sends h n) = n

    pub call_01 : number Installation ≡ byte → first_call s ≡ install (drop 2 (lent s end)) (word_at (lent s end) 0)
    unfolding call_of
    call_01 e = rw (← b, ← e, lent_data size_ok s end w d)

    pub call_02 : number Startup ≡ byte → first_call s ≡ start (word_at (lent s end) 0)
    unfolding call_of
    call_02 e = rw (← b, ← e, lent_data size_ok s end w d)

    pub call_03 : number Command ≡ byte
        → first_call s ≡ send (drop 10 (lent s end)) (part (lent s end) 2 8) (zeros area_size) (word_at (lent s end) 0)
    unfolding call_of
    call_03 e = rw (← b, ← e, lent_data size_ok s end w d)
