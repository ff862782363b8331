-- The switches, byte by byte. Assumes nothing.
use Prim.Native.Nat.{ℕ, zero, suc, ◌≤◌, ◌<◌}
use mathlib.Core.List.{List}
use mathlib.Core.Path.{◌≡◌}
use native.Mathlib.Omega.{arith}
use lib.ListN.{length}
use lib.Seq.{ext_get_or}
use Rattle.octets.specs.Bytes.{byte_at}
use Rattle.bench.specs.declared.arguments.Word.TheVariants.{Plain, Help}
use Rattle.bench.specs.Arguments.{plain_switch, help_switch, word_of}

pub help_read : (s : List ℕ) → 6 ≤ length s → length s < 7 → byte_at s 0 ≡ 0x2D → byte_at s 1 ≡ 0x2D → byte_at s 2 ≡ 0x68 → byte_at s 3 ≡ 0x65
    → byte_at s 4 ≡ 0x6C → byte_at s 5 ≡ 0x70 → Help ≡ word_of s
unfolding word_of
help_read s g l a b c d e f = rw (ext_get_or 0 s help_switch (omega arith) each)
  where
    each : (i : ℕ) → i < length s → byte_at s i ≡ byte_at help_switch i
    each zero h = a
    each (suc zero) h = b
    each (suc (suc zero)) h = c
    each (suc (suc (suc zero))) h = d
    each (suc (suc (suc (suc zero)))) h = e
    each (suc (suc (suc (suc (suc zero))))) h = f
    each (suc (suc (suc (suc (suc (suc i)))))) h = absurd (omega arith)

pub plain_read : (s : List ℕ) → 7 ≤ length s → length s < 8 → byte_at s 0 ≡ 0x2D → byte_at s 1 ≡ 0x2D → byte_at s 2 ≡ 0x70 → byte_at s 3 ≡ 0x6C
    → byte_at s 4 ≡ 0x61 → byte_at s 5 ≡ 0x69 → byte_at s 6 ≡ 0x6E → Plain ≡ word_of s
unfolding word_of
plain_read s g l a b c d e f k = rw (ext_get_or 0 s plain_switch (omega arith) each)
  where
    each : (i : ℕ) → i < length s → byte_at s i ≡ byte_at plain_switch i
    each zero h = a
    each (suc zero) h = b
    each (suc (suc zero)) h = c
    each (suc (suc (suc zero))) h = d
    each (suc (suc (suc (suc zero)))) h = e
    each (suc (suc (suc (suc (suc zero))))) h = f
    each (suc (suc (suc (suc (suc (suc zero)))))) h = k
    each (suc (suc (suc (suc (suc (suc (suc i))))))) h = absurd (omega arith)
