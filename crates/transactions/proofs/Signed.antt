-- An answer of at most 118 bytes and its R-MAC, in a buffer. Assumes nothing.
use Prim.Native.Nat.{ℕ, ◌≤◌}
use mathlib.Core.List.{List, ◌++◌}
use mathlib.Core.Path.{◌≡◌, ◌∙◌}
use native.Mathlib.Omega.{arith}
use lib.ListN.{length, length-append}
use Rattle.octets.specs.declared.buffer.Buffer.{Buffer}
use Rattle.octets.specs.Buffers.{holding, appended}
use Rattle.octets.proofs.Holding.{appended-holding}

pub with_mac : {b d : Buffer} (x mac : List ℕ) → d ≡ appended b mac → b ≡ holding x → length x ≤ 118 → length mac ≡ 8
    → (d ≡ holding (x ++ mac)) × (length (x ++ mac) ≤ 126)
with_mac x mac e h l m = (e ∙ rw h (appended-holding x mac (omega arith)), rw length-append (omega arith))
