-- An answer that a buffer holds, with 9000 behind it. Assumes nothing.
use Prim.Native.Nat.{◌≤◌, ℕ}
use mathlib.Core.List.{List, ◌++◌}
use mathlib.Core.Path.{◌≡◌}
use native.Mathlib.Omega.{arith}
use lib.ListN.{length}
use Rattle.octets.specs.declared.buffer.Buffer.{Buffer}
use Rattle.octets.specs.Buffers.{holding, appended}
use Rattle.octets.specs.Words.{word}
use Rattle.octets.proofs.Holding.{appended-holding}
use Rattle.card.specs.declared.head.Head.{Head}
use Rattle.card.specs.Log.{void}
use Rattle.session.specs.declared.Session.{Session}
use Rattle.commands_spec.specs.declared.outcome.Commits.{Commits}
use Rattle.commands_spec.specs.declared.outcome.Outcome.{Outcome}
use Rattle.commands_spec.specs.Outcomes.{done}

-- of at most 126 bytes, so that the status word has room
pub done_held : {effect : Commits} {h : Head} {s : Session} {b : Buffer} {r : Outcome}
    → r ≡ record { status = 0x9000; commits = effect; head = h; logged = void; reply = appended b (word 0x9000); session = s }
    → (x : List ℕ) → b ≡ holding x → length x ≤ 126 → r ≡ done effect h s x
unfolding done
done_held d x e h =
    let a : appended (holding x) (word 0x9000) ≡ holding (x ++ word 0x9000) = appended-holding x (word 0x9000) (omega arith) in
    rw (d, e, a)
