-- `respond_in`: a command that passes steps 3 to 5 has the length that its test asks for. Assumes nothing.
use mathlib.Core.Path.{sym}
use Rattle.commands.proofs.Bodies.{plain-length, signed-length}
use Rattle.commands.proofs.dispatch.respond_in.Goals as goal

pub plain-requires : goal.plain-requires
plain-requires c = plain-length _ _ _ _ (sym (rw c.in_ok-plain_status-in-IsPlain.was at c.plain_status.ensures))

pub authorized-requires : goal.authorized-requires
authorized-requires c = signed-length _ _ _ (sym (rw c.in_ok-signed_status-in-IsSigned.was at c.signed_status.ensures))
