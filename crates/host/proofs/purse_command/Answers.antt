-- `purse_command`: past its refusals the purse's run in the session that the area reads as, whose number has room. Assumes nothing.
use mathlib.Core.Path.{◌≡◌, sym, ◌∙◌}
use native.Mathlib.Omega.{arith}
use Rattle.std.specs.Prelude.{Some}
use Rattle.octets.specs.Bytes.{AreBytes}
use Rattle.session.specs.Packing.{unpacking}
use Rattle.session.proofs.Reading.{unpacking-sized}
use Rattle.purse_spec.specs.History.{send, OfBytes, run}
use Rattle.host.proofs.Bounds.{run_small, situated}
use Rattle.host.proofs.Outcomes.{gives_small, session_long, command_run}
use Rattle.host.proofs.purse_command.Goals as goal

pub result-requires : goal.result-requires
unfolding run OfBytes
result-requires c =
    let a = c.args in
    let f : AreBytes a.session.now = λ j. omega (arith, c.slice_known-2-1.given j) in
    let e : unpacking a.session.now ≡ Some c.in-Some.current = sym c.unpack.ensures ∙ c.in-Some.is in
    let s = gives_small _ _ _ _ c.command-called.ensures
    (run_small (send a.command.now a.random.now a.response.now a.limit) (situated a.memory.now c.in-Some.current)
    (record { memory = λ j. omega (arith, c.slice_known-1.given j); session = unpacking-sized a.session.now _ f e }) (λ j. omega (arith, c.type_inv.command j), λ j. omega (arith, c.type_inv.random j))) in
    (session_long a.memory.now a.session.now a.command.now a.random.now a.response.now a.limit f _ e, s.0, s.1)

pub returns : goal.returns
returns c =
    command_run _ _ _ _ _ _ c.if-memory-ne-MEMORY_SIZE.false c.if-response-lt-LEAST_AREA.false c.if-random-ne8.false _ _ _ _ _ _
    (sym c.unpack.ensures ∙ c.in-Some.is) c.command-called.ensures c.result.ensures
