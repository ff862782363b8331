-- `purse_install`: past its two refusals the purse's run, whose number has room (`run_small`). Assumes nothing.
use native.Mathlib.Omega.{arith}
use Rattle.purse_spec.specs.History.{install, OfBytes, run}
use Rattle.host.specs.Host.{install_call}
use Rattle.host.proofs.Bounds.{run_small, alone, alone_typed}
use Rattle.host.proofs.Outcomes.{gives_small, tested}
use Rattle.host.proofs.purse_install.Goals as goal

pub result-requires : goal.result-requires
unfolding run OfBytes
result-requires c =
    let a = c.args in
    let s = gives_small _ _ _ _ c.install-called.ensures
    (run_small (install a.bytes.now a.limit) (alone a.memory.now) (alone_typed a.memory.now (λ j. omega (arith, c.slice_known-1.given j))) (λ j. omega (arith, c.type_inv.bytes j))) in
    (c.if-session-ne-SESSION_SIZE.false, s.0, s.1)

pub returns : goal.returns
unfolding install_call
returns c =
    tested _ _ _ _ _ _ _ c.if-memory-ne-MEMORY_SIZE.false c.if-session-ne-SESSION_SIZE.false c.install-called.ensures c.result.ensures.0
    c.result.ensures.1
