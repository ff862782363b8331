-- `purse_start_up`: past its two refusals the purse's run, whose number has room (`run_small`). Assumes nothing.
use native.Mathlib.Omega.{arith}
use Rattle.purse_spec.specs.History.{start, OfBytes, run}
use Rattle.host.specs.Host.{start_call}
use Rattle.host.proofs.Bounds.{run_small, alone, alone_typed}
use Rattle.host.proofs.Outcomes.{gives_small, tested}
use Rattle.host.proofs.purse_start_up.Goals as goal

pub result-requires : goal.result-requires
unfolding run OfBytes
result-requires c =
    let m = c.args.memory.now in
    let s = gives_small _ _ _ _ c.start_up-called.ensures (run_small (start c.args.limit) (alone m) (alone_typed m (λ j. omega (arith, c.slice_known-1.given j))) tt) in
    (c.if-session-ne-SESSION_SIZE.false, s.0, s.1)

pub returns : goal.returns
unfolding start_call
returns c =
    tested _ _ _ _ _ _ _ c.if-memory-ne-MEMORY_SIZE.false c.if-session-ne-SESSION_SIZE.false c.start_up-called.ensures c.result.ensures.0
    c.result.ensures.1
