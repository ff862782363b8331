-- commit: four stores make the plan.
use mathlib.Core.Path.{◌≡◌, ap, ◌∙◌}
use Rattle.std.proofs.Common.{rules}
use Rattle.memory.specs.Layout.{next_root, slot_at}
use Rattle.memory.specs.Changes.{spare, record_piece, cold_piece}
use Rattle.memory.proofs.Bounds.{plan_count}
use Rattle.memory.proofs.Runs.{committed}
use Rattle.memory.proofs.changing.commit.Goals as goal

pub returns : goal.returns
returns c =
    let x = c.args.change in
    let m = c.args.memory.now in
    let r : c.piece-record.result.now ≡ record_piece x = c.piece-record.ensures ∙ c.record_after-logged.ensures in
    let d : c.piece-cold.result.now ≡ cold_piece x = c.piece-cold.ensures ∙ c.cold_after-changed.ensures in
    let s : c.slot_at.result ≡ slot_at (spare m) = rw (c.slot_at.ensures, c.spare-spare.ensures, c.size_in.ensures, c.newest_in.ensures) in
    let p =
    committed x m c.next_root-next.result _ _ _ _ _ _ (c.next_root-next.ensures ∙ ap (next_root x.cold) c.byte_at-live.ensures)
    c.hot_at.ensures s c.cold_at.ensures c.hot_after-hot.ensures r d c.put_bytes.ensures c.put_bytes-2.ensures c.put_bytes-3.ensures c.put.ensures
    in
    (rw (plan_count x m, ← r, ← d), search (rules, p.left))
