-- install: six stores make the plan.
use mathlib.Core.Path.{◌≡◌, sym, ap, ◌∙◌}
use lib.ListN.{length}
use Rattle.std.proofs.Common.{rules}
use Rattle.memory.specs.Structs.{fixed_size, cold_size, cold_bytes}
use Rattle.memory.proofs.Bounds.{install_stores}
use Rattle.memory.proofs.Runs.{installed}
use Rattle.memory.proofs.installing.install.Goals as goal

pub returns : goal.returns
returns c =
    let a = c.args in
    let x : length c.fixed_bytes.result ≡ fixed_size = search (rules, c.fixed_bytes.type_inv) in
    let y : length c.cold_bytes.result ≡ cold_size = search (rules, c.cold_bytes.type_inv) in
    let n =
    install_stores a.fixed a.aid a.admin (ap length (sym c.fixed_bytes.ensures) ∙ x)
    (ap length (sym (c.cold_bytes.ensures ∙ ap cold_bytes c.fresh-head.ensures)) ∙ y)
    in
    let p =
    installed a.fixed a.aid a.admin c.fresh-head.result _ _ _ _ _ c.fresh-head.ensures c.fixed_bytes.ensures c.hot_bytes.ensures c.cold_bytes.ensures
    c.hot_at.ensures c.cold_at.ensures c.put.ensures c.put-2.ensures c.put_bytes.ensures c.put_bytes-2.ensures c.put_bytes-3.ensures c.put-3.ensures
    in
    (sym n, search (rules, p.left))
