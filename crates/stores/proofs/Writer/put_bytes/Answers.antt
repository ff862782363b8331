-- `put_bytes`: past memory's end nothing changes; with room for all, the bytes lie over what was there. Assumes nothing.
use mathlib.Core.Path.{refl, sym, ◌∙◌}
use native.Mathlib.Omega.{arith}
use Rattle.stores.specs.Stores.{writes}
use Rattle.stores.proofs.Plans.{writes_past, writes-length}
use Rattle.stores.proofs.Limits.{limit_enough}
use Rattle.stores.proofs.Parts.{applied-writes}
use Rattle.stores.proofs.Writer.put_bytes.Goals as goal

pub returns-then-self-at : goal.returns-then-self-at
returns-then-self-at c =
    let a = c.args in
    let s = a.self.now in
    record {
      same_memory = refl;
      room = rw writes-length c.saturating_sub-self.ensures;
      left = sym (writes_past a.at a.bytes.now _ s.memory.now c.if-self-at.true);
    }

pub returns-then-self-bytes : goal.returns-then-self-bytes
returns-then-self-bytes c =
    let a = c.args in
    let b = a.bytes.now in
    let m = a.self.now.memory.now in
    record {
      same_memory = refl;
      room = rw writes-length refl;
      left = c.copy.ensures
          ∙ sym (limit_enough (writes a.at b) a.self.now.room m (rw writes-length (omega arith)) ∙ applied-writes b m a.at (omega arith));
    }
