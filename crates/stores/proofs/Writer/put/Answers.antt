-- `put`: no store without room, else one, which past the end of memory changes nothing. Assumes nothing.
use mathlib.Core.Path.{refl, sym}
use lib.Seq.{set_out}
use Rattle.stores.proofs.Sequence.{made_out, made_one}
use Rattle.stores.proofs.Writer.put.Goals.{then-at-self, else-at-self}
use Rattle.stores.proofs.Writer.put.Goals as goal

pub returns-after-at-self : goal.returns-after-at-self
returns-after-at-self c =
    let a = c.args in
    let s = a.self.now in
    elim c.if-at-self.branch [
      | then-at-self w ↦ rw w.self-is (made_one a.at a.value c.if-self-ne0.true refl refl refl)
      | else-at-self w ↦ rw w.self-is (made_one a.at a.value c.if-self-ne0.true refl refl (sym (set_out s.memory.now a.at a.value w.if-at-self.false)))
    ]

pub returns-else-self-ne0 : goal.returns-else-self-ne0
returns-else-self-ne0 c = made_out _ c.args.self.now c.if-self-ne0.false
