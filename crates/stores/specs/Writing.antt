-- A run as the code makes it, piece by piece: memory, and the room for stores that is left. Assumes nothing.
use Rattle.std.specs.Prelude.{◌-◌, List, ◌≡◌, length}
use Rattle.stores.specs.declared.Writer.{Writer}
use Rattle.stores.specs.Stores.{Store, leaves}

-- the writer makes the first stores of a plan, as many as it has room for; each store of the plan takes one of the room
pub record Makes (plan : List Store) (before after : Writer) : Type 0 where
  pub same_memory : after.memory.ghost_name ≡ before.memory.ghost_name
  pub room : after.room ≡ before.room - length plan
  pub left : after.memory.now ≡ leaves plan before.room before.memory.now
