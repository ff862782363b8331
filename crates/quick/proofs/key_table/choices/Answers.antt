-- `choices`: the table follows from PC2, by one computed test over all its entries. Assumes nothing.
use mathlib.Core.Path.{refl}
use Rattle.des_spec.specs.Bits.{binary}
use Rattle.des_spec.specs.Des.{permute}
use Rattle.des_spec.specs.Tables.{PC2}
use Rattle.quick.specs.Words.{key_bits, places}
use Rattle.quick.proofs.Nibbles.{chosen}
use Rattle.quick.proofs.key_table.choices.Goals as goal

pub returns : goal.returns
unfolding binary permute PC2 key_bits places
returns c = chosen _ refl tt
