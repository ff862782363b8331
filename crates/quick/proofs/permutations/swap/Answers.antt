-- `swap` is an exchange of bits. Assumes nothing.
use Rattle.quick.proofs.Swaps.{swap_law}
use Rattle.quick.proofs.permutations.swap.Goals as goal

pub returns : goal.returns
returns c = swap_law c.args.x c.args.s c.args.m c.requires c.ranges.x.fits
