-- `select_data`: the data lie within the command. Assumes nothing.
use native.Mathlib.Omega.{arith}
use Rattle.apdu.proofs.Shapes.{data_within}
use Rattle.commands.proofs.plain.select_data.Goals as goal

pub slice_bounds-select-end-2 : goal.slice_bounds-select-end-2
slice_bounds-select-end-2 c = omega (arith, data_within _ _ c.args.request.now.parsed (omega arith))
