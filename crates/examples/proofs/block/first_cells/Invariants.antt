use Rattle.std.proofs.Common.{◌≡◌, take, vec_items}
use Rattle.examples.proofs.block.first_cells.Given as goal

abbrev pub invariant-loop-cell : goal.invariant-loop-cell
invariant-loop-cell g l = vec_items l.cells ≡ take l.cell ((g.L.Library.meaning l.library).start l.kind)
