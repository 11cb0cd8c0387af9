use Rattle.std.proofs.Common.{◌≡◌, ◌++◌, map, take, drop}
use Rattle.blocks.specs.Layers.{lamp}
use Rattle.blocks.proofs.lamps.set_all.Given as goal

abbrev pub invariant-loop-cell : goal.invariant-loop-cell
invariant-loop-cell l = l.cells ≡ map (lamp l.lit) (take l.cell-index l.initial.cells) ++ drop l.cell-index l.initial.cells
