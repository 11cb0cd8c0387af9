use Rattle.std.proofs.Common.{◌≡◌, ◌++◌, map, take, drop}
use Rattle.signals.specs.Signals.{cleaned}
use Rattle.blocks.proofs.cleaner.clean_all.Given as goal

abbrev pub invariant-loop-cell : goal.invariant-loop-cell
invariant-loop-cell l = l.cells ≡ map cleaned (take l.cell-index l.initial.cells) ++ drop l.cell-index l.initial.cells
