use Rattle.std.proofs.Common.{◌≡◌, take}
use Rattle.charts.specs.Boxes.{starting, laid}
use Rattle.running.proofs.restart.lay_start.Given as goal

abbrev pub invariant-loop-place : goal.invariant-loop-place
invariant-loop-place g l = l.cells ≡ laid (take l.place (starting (g.L.Library.meaning l.library) l.kind)) l.initial.cells
