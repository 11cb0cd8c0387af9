use Rattle.std.proofs.Common.{◌≡◌, ◌-◌, length, take, vec_items, vec_len}
use Rattle.charts.specs.Boxes.{starting}
use Rattle.loading.proofs.build.start_cells.Given as goal

-- the first cells, as many as there are
abbrev pub invariant-loop-signal : goal.invariant-loop-signal
invariant-loop-signal g l = vec_items l.cells ≡ take (vec_len l.cells) (starting (g.L.Library.meaning l.library) l.kind)

abbrev pub decreases-loop-signal : goal.decreases-loop-signal
decreases-loop-signal g l = length (starting (g.L.Library.meaning l.library) l.kind) - vec_len l.cells
