use Rattle.std.proofs.Common.{◌≡◌, take}
use Rattle.charts.specs.Boxes.{restarted_cells}
use Rattle.loading.specs.Models.{wiring, all_cells}
use Rattle.running.proofs.restart.restart_page.Given as goal

abbrev pub invariant-loop-block : goal.invariant-loop-block
invariant-loop-block g l = record {
  same_wiring : wiring l.block-items ≡ wiring l.initial.block-items;
  cells : all_cells l.block-items ≡ restarted_cells (g.L.Library.meaning l.library) (take l.block-index (wiring l.initial.block-items)) (all_cells l.initial.block-items);
}
