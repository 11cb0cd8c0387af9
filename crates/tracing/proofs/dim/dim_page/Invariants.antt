use Rattle.std.proofs.Common.{◌≡◌, ◌++◌, map, take, drop}
use Rattle.loading.specs.Models.{wiring, all_cells}
use Rattle.tracing.specs.Parts.{dimmed}
use Rattle.tracing.proofs.dim.dim_page.Given as goal

abbrev pub invariant-loop-block : goal.invariant-loop-block
invariant-loop-block l = record {
  dark_wiring : wiring l.block-items ≡ map dimmed (take l.block-index (wiring l.initial.block-items)) ++ drop l.block-index (wiring l.initial.block-items);
  same_cells : all_cells l.block-items ≡ all_cells l.initial.block-items;
}
