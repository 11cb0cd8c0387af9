use Rattle.std.proofs.Common.{◌≡◌, map, take}
use Rattle.charts.specs.Boxes.{taken}
use Rattle.loading.specs.Models.{all_cells}
use Rattle.running.proofs.cycle.gather.Given as goal

abbrev pub invariant-loop-place : goal.invariant-loop-place
invariant-loop-place l = take l.place l.pins ≡ map (taken l.terminals (all_cells l.blocks)) (take l.place l.sources)
