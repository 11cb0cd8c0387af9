use Rattle.std.proofs.Common.{rules}
use Rattle.std.proofs.lemmas.List.{take_all, drop_all}
use Rattle.std.proofs.lemmas.List.Edits.{map_over_more}
use Rattle.charts.specs.Tracing.{zeroed_source}
use Rattle.tracing.proofs.dim.dim_pins.Goals as goal

pub loop-pin-preserved : goal.loop-pin-preserved
loop-pin-preserved c = search (rules, map_over_more zeroed_source)

pub returns : goal.returns
returns c = search (rules, take_all, drop_all)
