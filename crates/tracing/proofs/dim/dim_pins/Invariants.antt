use Rattle.std.proofs.Common.{◌≡◌, ◌++◌, map, take, drop}
use Rattle.charts.specs.Tracing.{zeroed_source}
use Rattle.tracing.proofs.dim.dim_pins.Given as goal

abbrev pub invariant-loop-pin : goal.invariant-loop-pin
invariant-loop-pin l = l.pins ≡ map zeroed_source (take l.pin-index l.initial.pins) ++ drop l.pin-index l.initial.pins
