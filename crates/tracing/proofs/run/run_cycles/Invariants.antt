use Rattle.std.proofs.Common.{◌≡◌}
use Rattle.charts.specs.Tracing.{cycles}
use Rattle.running.specs.Turns.{box_of}
use Rattle.tracing.proofs.run.run_cycles.Given as goal

abbrev pub invariant-loop : goal.invariant-loop
invariant-loop g l = box_of l.page l.terminals ≡ cycles (g.L.Library.meaning l.library) l.counter (box_of l.initial.page l.terminals)
