use Rattle.running.specs.Turns.{Turned}
use Rattle.running.proofs.cycle.step_all.Given as goal

abbrev pub invariant-loop-i : goal.invariant-loop-i
invariant-loop-i g l = Turned (g.L.Library.meaning l.library) l.terminals l.initial.blocks l.blocks l.i
