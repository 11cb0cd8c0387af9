use Rattle.std.proofs.Common.{◌≡◌, ◌++◌, map, drop, vec_items}
use Rattle.blocks.specs.Refusals.{numbered}
use Rattle.charts.specs.Calls.{run, answers}
use Rattle.engine.proofs.run.perform_all.Given as goal

abbrev pub invariant-loop-call : goal.invariant-loop-call
invariant-loop-call g l =
    let m = g.L.Library.meaning l.initial.gate_box.library in
    (l.gate_box.library ≡ l.initial.gate_box.library)
    × (run m l.gate_box.box (drop l.call-index l.calls) ≡ run m l.initial.gate_box.box l.calls)
    × (map numbered (vec_items l.answers) ++ answers m l.gate_box.box (drop l.call-index l.calls) ≡ answers m l.initial.gate_box.box l.calls)
