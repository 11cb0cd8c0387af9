use Rattle.std.proofs.Common.{◌≡◌, ◌++◌, drop, string_bytes}
use Rattle.charts.specs.Calls.{run}
use Rattle.console.specs.Sessions.{calls_of, lines_of}
use Rattle.console.proofs.session.hold.Given as goal

abbrev pub invariant-loop-request : goal.invariant-loop-request
invariant-loop-request g l =
    let m = g.L.Library.meaning l.initial.gate_box.library in
    let x = l.gate_box.box in
    let first = l.initial.gate_box.box in
    let rest = drop l.request-index l.requests in
    (l.gate_box.library ≡ l.initial.gate_box.library)
    × (run m x (calls_of m x rest) ≡ run m first (calls_of m first l.requests))
    × (string_bytes l.text ++ lines_of m x rest ≡ lines_of m first l.requests)
