use Rattle.std.proofs.Common.{IfOk, string_bytes, subst}
use Rattle.console.specs.Sessions.{Talked}
use Rattle.console.proofs.Telling.{told}
use Rattle.console.proofs.session.transcript.Goals as goal

pub returns-in-Ok : goal.returns-in-Ok
returns-in-Ok g c =
    let mean = g.L.Library.meaning in
    let started = c.in-Ok.ensures in
    let x = c.in-Ok.gate_box in
    let bytes = c.args.bytes.now in
    let talked = subst (λ b. IfOk c.talk.result (λ s. Talked (mean c.args.library) b bytes (string_bytes s))) started.1 (subst (λ l. IfOk c.talk.result (λ s. Talked (mean l) x.box bytes (string_bytes s))) started.2 c.talk.ensures) in
    told (mean c.args.library) (g.L.Library.lawful c.args.library) c.args.chart.now bytes x.box.page started.0 string_bytes c.talk.result talked
