use Rattle.std.proofs.Common.{◌∙◌}
use Rattle.charts.specs.Calls.{run, answers}
use Rattle.charts.specs.Pages.{block_limit}
use Rattle.charts.proofs.Independence.{cells_by_upstream}
use Rattle.engine.proofs.run.run.Goals as goal

pub returns : goal.returns
returns g c =
    let started = c.in_ok-gate_box.ensures in
    let performed = c.in_ok-perform_all.ensures in
    let x = c.in_ok-gate_box.gate_box in
    let cs = c.args.calls.now in
    let mean = g.L.Library.meaning in
    let m = mean c.args.library in
    let same = started.2 in
    let start = started.1 in
    record {
      page = x.box.page;
      accepted = started.0;
      ends_as = performed.0 ∙ (λ i. run (mean (same i)) (start i) cs);
      answered = performed.1 ∙ (λ i. answers (mean (same i)) (start i) cs);
      independent = λ n law alike. cells_by_upstream m (g.L.Library.lawful c.args.library) block_limit c.args.chart.now x.box.page started.0 cs n law alike;
    }
