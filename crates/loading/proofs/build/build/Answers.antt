use Rattle.charts.specs.Pages.{block_limit}
use Rattle.loading.proofs.Building.{begun, further, ended}
use Rattle.loading.proofs.build.build.Goals as goal

pub loop-found-init : goal.loop-found-init
loop-found-init g c rs e =
    begun (g.L.Library.meaning c.args.library.now) block_limit c.args.chart.now rs (record { blocks = c.new.result; outputs = c.new-2.result }) c.new.ensures.items c.new-2.ensures.items e

pub loop-found-preserved : goal.loop-found-preserved
loop-found-preserved g c rs e =
    further (g.L.Library.meaning c.args.library.now) rs c.loop-found.page c.loop-found.rest.now (c.loop-found.invariant rs e)
    (record { kind = c.in-Some.found.kind; body = c.in-Some.found.body.now }) c.in-Some.behind.now c.in-Some.ensures c.add_record.new.page c.in_ok-add_record.ensures

pub returns : goal.returns
returns g c rs e = ended (g.L.Library.meaning c.args.library.now) rs c.loop-found.page c.loop-found.rest.now (c.loop-found.invariant rs e) c.in_default.ensures
