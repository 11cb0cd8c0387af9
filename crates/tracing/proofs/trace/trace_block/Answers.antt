use Rattle.std.proofs.Common.{◌<◌, ◌≤◌, arith}
use Rattle.tracing.proofs.Reaching.{none_there, answered, reached}
use Rattle.tracing.proofs.trace.trace_block.Goals as goal

pub returns-then-from-len : goal.returns-then-from-len
returns-then-from-len g c =
    let l = g.L.Library in
    let m = l.meaning c.args.library.now in
    let law = l.lawful c.args.library.now in
    let chart = c.args.chart.now in
    let p = c.in_ok-page.page in
    let loaded = c.in_ok-page.ensures.loaded in
    let done = c.trace_page.ensures in
    let same = c.from.ensures in
    let below = c.if-from-len.true in
    let there : c.args.block < c.len.result = omega arith in
    record {
      traced = answered m chart c.args.block p loaded.0 c.len.result c.len.ensures law loaded.1 there c.trace_page.result done.set done.lamps;
      law = reached m chart c.args.block p loaded.0 c.len.result c.len.ensures law loaded.1 there c.trace_page.result done.set done.lamps;
    }

pub returns : goal.returns
returns g c =
    let m = g.L.Library.meaning c.args.library.now in
    let loaded = c.in_ok-page.ensures.loaded in
    let same = c.from.ensures in
    let above = c.if-from-len.false in
    let past : c.len.result ≤ c.args.block = omega arith in
    record { traced = none_there m c.args.chart.now c.args.block c.in_ok-page.page loaded.0 c.len.result c.len.ensures past; law = tt }
