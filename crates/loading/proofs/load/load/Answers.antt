use Rattle.loading.proofs.Answering.{bytes_fit, one_refused, two_refused, accepted}
use Rattle.loading.proofs.load.load.Goals as goal

pub returns-in_err-kinds : goal.returns-in_err-kinds
returns-in_err-kinds g c =
    let h = one_refused (g.L.Library.meaning c.args.library.now) c.args.chart.now c.in_err-kinds.field-0.0 c.from_residual.result c.in_err-kinds.ensures c.from_residual.ensures.1 in
    record { loaded = h.0; means = h.1 }

pub returns-in_err-walk_two : goal.returns-in_err-walk_two
returns-in_err-walk_two g c =
    let h = two_refused (g.L.Library.meaning c.args.library.now) c.args.chart.now c.in_ok-kinds.kinds c.deref.result.now c.deref.ensures.value c.in_ok-kinds.ensures
    c.in_err-walk_two.field-0.0 c.in_err-walk_two.ensures c.from_residual-in_err-walk_two.result c.from_residual-in_err-walk_two.ensures.1 in
    record { loaded = h.0; means = h.1 }

pub returns : goal.returns
returns g c =
    let h = accepted (g.L.Library.meaning c.args.library.now) c.args.chart.now c.in_ok-kinds.kinds c.deref.result.now c.deref.ensures.value c.in_ok-kinds.ensures
    c.in_ok-walk_two.field-0 c.in_ok-walk_two.ensures (bytes_fit c.args.chart.now c.type_inv.chart) c.in_ok-page.page c.in_ok-page.ensures in
    record { loaded = h.0; means = h.1 }
