use Rattle.std.proofs.Common.{length, refl, ap, arith}
use Rattle.tracing.proofs.Rounds.{few_after, set_after}
use Rattle.tracing.proofs.trace.trace_page.Goals as goal

pub lit_set-set-requires : goal.lit_set-set-requires
lit_set-set-requires g c =
    let m = g.L.Library.meaning c.args.library.now in
    let few = few_after m c.args.page.now c.dim_page.new.page c.light.new.page c.run_cycles.new.page c.args.block c.zero_terminals.result c.zero_terminals.ensures
    c.dim_page.ensures.page c.dim_page.ensures.cells c.light.ensures.page c.light.ensures.cells c.run_cycles.ensures c.requires in
    omega (arith, ap length c.deref.ensures.value)

pub returns : goal.returns
returns g c =
    let m = g.L.Library.meaning c.args.library.now in
    record {
      set = set_after m c.args.page.now c.dim_page.new.page c.light.new.page c.run_cycles.new.page c.args.block c.zero_terminals.result c.zero_terminals.ensures
          c.dim_page.ensures.page c.dim_page.ensures.cells c.light.ensures.page c.light.ensures.cells c.run_cycles.ensures
          c.deref.result.now c.lit_set-set.result c.deref.ensures.value c.lit_set-set.ensures;
      lamps = refl;
    }
