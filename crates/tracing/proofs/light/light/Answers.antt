use Rattle.std.proofs.Common.{◌<◌, [], length, get_or, set, vec_items, ap, ◌∙◌, arith}
use Rattle.charts.specs.Tracing.{lighted}
use Rattle.loading.specs.Models.{cells_model}
use Rattle.tracing.proofs.Dimming.{lighted_page, lighted_cells}
use Rattle.tracing.proofs.light.light.Goals as goal

pub returns-in-Some : goal.returns-in-Some
returns-in-Some c =
    let p = c.args.page.now in
    let cells = cells_model p in
    let b = c.from.result in
    let xs = c.set_all.new.cells in
    let found = c.in-Some.ensures in
    let there : b < length (vec_items p.blocks) = omega (arith, p.blocks.ok.0) in
    let new = c.set_all.ensures ∙ ap lighted c.deref_mut.ensures.value in
    record {
      page = lighted_page p b c.in-Some.found.now xs found.value there;
      cells = lighted_cells p b c.in-Some.found.now xs found.value there new ∙ ap (λ k. set cells k (lighted (get_or cells k []))) c.from.ensures;
    }
