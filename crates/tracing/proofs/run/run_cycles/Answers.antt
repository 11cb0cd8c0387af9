use Rattle.std.proofs.Common.{◌≡◌, length, vec_items, sym, ap, ◌∙◌, add-one, arith}
use Rattle.std.proofs.lemmas.List.{length-map}
use Rattle.charts.specs.Boxes.{cycled}
use Rattle.charts.specs.Tracing.{cycles}
use Rattle.loading.specs.Models.{block_model, page_model}
use Rattle.running.specs.Turns.{box_of}
use Rattle.tracing.proofs.run.run_cycles.Goals as goal

pub loop-preserved : goal.loop-preserved
loop-preserved g c =
    let m = g.L.Library.meaning c.args.library.now in
    let start = box_of c.args.page.now c.args.terminals.now in
    c.step_page.ensures.cycled ∙ ap (cycled m) c.loop.invariant ∙ ap (λ n. cycles m n start) (sym (add-one c.loop.counter))

pub returns : goal.returns
returns g c =
    let m = g.L.Library.meaning c.args.library.now in
    let p = c.args.page.now in
    let start = box_of p c.args.terminals.now in
    let count = c.len-end.ensures in
    let past = c.loop-test.false in
    let within = c.loop.auto.counter-end in
    let many = length-map (vec_items p.blocks) block_model in
    let all : c.loop.counter ≡ length (page_model p).blocks = omega (arith, p.blocks.ok.0) in
    c.loop.invariant ∙ ap (λ n. cycles m n start) all
