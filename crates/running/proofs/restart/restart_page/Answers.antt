use Rattle.std.proofs.Common.{◌<◌, length, get_or, ap, ◌∙◌, arith}
use Rattle.std.proofs.lemmas.List.{length-map, take_all}
use Rattle.charts.specs.Boxes.{starting, laid, restarted_cells}
use Rattle.loading.specs.Models.{block_model, wiring, all_cells}
use Rattle.running.proofs.NewCells.{same_wiring}
use Rattle.running.proofs.Starting.{restarted_more, restarted_page, restarted_rows}
use Rattle.running.proofs.restart.restart_page.Goals as goal

pub loop-block-preserved : goal.loop-block-preserved
loop-block-preserved g c =
    let m = g.L.Library.meaning c.args.library.now in
    let bs = c.loop-block.block-items in
    let i = c.loop-block.block-index in
    let d = c.block-item.result in
    let xs = c.lay_start.new.cells in
    let lent = c.deref_mut.ensures.value in
    let long = c.lay_start.auto.cells ∙ ap length lent in
    let new = c.lay_start.ensures ∙ ap (laid (starting m (get_or bs i d).kind)) lent in
    let kept = c.loop-block.auto.block-items in
    let below = c.loop-block-test.true in
    let lt : i < length bs = omega arith in
    let before = c.loop-block.invariant in
    record {
      same_wiring = same_wiring bs i d lt xs ∙ before.same_wiring;
      cells = restarted_more m c.deref_mut-block-items.result.now bs i d xs lt before.same_wiring before.cells long new;
    }

pub returns : goal.returns
returns g c =
    let m = g.L.Library.meaning c.args.library.now in
    let p = c.args.page.now in
    let lent = c.deref_mut-block-items.result.now in
    let new = c.loop-block.block-items in
    let whole = c.deref_mut-block-items.ensures.value in
    let long = c.loop-block.auto.block-items in
    let past = c.loop-block-test.false in
    let many = length-map lent block_model in
    let all = take_all c.loop-block.block-index (wiring lent) (omega arith) in
    record {
      page = restarted_page m p lent new whole long c.loop-block.invariant.same_wiring;
      cells = restarted_rows m p lent new whole long (c.loop-block.invariant.cells ∙ ap (λ ws. restarted_cells m ws (all_cells lent)) all);
    }
