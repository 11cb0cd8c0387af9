use Rattle.std.proofs.Common.{◌<◌, ◌++◌, map, length, ap, ◌∙◌, arith}
use Rattle.std.proofs.lemmas.List.{length-map, take_all, drop_all, append-nil}
use Rattle.charts.specs.Tracing.{zeroed_source}
use Rattle.loading.specs.Models.{block_model, wiring}
use Rattle.tracing.specs.Parts.{dimmed}
use Rattle.tracing.proofs.Dimming.{dimmed_more, same_cells, dimmed_page, dimmed_cells}
use Rattle.tracing.proofs.dim.dim_page.Goals as goal

pub loop-block-preserved : goal.loop-block-preserved
loop-block-preserved c =
    let bs = c.loop-block.block-items in
    let old = c.deref_mut-block-items.result.now in
    let i = c.loop-block.block-index in
    let d = c.block-item.result in
    let xs = c.dim_pins.new.pins in
    let dark = c.dim_pins.ensures ∙ ap (map zeroed_source) c.deref_mut.ensures.value in
    let kept = c.loop-block.auto.block-items in
    let below = c.loop-block-test.true in
    let lt : i < length bs = omega arith in
    let before = c.loop-block.invariant in
    record {
      dark_wiring = dimmed_more old bs i d xs lt dark kept before.dark_wiring;
      same_cells = same_cells old bs i d xs lt dark ∙ before.same_cells;
    }

pub returns : goal.returns
returns c =
    let p = c.args.page.now in
    let lent = c.deref_mut-block-items.result.now in
    let new = c.loop-block.block-items in
    let whole = c.deref_mut-block-items.ensures.value in
    let long = c.loop-block.auto.block-items in
    let i = c.loop-block.block-index in
    let past = c.loop-block-test.false in
    let many = length-map lent block_model in
    let front = take_all i (wiring lent) (omega arith) in
    let rest = drop_all i (wiring lent) (omega arith) in
    let dark = c.loop-block.invariant.dark_wiring ∙ (λ j. map dimmed (front j) ++ rest j) ∙ append-nil (map dimmed (wiring lent)) in
    record { page = dimmed_page p lent new whole long dark; cells = dimmed_cells p lent new whole long c.loop-block.invariant.same_cells }
