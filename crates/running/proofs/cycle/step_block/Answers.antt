use Rattle.std.proofs.Common.{◌<◌, length, map, get_or, vec_items, refl, ap, ◌∙◌, arith}
use Rattle.std.proofs.lemmas.List.{get_or_default}
use Rattle.blocks.specs.Meanings.{stepped}
use Rattle.charts.specs.Boxes.{taken}
use Rattle.loading.specs.declared.page.Block.{Block}
use Rattle.loading.specs.Models.{all_cells}
use Rattle.running.proofs.NewCells.{same_wiring}
use Rattle.running.proofs.Turning.{turned_cells, refused_cells, turned_more}
use Rattle.running.proofs.cycle.step_block.Goals as goal

pub returns-in-Some : goal.returns-in-Some
returns-in-Some g c old before =
    let m = g.L.Library.meaning c.args.library.now in
    let ts = c.args.terminals.now in
    let bs = c.args.blocks.now in
    let i = c.args.i in
    let d = c.index-blocks-i.result in
    let b : Block = get_or bs i d in
    let lent = c.deref_mut.ensures.value in
    let same = ap (λ (x : Block). vec_items x.pins) (get_or_default bs i c.index-page-i.result d c.requires) in
    let pins = c.gather.ensures ∙ ap (map (taken ts (all_cells bs))) (c.deref.ensures.value ∙ same) in
    let new = ap (λ r. r.1) c.step.ensures ∙ (λ j. (stepped m b.kind (pins j) (lent j)).1) in
    turned_more m ts old i before (same_wiring bs i d c.requires c.step.new.cells)
    (turned_cells bs i d c.requires m ts c.step.new.cells (c.step.auto.cells ∙ ap length lent) new)

pub returns-in_default : goal.returns-in_default
returns-in_default g c old before =
    let l = g.L.Library in
    let m = l.meaning c.args.library.now in
    let ts = c.args.terminals.now in
    let bs = c.args.blocks.now in
    let i = c.args.i in
    let d = c.index-page-i.result in
    let count = c.len.ensures in
    let long = (get_or bs i d).pins.ok.0 in
    let none = c.in_default.ensures.lookup in
    let many : 8 < length (vec_items (get_or bs i d).pins) = grind (arith, none.0, count, long) in
    turned_more m ts old i before refl (refused_cells bs i d c.requires m ts (l.lawful c.args.library.now) many)
