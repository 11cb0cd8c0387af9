use Rattle.std.proofs.Common.{◌≡◌, false, List, length, get_or, take, set, unwrap_or, ap, ◌∙◌, arith}
use Rattle.signals.specs.declared.signal.Signal.{Signal}
use Rattle.blocks.specs.Meanings.{start_of}
use Rattle.charts.specs.Boxes.{starting, laid}
use Rattle.running.proofs.Starting.{laid_more, laid_all}
use Rattle.running.proofs.restart.lay_start.Goals as goal

pub loop-place-preserved : goal.loop-place-preserved
loop-place-preserved g c =
    let m = g.L.Library.meaning c.args.library.now in
    let i = c.loop-place.place in
    let cells = c.loop-place.cells in
    let d = Signal.Bool false in
    ap (set cells i) c.start_or.ensures
    ∙ ap (λ (cs : List Signal). set cs i (unwrap_or (start_of m c.args.kind i) (get_or cs i d))) c.loop-place.invariant
    ∙ laid_more m c.args.kind c.args.cells.now i d

pub returns : goal.returns
returns g c =
    let start = starting (g.L.Library.meaning c.args.library.now) c.args.kind in
    let last = c.loop-place.auto.place-end in
    let past = c.loop-place-test.false in
    let end : c.loop-place.place ≡ length c.args.cells.now = omega arith in
    c.loop-place.invariant ∙ ap (λ n. laid (take n start) c.args.cells.now) end ∙ laid_all start c.args.cells.now
