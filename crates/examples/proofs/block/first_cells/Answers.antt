use Rattle.std.proofs.Common.{◌≡◌, Some, rules}
use Rattle.blocks.specs.Meanings.{start_of}
use Rattle.examples.proofs.Starts.{started}
use Rattle.examples.proofs.block.first_cells.Goals as goal

pub loop-cell-preserved : goal.loop-cell-preserved
loop-cell-preserved g c =
    let m = g.L.Library.meaning c.args.library.now in
    let there : Some c.in_ok-signal.signal ≡ start_of m c.args.kind c.loop-cell.cell = search rules in
    let more = started m c.args.kind c.loop-cell.cell c.in_ok-signal.signal there in
    search (rules, more)
