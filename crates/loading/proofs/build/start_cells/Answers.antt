use Rattle.std.proofs.Common.{vec_items, vec_len, arith}
use Rattle.loading.proofs.BlockParts.{cell_within, cell_more, cells_all}
use Rattle.loading.proofs.build.start_cells.Goals as goal

pub loop-signal-smaller : goal.loop-signal-smaller
loop-signal-smaller g c =
    let within = cell_within (g.L.Library.meaning c.args.library.now) c.args.kind c.len.result (vec_len c.loop-signal.cells) c.len.ensures c.in-Some.signal c.in-Some.ensures in
    let more = c.in_ok-push.ensures.len in
    omega arith

pub loop-signal-preserved : goal.loop-signal-preserved
loop-signal-preserved g c =
    cell_more (g.L.Library.meaning c.args.library.now) c.args.kind c.len.result (vec_len c.loop-signal.cells) c.len.ensures
    c.in-Some.signal (vec_len c.push.new.self) (vec_items c.loop-signal.cells) (vec_items c.push.new.self) c.in-Some.ensures c.loop-signal.invariant c.in_ok-push.ensures.len
    c.in_ok-push.ensures.items

pub returns : goal.returns
returns g c =
    cells_all (g.L.Library.meaning c.args.library.now) c.args.kind c.len.result (vec_len c.loop-signal.cells) c.len.ensures
    (vec_items c.loop-signal.cells) c.in_default.ensures c.loop-signal.invariant
