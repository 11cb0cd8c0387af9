use Rattle.std.proofs.Common.{vec_items, refl}
use Rattle.loading.specs.Built.{sources_in}
use Rattle.loading.proofs.BlockParts.{pins_start, pin_more, pins_out, pins_end}
use Rattle.loading.proofs.build.read_pins.Goals as goal
use Rattle.loading.proofs.build.read_pins.Goals.{else-loop-number-test, then-loop-number-test+in_default}

pub loop-number-init : goal.loop-number-init
loop-number-init g c = pins_start (g.L.Library.meaning c.args.library.now) c.args.found.now.kind c.args.found.now.body.now _ c.as_chunks.ensures.front _ c.new-sources.ensures.items

pub loop-number-preserved : goal.loop-number-preserved
loop-number-preserved g c =
    let m = g.L.Library.meaning c.args.library.now in
    let all = sources_in m c.args.found.now.kind c.args.found.now.body.now in
    pin_more m c.args.found.now.kind c.as_chunks.result.0.now all c.loop-number.number (vec_items c.loop-number.sources) c.loop-number.invariant _ _ refl c.loop-number-test.true
    c.in-Some.signal_type c.in-Some.ensures c.source_of.result c.source_of.ensures (vec_items c.push.new.self) c.in_ok-push.ensures.items

pub returns : goal.returns
returns g c =
    let m = g.L.Library.meaning c.args.library.now in
    let all = sources_in m c.args.found.now.kind c.args.found.now.body.now in
    elim c.loop-number-test.branch [
      | else-loop-number-test w ↦ pins_end m c.args.found.now.kind c.as_chunks.result.0.now all c.loop-number.number (vec_items c.loop-number.sources) c.loop-number.invariant w.loop-number-test.false
      | then-loop-number-test+in_default w ↦ pins_out m c.args.found.now.kind c.as_chunks.result.0.now all c.loop-number.number (vec_items c.loop-number.sources) c.loop-number.invariant w.in_default.ensures
    ]
