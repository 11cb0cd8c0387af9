use Rattle.std.proofs.Common.{vec_items}
use Rattle.loading.specs.Built.{sources_in}
use Rattle.loading.proofs.BlockParts.{SourcesLeft}
use Rattle.loading.proofs.build.read_pins.Given as goal

-- the sources so far, then those that the pins left give
abbrev pub invariant-loop-number : goal.invariant-loop-number
invariant-loop-number g l =
    let m = g.L.Library.meaning l.library in
    SourcesLeft m l.found.kind l.pins (sources_in m l.found.kind l.found.body.now) (vec_items l.sources) l.number
