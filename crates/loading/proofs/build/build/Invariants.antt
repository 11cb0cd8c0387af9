use Rattle.std.proofs.Common.{◌≡◌, List, length, Ok}
use Rattle.charts.specs.Loading.{Raw, nothing_met, walk_one}
use Rattle.charts.specs.Pages.{block_limit}
use Rattle.loading.proofs.Building.{UnderWay}
use Rattle.loading.proofs.build.build.Given as goal

abbrev pub invariant-loop-found : goal.invariant-loop-found
invariant-loop-found g l =
    let m = g.L.Library.meaning l.library in
    (rs : List Raw) → walk_one m.shape block_limit nothing_met 0 0 l.chart ≡ Ok rs → UnderWay m rs l.page l.rest

abbrev pub decreases-loop-found : goal.decreases-loop-found
decreases-loop-found g l = length l.rest
