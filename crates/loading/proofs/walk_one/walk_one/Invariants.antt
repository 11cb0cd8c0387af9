use Rattle.std.proofs.Common.{◌-◌, length, vec_items}
use Rattle.charts.specs.Pages.{block_limit}
use Rattle.loading.proofs.Gathered.{Gathered}
use Rattle.loading.proofs.walk_one.walk_one.Given as goal

abbrev pub invariant-loop-rest : goal.invariant-loop-rest
invariant-loop-rest g l = Gathered (g.L.Library.meaning l.library).shape block_limit l.chart (vec_items l.kinds) l.last (length l.chart - length l.rest) l.rest

abbrev pub decreases-loop-rest : goal.decreases-loop-rest
decreases-loop-rest g l = length l.rest
