use Rattle.charts.proofs.Picking.{every_list_picks}
use Rattle.charts.proofs.laws.upstream_calls_law_holds.Goals as goal

pub returns : goal.returns
returns c = every_list_picks
