use Rattle.charts.proofs.Loads.{loading_law}
use Rattle.charts.proofs.laws.loading_law_holds.Goals as goal

pub returns : goal.returns
returns c = loading_law
