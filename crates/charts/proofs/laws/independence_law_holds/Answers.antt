use Rattle.charts.proofs.Independence.{cells_by_upstream}
use Rattle.charts.proofs.laws.independence_law_holds.Goals as goal

pub returns : goal.returns
returns c = cells_by_upstream
