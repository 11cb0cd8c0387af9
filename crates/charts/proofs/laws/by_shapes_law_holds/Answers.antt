use Rattle.charts.proofs.Likeness.{loads_by_shapes}
use Rattle.charts.proofs.laws.by_shapes_law_holds.Goals as goal

pub returns : goal.returns
returns c = loads_by_shapes
