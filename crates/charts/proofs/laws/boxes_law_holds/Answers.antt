use Rattle.charts.proofs.Boxing.{boxes_law}
use Rattle.charts.proofs.laws.boxes_law_holds.Goals as goal

pub returns : goal.returns
returns c = boxes_law
