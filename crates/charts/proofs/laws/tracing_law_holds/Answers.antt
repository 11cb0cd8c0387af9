use Rattle.charts.proofs.Traces.{tracing}
use Rattle.charts.proofs.laws.tracing_law_holds.Goals as goal

pub returns : goal.returns
returns c = tracing
