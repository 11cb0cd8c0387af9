use Rattle.rules.proofs.Computed.{examples}
use Rattle.rules.proofs.theorems.examples_hold.Goals as goal

pub returns : goal.returns
returns c = examples
