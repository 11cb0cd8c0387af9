-- Every INT is exact as a REAL. Assumes nothing.
use Rattle.rules.proofs.Kept.{int_kept}
use Rattle.rules.proofs.theorems.int_is_kept.Goals as goal

pub returns : goal.returns
returns c = int_kept
