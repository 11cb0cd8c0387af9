-- The two comparisons decide what is outside. Assumes nothing.
use Rattle.rules.proofs.Outside.{outside_is}
use Rattle.rules.proofs.conversion.is_outside.Goals as goal

pub returns : goal.returns
returns c = let e = outside_is c.args.x in cc
