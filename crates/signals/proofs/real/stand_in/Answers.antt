use Rattle.signals.proofs.Reals.{high_end, low_end, no_end}
use Rattle.signals.proofs.real.stand_in.Goals as goal

pub returns-then-x : goal.returns-then-x
returns-then-x c = high_end _ c.requires c.if-x.true

pub returns-then-x-2 : goal.returns-then-x-2
returns-then-x-2 c = low_end _ c.requires c.if-x-2.true

pub returns-else-x-2 : goal.returns-else-x-2
returns-else-x-2 c = no_end _ c.if-x.false c.if-x-2.false
