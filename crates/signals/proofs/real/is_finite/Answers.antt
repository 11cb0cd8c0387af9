use Rattle.std.proofs.Common.{◌∙◌}
use Rattle.signals.proofs.Reals.{finite_is}
use Rattle.signals.proofs.real.is_finite.Goals as goal

pub returns : goal.returns
returns c = c.is_finite.ensures.value ∙ finite_is _
