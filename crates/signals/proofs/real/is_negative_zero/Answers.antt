use Rattle.std.proofs.Common.{◌∙◌}
use Rattle.signals.proofs.Reals.{zero_signed, zero_by_sign, unequal_no_zero}
use Rattle.signals.proofs.real.is_negative_zero.Goals as goal

pub is_sign_negative-requires : goal.is_sign_negative-requires
is_sign_negative-requires c = zero_signed _ c.if-x.true

pub returns-then-x : goal.returns-then-x
returns-then-x c = c.is_sign_negative.ensures ∙ zero_by_sign _ c.if-x.true

pub returns-else-x : goal.returns-else-x
returns-else-x c = c.if-x.false ∙ unequal_no_zero _ c.if-x.false
