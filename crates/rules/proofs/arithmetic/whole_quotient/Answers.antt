-- The quotient and the remainder fit, and the remainder is what the quotient leaves. Assumes nothing.
use Rattle.rules.proofs.Remainder.{left_over}
use Rattle.rules.proofs.arithmetic.whole_quotient.Goals as goal
use Rattle.rules.specs.Arithmetic.{quotient}
use Rattle.std.proofs.Common.{to_z-of_z, w32, SFits, rules}
use lib.Signed.{quot_z, rem_z}

pub returns : goal.returns
unfolding quotient
returns c =
    let q : SFits w32 (quot_z c.args.x1 c.args.x2) = search rules in
    let r : SFits w32 (rem_z c.args.x1 c.args.x2) = search rules in
    simp (to_z-of_z c.ranges.x1, to_z-of_z c.ranges.x2, to_z-of_z q, to_z-of_z r) (simp left_over)
