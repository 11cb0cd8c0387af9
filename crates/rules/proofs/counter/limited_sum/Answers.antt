-- The limiter gives of the nearest INT what it gives of the sum itself. Assumes nothing.
use Rattle.rules.proofs.Limits.{limited_nearest}
use Rattle.rules.proofs.counter.limited_sum.Goals as goal
use Rattle.rules.specs.Counter.{counter_sum}
use Rattle.std.proofs.Common.{to_z-of_z, w16, SFits, rules}

pub returns : goal.returns
returns c =
    let u : SFits w16 c.args.pins.lu = search rules in
    let l : SFits w16 c.args.pins.ll = search rules in
    let s : SFits w16 c.summed.result = search rules in
    let e = simp (to_z-of_z u, to_z-of_z l, to_z-of_z s) at c.limit.ensures in
    let k = limited_nearest (counter_sum c.args.pins c.args.memory) c.args.pins.lu c.args.pins.ll u l in
    cc
