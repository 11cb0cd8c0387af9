use Rattle.std.proofs.Common.{length, vec_items}
use Rattle.console.proofs.Reading.{RestDecides}
use Rattle.console.proofs.read.read_requests.Given as goal

abbrev pub invariant-loop-rest : goal.invariant-loop-rest
invariant-loop-rest l = RestDecides l.bytes (vec_items l.items) l.rest

abbrev pub decreases-loop-rest : goal.decreases-loop-rest
decreases-loop-rest l = length l.rest
