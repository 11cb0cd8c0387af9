-- Past both tests, DIV_D is the quotient. Assumes nothing.
use Rattle.rules.proofs.arithmetic.div_d.Goals as goal
use borrow.Author.Differences.{ints}
use Rattle.std.proofs.Common.{arith}
use Rattle.std.proofs.lemmas.Int.{to_z-of_z}

pub returns-else-x1-x2 : goal.returns-else-x1-x2
returns-else-x1-x2 c = search (arith, ints, to_z-of_z, c.whole_quotient.ensures)
