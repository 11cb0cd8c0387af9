use Rattle.std.proofs.Common.{sym}
use Rattle.steps.proofs.Written.{as_many}
use Rattle.steps.proofs.cells.put.Goals as goal

pub copy_from_slice-requires : goal.copy_from_slice-requires
copy_from_slice-requires g c = as_many c.args.new c.args.cells.now (sym c.if-not-are_same_types.ensures)
