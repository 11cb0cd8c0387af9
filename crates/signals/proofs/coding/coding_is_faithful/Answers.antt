use Rattle.signals.proofs.Codings.{coding_faithful}
use Rattle.signals.proofs.coding.coding_is_faithful.Goals as goal

pub returns : goal.returns
returns c = coding_faithful
