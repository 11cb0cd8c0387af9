use Rattle.signals.proofs.Cleanings.{cleaning}
use Rattle.signals.proofs.signal.cleaning_is_sound.Goals as goal

pub returns : goal.returns
returns c = cleaning
