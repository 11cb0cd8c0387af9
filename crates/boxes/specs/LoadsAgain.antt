-- The saved chart of a sound box loads as the box's page. Assumes nothing.
use Rattle.std.specs.Prelude.{◌≡◌, ℕ, Ok}
use Rattle.blocks.specs.Meanings.{Meaning}
use Rattle.charts.specs.Boxes.{Box}
use Rattle.charts.specs.Charts.{written}
use Rattle.charts.specs.Loading.{load}
use Rattle.charts.specs.Laws.{SoundBox}

abbrev pub LoadsAgain : Meaning → Box → Type 0
LoadsAgain m box = (limit : ℕ) → SoundBox m limit box → load m.shape limit (written box.page) ≡ Ok box.page
