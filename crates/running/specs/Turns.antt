-- The blocks of a page in memory, and what they are as one after the other has its turn. Assumes nothing.
use Rattle.std.specs.Prelude.{◌≡◌, ℕ, List, []}
use Rattle.signals.specs.declared.signal.Signal.{Signal}
use Rattle.blocks.specs.Meanings.{Meaning}
use Rattle.charts.specs.Pages as Pages
use Rattle.charts.specs.Boxes.{Box, stepped_to, CycleLaw}
use Rattle.charts.specs.Laws.{SoundBox, NoStepRefused}
use Rattle.loading.specs.declared.page.Block.{Block}
use Rattle.loading.specs.declared.page.Page.{Page}
use Rattle.loading.specs.Models.{page_model, cells_model, wiring, all_cells}

-- a page with its cells, and the terminals: a box
abbrev pub box_of : Page → List Signal → Box
box_of p terminals = record { page = page_model p; cells = cells_model p; terminals = terminals }

-- a page of these blocks; output records have no part in a cycle
abbrev pub page_of : List Block → Pages.Page
page_of bs = record { blocks = wiring bs; outputs = [] }

-- The first n of the old blocks have stepped, and the blocks are these now.
pub record Turned (m : Meaning) (terminals : List Signal) (old bs : List Block) (n : ℕ) : Type 0 where
  pub same_wiring : wiring bs ≡ wiring old
  pub new_cells : all_cells bs ≡ stepped_to m (page_of old) terminals (all_cells old) n

-- on a sound box, what a cycle makes of it obeys the law of a cycle, and no step is refused
abbrev pub SoundCycle : Meaning → Box → Box → Type 0
SoundCycle m x y = (limit : ℕ) → SoundBox m limit x → CycleLaw m x y × NoStepRefused m x
