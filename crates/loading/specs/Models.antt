-- What a page in memory stands for: a page of the rules, and the cells of its blocks. Assumes nothing.
use Rattle.std.specs.Prelude.{List, map, vec_items}
use Rattle.charts.specs.Pages as Pages
use Rattle.charts.specs.Boxes.{Cells}
use Rattle.loading.specs.declared.page.Block.{Block}
use Rattle.loading.specs.declared.page.Page.{Page}

abbrev pub block_model : Block → Pages.Block
block_model b = record { kind = b.kind; pins = vec_items b.pins }

-- kinds and pin sources
abbrev pub wiring : List Block → List Pages.Block
wiring = map block_model

-- the cells of each block
abbrev pub all_cells : List Block → Cells
all_cells = map (λ b. vec_items b.cells)

abbrev pub page_model : Page → Pages.Page
page_model p = record { blocks = wiring (vec_items p.blocks); outputs = vec_items p.outputs }

abbrev pub cells_model : Page → Cells
cells_model p = all_cells (vec_items p.blocks)
