-- A page in memory as the run of a trace starts from it. Assumes nothing.
use Rattle.std.specs.Prelude.{ℕ, [], map, slice_index_or, slice_set}
use Rattle.charts.specs.Pages as Pages
use Rattle.charts.specs.Boxes.{Box, zeros_from}
use Rattle.charts.specs.Tracing.{zeroed_source, zeroed, lighted}
use Rattle.loading.specs.declared.page.Page.{Page}
use Rattle.loading.specs.Models.{page_model, cells_model}

-- a block with its constants at zero
abbrev pub dimmed : Pages.Block → Pages.Block
dimmed b = record { kind = b.kind; pins = map zeroed_source b.pins }

-- the box of a page in memory with constants and terminals at zero and the cells of block t at 1
abbrev pub lit_box : Page → ℕ → Box
lit_box p t = record { page = zeroed (page_model p); cells = slice_set (cells_model p) t (lighted (slice_index_or (cells_model p) t [])); terminals = zeros_from 0 32 }
