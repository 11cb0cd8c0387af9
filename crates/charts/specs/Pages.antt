-- A page: blocks with their pin sources, and output records. Assumes nothing.
use Rattle.std.specs.Prelude.{ℕ, cond, List, [], map, Some, None, Option, nat_lt}
use Rattle.std.specs.List.{slice_get}
use Rattle.signals.specs.declared.signal.SignalType.{SignalType}
use Rattle.blocks.specs.Meanings.{Shape, with_shape}
use Rattle.charts.specs.declared.page.Source.{Source}
use Rattle.charts.specs.declared.page.OutputRecord.{OutputRecord}

-- the most blocks that a page may have
abbrev pub block_limit : ℕ
block_limit = 64

-- a block: its kind, and a source for each of its pins
pub record Block : Type 0 where
  pub kind : ℕ
  pub pins : List Source

-- Blocks count from 0; their order is the run order.
pub record Page : Type 0 where
  pub blocks : List Block
  pub outputs : List OutputRecord

abbrev pub no_page : Page
no_page = record { blocks = []; outputs = [] }

-- the kinds of the blocks, in their order
abbrev pub kinds_of : Page → List ℕ
kinds_of page = map (λ b. b.kind) page.blocks

-- the source of a pin of a block, none where the block or the pin is missing
abbrev pub source_in : Option Block → ℕ → Option Source
source_in None p = None
source_in (Some b) p = slice_get b.pins p

abbrev pub source : Page → ℕ → ℕ → Option Source
source page b p = source_in (slice_get page.blocks b) p

-- a library's shapes alone: all that a chart's form depends on
abbrev pub Shapes : Type 0
Shapes = ℕ → Option Shape

-- the type of an output of a shape; hidden cells are no outputs
abbrev pub output_type : Shape → ℕ → Option SignalType
output_type s o = cond (nat_lt o s.outputs) (slice_get s.cells o) None

-- the type of an output of a block, given the kinds of the blocks; none where the block or the output is missing
abbrev pub output_of_kind : Shapes → Option ℕ → ℕ → Option SignalType
output_of_kind shapes None o = None
output_of_kind shapes (Some k) o = with_shape (shapes k) (λ s. output_type s o)

abbrev pub wire_type : Shapes → List ℕ → ℕ → ℕ → Option SignalType
wire_type shapes kinds b o = output_of_kind shapes (slice_get kinds b) o
