-- The chart: a page in bytes, as save writes it. Assumes nothing.
use Rattle.std.specs.Prelude.{ℕ, ◌<◌, List, [], ◌∷◌, ◌++◌}
use Rattle.std.specs.List.{flat_map, AllByRecursion}
use Rattle.signals.specs.Coding.{encoded}
use Rattle.charts.specs.declared.page.Source.{Source}
use Rattle.charts.specs.declared.page.OutputRecord.{OutputRecord}
use Rattle.charts.specs.Pages.{Block, Page}

-- a list of bytes
abbrev pub Bytes : List ℕ → Type 0
Bytes = AllByRecursion (λ b. b < 256)

-- A pin source is a tag and four bytes: 0 and a coded constant, 1 and a terminal, 2 and an output of a block.
abbrev pub source_bytes : Source → List ℕ
source_bytes (Source.Constant x) = 0 ∷ encoded x
source_bytes (Source.Terminal t) = 1 ∷ 0 ∷ 0 ∷ 0 ∷ t ∷ []
source_bytes (Source.Output b o) = 2 ∷ 0 ∷ 0 ∷ b ∷ o ∷ []

-- a block record: the kind, then five bytes a pin
abbrev pub block_bytes : Block → List ℕ
block_bytes b = b.kind ∷ flat_map source_bytes b.pins

-- an output record: kind 0, then terminal, block, output
abbrev pub output_bytes : OutputRecord → List ℕ
output_bytes r = 0 ∷ r.terminal ∷ r.block ∷ r.output ∷ []

abbrev pub written : Page → List ℕ
written page = flat_map block_bytes page.blocks ++ flat_map output_bytes page.outputs
