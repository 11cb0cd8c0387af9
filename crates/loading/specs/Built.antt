-- What is built of the records of a chart. Assumes nothing.
use Rattle.std.specs.Prelude.{◌≡◌, ℕ, List, map, vec_items}
use Rattle.blocks.specs.Meanings.{Meaning}
use Rattle.charts.specs.Boxes.{starting}
use Rattle.charts.specs.Loading as Loading
use Rattle.charts.specs.declared.page.Source.{Source}
use Rattle.loading.specs.declared.page.Block.{Block}
use Rattle.loading.specs.declared.page.Page.{Page}
use Rattle.loading.specs.Models.{block_model, page_model, cells_model}

-- the sources of a block's pins, by its kind and the body of its record
abbrev pub sources_in : Meaning → ℕ → List ℕ → List Source
sources_in m kind body = Loading.sources_of (Loading.pins_of (m.shape kind)) (Loading.pins_in body)

-- a block of a kind and a body, with its starting cells
abbrev pub BuiltBlock : Meaning → ℕ → List ℕ → Block → Type 0
BuiltBlock m kind body b = (block_model b ≡ record { kind = kind; pins = sources_in m kind body }) × (vec_items b.cells ≡ starting m kind)

-- the page of records, with its starting cells
abbrev pub Built : Meaning → List Loading.Raw → Page → Type 0
Built m rs p = (page_model p ≡ Loading.page_in m.shape rs) × (cells_model p ≡ map (λ b. starting m b.kind) (Loading.page_in m.shape rs).blocks)
