-- How a loader takes a chart and becomes a box. Assumes nothing.
use Rattle.std.specs.Prelude.{◌≡◌, ℕ, List, Ok, Err, Result}
use Rattle.blocks.specs.Meanings.{Meaning}
use Rattle.charts.specs.Pages.{block_limit}
use Rattle.charts.specs.Loading as Loading
use Rattle.charts.specs.Boxes.{Box, made, zeros_from}
use Rattle.loading.specs.declared.fault.LoadError.{LoadError}
use Rattle.loading.specs.FaultNumbers.{fault_number}
use Rattle.loading.specs.Models.{page_model, cells_model}
use Rattle.boxes.specs.declared.loader.Loader.{Loader}

-- the box that a loader makes: its page, its cells, and the input terminals at zero
abbrev pub box_to_be : {L : Type 0} → Loader L → Box
box_to_be l = record { page = page_model l.page; cells = cells_model l.page; terminals = zeros_from 0 32 }

-- Load: accepted, the loader holds the chart's page with its starting cells; refused, or without memory, it is as it was. The library stays.
abbrev pub Reloaded : {L : Type 0} → Meaning → List ℕ → Loader L → Result (Unit {0}) LoadError → Loader L → Type 0
Reloaded m chart old (Ok u) new = (Loading.load m.shape block_limit chart ≡ Ok (page_model new.page)) × (box_to_be new ≡ made m (page_model new.page)) × (new.library ≡ old.library)
Reloaded m chart old (Err (LoadError.Refused f place)) new = (Loading.load m.shape block_limit chart ≡ Err (fault_number f, place)) × (new ≡ old)
Reloaded m chart old (Err LoadError.Memory) new = new ≡ old
