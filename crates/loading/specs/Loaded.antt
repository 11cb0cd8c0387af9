-- What load answers. Assumes nothing.
use Rattle.std.specs.Prelude.{◌≡◌, ℕ, ◌≤◌, List, length, Ok, Err, vec_items, Result, Vec}
use Rattle.std.specs.declared.alloc.Global.{Global}
use Rattle.blocks.specs.Meanings.{Meaning}
use Rattle.charts.specs.Pages.{block_limit}
use Rattle.charts.specs.Charts.{written}
use Rattle.charts.specs.Loading as Loading
use Rattle.charts.specs.Soundness.{Sound}
use Rattle.charts.specs.Faults.{FirstFault}
use Rattle.charts.specs.Boxes.{made}
use Rattle.loading.specs.declared.fault.LoadError.{LoadError}
use Rattle.loading.specs.declared.page.Page.{Page}
use Rattle.loading.specs.FaultNumbers.{fault_number}
use Rattle.loading.specs.Models.{page_model, cells_model}

-- Accepted: the page of the chart by the rules, with its starting cells. Refused: the chart's fault by the rules. Without memory nothing is said of the chart.
abbrev pub Loaded : Meaning → List ℕ → Result Page LoadError → Type 0
Loaded m chart (Ok p) = (Loading.load m.shape block_limit chart ≡ Ok (page_model p)) × (cells_model p ≡ (made m (page_model p)).cells)
Loaded m chart (Err (LoadError.Refused f place)) = Loading.load m.shape block_limit chart ≡ Err (fault_number f, place)
Loaded m chart (Err LoadError.Memory) = Unit {0}

-- The same in the subject's words. Accepted: a sound page, and the chart is what save writes for it. Refused: the first fault of the chart, by number and place.
abbrev pub Means : Meaning → List ℕ → Result Page LoadError → Type 0
Means m chart (Ok p) = Sound m.shape block_limit (page_model p) × (written (page_model p) ≡ chart)
Means m chart (Err (LoadError.Refused f place)) = FirstFault m.shape block_limit chart (fault_number f, place)
Means m chart (Err LoadError.Memory) = Unit {0}

-- walk one: the kinds of the blocks among the chart's records, of which there are some; or the chart's fault
abbrev pub WalkedOne : Meaning → List ℕ → Result (Vec ℕ Global) LoadError → Type 0
WalkedOne m chart (Ok ks) =
    (rs : List Loading.Raw) × (Loading.walk_one m.shape block_limit Loading.nothing_met 0 0 chart ≡ Ok rs) × (Loading.kinds_in rs ≡ vec_items ks) × (1 ≤ length (vec_items ks))
WalkedOne m chart (Err (LoadError.Refused f place)) = Loading.load m.shape block_limit chart ≡ Err (fault_number f, place)
WalkedOne m chart (Err LoadError.Memory) = Unit {0}
