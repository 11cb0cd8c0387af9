-- What a whole run promises. Assumes nothing.
use Rattle.std.specs.Prelude.{◌≡◌, ℕ, List, map, Ok, Err, vec_items, Result}
use Rattle.blocks.specs.Meanings.{Meaning, Lawful}
use Rattle.blocks.specs.Refusals.{numbered}
use Rattle.charts.specs.declared.call.Call.{Call}
use Rattle.charts.specs.Pages.{Page, block_limit}
use Rattle.charts.specs.Loading.{load}
use Rattle.charts.specs.Boxes.{made}
use Rattle.charts.specs.Calls.{run, answers}
use Rattle.charts.specs.Laws.{SameShapes, Independent}
use Rattle.loading.specs.declared.fault.LoadError.{LoadError}
use Rattle.loading.specs.FaultNumbers.{fault_number}
use Rattle.boxes.specs.declared.gate_box.GateBox.{GateBox}
use Rattle.engine.specs.declared.run.BoxRun.{BoxRun}

-- the box of a chart, just made, over the library; or the chart's fault
abbrev pub Started : {L : Type 0} → Meaning → L → List ℕ → Result (GateBox L) LoadError → Type 0
Started m library chart (Ok x) =
    (load m.shape block_limit chart ≡ Ok x.box.page) × (x.box ≡ made m x.box.page) × (x.library ≡ library)
Started m library chart (Err (LoadError.Refused f place)) = load m.shape block_limit chart ≡ Err (fault_number f, place)
Started m library chart (Err LoadError.Memory) = Unit {0}

-- the box is the rules' run of these calls, and each call answered as the rules say
abbrev pub Performed : {L : Type 0} → Meaning → GateBox L → List Call → BoxRun L → Type 0
Performed m x calls r =
    (r.gate_box.box ≡ run m x.box calls) × (map numbered (vec_items r.answers) ≡ answers m x.box calls) × (r.gate_box.library ≡ x.library)

-- a run of a chart that was accepted as a page
pub record Whole {L : Type 0} (m : Meaning) (chart : List ℕ) (calls : List Call) (r : BoxRun L) : Type 0 where
  pub page : Page
  pub accepted : load m.shape block_limit chart ≡ Ok page
  -- the box is the rules' run of these calls on the box made of this chart
  pub ends_as : r.gate_box.box ≡ run m (made m page) calls
  -- each call answered as the rules say
  pub answered : map numbered (vec_items r.answers) ≡ answers m (made m page) calls
  -- against every other library with the same shapes and every other list of calls, a block's cells depend on its upstream alone
  pub independent : (n : Meaning) → Lawful n → SameShapes m n → Independent m block_limit chart page calls n

abbrev pub Ran : {L : Type 0} → Meaning → List ℕ → List Call → Result (BoxRun L) LoadError → Type 0
Ran m chart calls (Ok r) = Whole m chart calls r
Ran m chart calls (Err (LoadError.Refused f place)) = load m.shape block_limit chart ≡ Err (fault_number f, place)
Ran m chart calls (Err LoadError.Memory) = Unit {0}
