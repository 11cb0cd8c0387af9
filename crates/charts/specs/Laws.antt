-- What is promised of charts and boxes, over every library and every list of calls. Assumes nothing.
use Rattle.std.specs.Prelude.{◌≡◌, ℕ, ◌<◌, ◌≤◌, true, ◌⊎◌, List, [], map, length, Some, Ok, Err, slice_index_or}
use Rattle.std.specs.List.{AllByRecursion, slice_get}
use Rattle.signals.specs.Signals.{type_of, Held}
use Rattle.signals.specs.declared.signal.Signal.{Signal}
use Rattle.blocks.specs.Meanings.{Shape, Meaning, Lawful, stepped}
use Rattle.charts.specs.declared.call.Call.{Call}
use Rattle.charts.specs.Pages.{Block, Page, Shapes}
use Rattle.charts.specs.Charts.{Bytes, written}
use Rattle.charts.specs.Loading.{Fault, load}
use Rattle.charts.specs.Soundness.{Sound}
use Rattle.charts.specs.Faults.{FirstFault}
use Rattle.charts.specs.Boxes.{Box, made, taken, CycleLaw, cycled}
use Rattle.charts.specs.Calls.{run}
use Rattle.charts.specs.Upstream.{Upstream, UpstreamCalls, Alike}
use Rattle.charts.specs.Tracing.{TraceLaw}

-- ---- loading

-- what load makes of a chart
pub record LoadLaw (shapes : Shapes) (limit : ℕ) (chart : List ℕ) : Type 0 where
  -- accepted as a page exactly if the page is sound and the chart is what save writes for it
  pub accepted_sound : (page : Page) → load shapes limit chart ≡ Ok page → Sound shapes limit page × (written page ≡ chart)
  pub sound_accepted : (page : Page) → Sound shapes limit page → written page ≡ chart → load shapes limit chart ≡ Ok page
  -- refused with a number and a place exactly if that is the first fault
  pub refused_fault : (f : Fault) → load shapes limit chart ≡ Err f → FirstFault shapes limit chart f
  pub fault_refused : (f : Fault) → FirstFault shapes limit chart f → load shapes limit chart ≡ Err f
  -- one or the other
  pub decided : ((page : Page) × (load shapes limit chart ≡ Ok page)) ⊎ ((f : Fault) × (load shapes limit chart ≡ Err f))

abbrev pub LoadingLaw : Type 0
LoadingLaw = (shapes : Shapes) (limit : ℕ) (chart : List ℕ) → Bytes chart → LoadLaw shapes limit chart

-- two libraries with the same shapes
abbrev pub SameShapes : Meaning → Meaning → Type 0
SameShapes m n = (k : ℕ) → k < 256 → m.shape k ≡ n.shape k

-- load depends on the library through its shapes alone
abbrev pub ByShapesLaw : Type 0
ByShapesLaw = (m n : Meaning) → Lawful m → Lawful n → SameShapes m n → (limit : ℕ) (chart : List ℕ) → load m.shape limit chart ≡ load n.shape limit chart

-- ---- the box

-- the machine holds every signal of a call
abbrev pub HeldCall : Call → Type 0
HeldCall (Call.Sample t x) = Held x
HeldCall (Call.Tune b p x) = Held x
HeldCall Call.Cycle = Unit {0}
HeldCall Call.Restart = Unit {0}
HeldCall (Call.Read b o) = Unit {0}
HeldCall (Call.Show t) = Unit {0}
HeldCall (Call.Save room) = Unit {0}

-- the cells of each block have the types of its kind's shape
abbrev pub TypedCells : Shapes → List Block → List (List Signal) → Type 0
TypedCells shapes bs cells = (b : ℕ) (k : Block) (s : Shape) → slice_get bs b ≡ Some k → shapes k.kind ≡ Some s → map type_of (slice_index_or cells b []) ≡ s.cells

-- a box in which nothing is missing and everything has its type
pub record SoundBox (m : Meaning) (limit : ℕ) (x : Box) : Type 0 where
  pub page_sound : Sound m.shape limit x.page
  pub as_many : length x.cells ≡ length x.page.blocks
  pub cells_typed : TypedCells m.shape x.page.blocks x.cells
  pub all_terminals : length x.terminals ≡ 32
  pub terminals_typed : (t : ℕ) → t < 32 → Rattle.signals.specs.Terminals.terminal_type t ≡ Some (type_of (slice_index_or x.terminals t (Signal.Bool true)))

-- no step is refused: the library takes each block's pins and cells as they stand when its turn comes
abbrev pub NoStepRefused : Meaning → Box → Type 0
NoStepRefused m x =
    (n : ℕ) (k : Block) → slice_get x.page.blocks n ≡ Some k
    → let cells = Rattle.charts.specs.Boxes.stepped_to m x.page x.terminals x.cells n in
    (stepped m k.kind (map (taken x.terminals cells) k.pins) (slice_index_or cells n [])).0 ≡ Ok tt

-- On a chart that load accepts, after any calls: the box is sound, a cycle obeys its law, and no step of it is refused; the saved chart loads as the box's page, and saving a box just made gives the chart.
pub record BoxLaw (m : Meaning) (limit : ℕ) (chart : List ℕ) (page : Page) (calls : List Call) : Type 0 where
  pub stays_sound : SoundBox m limit (run m (made m page) calls)
  pub cycle_law : CycleLaw m (run m (made m page) calls) (cycled m (run m (made m page) calls))
  pub none_refused : NoStepRefused m (run m (made m page) calls)
  pub saved_loads : load m.shape limit (written (run m (made m page) calls).page) ≡ Ok (run m (made m page) calls).page
  pub saved_back : written (made m page).page ≡ chart

abbrev pub BoxesLaw : Type 0
BoxesLaw =
    (m : Meaning) → Lawful m → (limit : ℕ) (chart : List ℕ) (page : Page) → Bytes chart → load m.shape limit chart ≡ Ok page
    → (calls : List Call) → AllByRecursion HeldCall calls → BoxLaw m limit chart page calls

-- ---- independence

-- the same starting cells, and the same new cells for all pins and cells of its types
pub record SameKind (m n : Meaning) (k : ℕ) : Type 0 where
  pub same_start : m.start k ≡ n.start k
  pub same_new : (s : Shape) (ps cs : List Signal) → m.shape k ≡ Some s → map type_of ps ≡ s.pins → map type_of cs ≡ s.cells → m.new k ps cs ≡ n.new k ps cs

abbrev pub SameUpstream : Meaning → Meaning → Page → ℕ → Type 0
SameUpstream m n page b = (u : ℕ) (k : Block) → Upstream page b u → slice_get page.blocks u ≡ Some k → SameKind m n k.kind

-- Each upstream block of b holds equal cells in both boxes.
abbrev pub EqualUpstream : Page → ℕ → Box → Box → Type 0
EqualUpstream page b x y = (u : ℕ) → Upstream page b u → slice_get x.cells u ≡ slice_get y.cells u

-- A box of a chart under one library and list of calls, against every other library with the same shapes and every other list of calls: the other library accepts the chart as the same page, and if it agrees on the kinds upstream of a block, and the block's upstream calls are alike, then each upstream block holds equal cells in both boxes.
pub record Independent (m : Meaning) (limit : ℕ) (chart : List ℕ) (page : Page) (calls : List Call) (n : Meaning) : Type 0 where
  pub accepted_alike : load n.shape limit chart ≡ Ok page
  pub equal_cells : (b : ℕ) → b < length page.blocks → SameUpstream m n page b
      → (others picked picked_others : List Call) → UpstreamCalls page b calls picked → UpstreamCalls page b others picked_others → Alike picked picked_others
      → EqualUpstream page b (run m (made m page) calls) (run n (made n page) others)

abbrev pub IndependenceLaw : Type 0
IndependenceLaw =
    (m : Meaning) → Lawful m → (limit : ℕ) (chart : List ℕ) (page : Page) → load m.shape limit chart ≡ Ok page → (calls : List Call)
    → (n : Meaning) → Lawful n → SameShapes m n → Independent m limit chart page calls n

-- every list has exactly one list of upstream calls
abbrev pub UpstreamCallsLaw : Type 0
UpstreamCallsLaw =
    (page : Page) (b : ℕ) (calls : List Call)
    → (picked : List Call) × UpstreamCalls page b calls picked × ((others : List Call) → UpstreamCalls page b calls others → others ≡ picked)

-- ---- trace

abbrev pub TracingLaw : Type 0
TracingLaw =
    (m : Meaning) → Lawful m → (limit : ℕ) (chart : List ℕ) (page : Page) → load m.shape limit chart ≡ Ok page
    → (t : ℕ) → t < length page.blocks → (n : ℕ) → length page.blocks ≤ n → TraceLaw m page t n
