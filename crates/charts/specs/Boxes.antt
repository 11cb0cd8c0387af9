-- A box: its page, the cells of its blocks and its input terminals; how it is made, and what a cycle and a restart do. Assumes nothing.
use Rattle.std.specs.Prelude.{◌≡◌, ℕ, zero, suc, false, cond, List, [], ◌∷◌, map, length, Some, None, Option, nat_lt, slice_index_or, slice_set}
use Rattle.std.specs.List.{slice_get}
use Rattle.signals.specs.Signals.{zero_of}
use Rattle.signals.specs.Terminals.{terminal_type}
use Rattle.signals.specs.declared.signal.Signal.{Signal}
use Rattle.signals.specs.declared.signal.SignalType.{SignalType}
use Rattle.blocks.specs.Meanings.{Shape, Meaning, stepped}
use Rattle.charts.specs.declared.page.Source.{Source}
use Rattle.charts.specs.Pages.{Block, Page}

-- The cells of each block, the blocks in their order.
abbrev pub Cells : Type 0
Cells = List (List Signal)

pub record Box : Type 0 where
  pub page : Page
  pub cells : Cells
  pub terminals : List Signal

-- ---- the making

-- the starting cells of a kind, none for a kind without a shape
abbrev pub starting_as : Option Shape → List Signal → List Signal
starting_as None xs = []
starting_as (Some s) xs = xs

abbrev pub starting : Meaning → ℕ → List Signal
starting m k = starting_as (m.shape k) (m.start k)

abbrev pub zero_at : Option SignalType → Signal
zero_at None = Signal.Bool false
zero_at (Some t) = zero_of t

-- the first n input terminals, each at the zero of its type
abbrev pub zeros_from : ℕ → ℕ → List Signal
zeros_from t zero = []
zeros_from t (suc n) = zero_at (terminal_type t) ∷ zeros_from (suc t) n

abbrev pub made : Meaning → Page → Box
made m p = record { page = p; cells = map (λ b. starting m b.kind) p.blocks; terminals = zeros_from 0 32 }

-- ---- what a pin takes

-- what stands at a place, and a false BOOL where nothing does; on a sound page something does
abbrev pub signal_at : List Signal → ℕ → Signal
signal_at xs i = slice_index_or xs i (Signal.Bool false)

abbrev pub cell_at : Cells → ℕ → ℕ → Signal
cell_at cells b o = signal_at (slice_index_or cells b []) o

-- a pin takes its constant, its terminal or the named cell as it then stands
abbrev pub taken : List Signal → Cells → Source → Signal
taken terminals cells (Source.Constant x) = x
taken terminals cells (Source.Terminal t) = signal_at terminals t
taken terminals cells (Source.Output b o) = cell_at cells b o

-- ---- the cycle

-- a block's step: the library's new cells; a step that the library refuses would leave them
abbrev pub step_of : Meaning → List Signal → Cells → Block → List Signal → List Signal
step_of m terminals cells b old = (stepped m b.kind (map (taken terminals cells) b.pins) old).1

abbrev pub step_at : Meaning → List Signal → Option Block → ℕ → Cells → Cells
step_at m terminals None i cells = cells
step_at m terminals (Some b) i cells = slice_set cells i (step_of m terminals cells b (slice_index_or cells i []))

-- the cells after the first n blocks have stepped, in run order
abbrev pub stepped_to : Meaning → Page → List Signal → Cells → ℕ → Cells
stepped_to m p terminals cells zero = cells
stepped_to m p terminals cells (suc n) = step_at m terminals (slice_get p.blocks n) n (stepped_to m p terminals cells n)

abbrev pub cycled : Meaning → Box → Box
cycled m x = record { page = x.page; cells = stepped_to m x.page x.terminals x.cells (length x.page.blocks); terminals = x.terminals }

-- ---- the restart

-- starting cells laid over the old ones, as many as there are; in a box that was made of a page they replace all
abbrev pub laid : List Signal → List Signal → List Signal
laid [] old = old
laid (x ∷ xs) [] = []
laid (x ∷ xs) (y ∷ ys) = x ∷ laid xs ys

abbrev pub restarted_cells : Meaning → List Block → Cells → Cells
restarted_cells m [] cells = cells
restarted_cells m (b ∷ bs) [] = []
restarted_cells m (b ∷ bs) (c ∷ cs) = laid (starting m b.kind) c ∷ restarted_cells m bs cs

abbrev pub restarted : Meaning → Box → Box
restarted m x = record { page = x.page; cells = restarted_cells m x.page.blocks x.cells; terminals = x.terminals }

-- ---- the law of a cycle, in the subject's words

-- What a pin of block b takes in a cycle: a wire brings the new cell of an earlier block, and the last cycle's cell of the block itself or a later one.
abbrev pub seen : List Signal → (before after : Cells) → ℕ → Source → Signal
seen terminals before after b (Source.Constant x) = x
seen terminals before after b (Source.Terminal t) = signal_at terminals t
seen terminals before after b (Source.Output c o) = cond (nat_lt c b) (cell_at after c o) (cell_at before c o)

-- every block's new cells are what its kind's rule gives for its old cells and its pins; nothing else changes
pub record CycleLaw (m : Meaning) (x y : Box) : Type 0 where
  pub same_page : y.page ≡ x.page
  pub same_terminals : y.terminals ≡ x.terminals
  pub as_many : length y.cells ≡ length x.cells
  pub new_cells : (b : ℕ) (k : Block) → slice_get x.page.blocks b ≡ Some k
      → slice_get y.cells b ≡ Some (m.new k.kind (map (seen x.terminals x.cells y.cells b) k.pins) (slice_index_or x.cells b []))
