-- The kinds of the standard and the house library: numbers, pins, starting cells and outputs. Assumes nothing.
use Rattle.std.specs.Prelude.{ℕ, zero, suc, ◌≤◌, true, false, List, [], ◌∷◌, map, length, pos, None, Option}
use Rattle.std.proofs.Common.{lit≤}
use Rattle.std.specs.List.{slice_get}
use Rattle.signals.specs.Real.{zero_real}
use Rattle.signals.specs.Signals.{type_of}
use Rattle.signals.specs.declared.signal.Signal.{Signal}
use Rattle.signals.specs.declared.signal.SignalType.{SignalType}
use Rattle.blocks.specs.Meanings.{Shape}
use Rattle.table.specs.declared.Kind.{Kind}
use Rattle.table.specs.declared.Kind.TheVariants.{And, Or, Not, Add, AddD, DivD, Lim, LimD, Pde, Ctr, Rsr, NswD, IR, RD, N2R, Hys}

-- kinds count from 1; kind 0 is none
abbrev pub counted_from_one : List Kind → ℕ → Option Kind
counted_from_one ks zero = None
counted_from_one ks (suc n) = slice_get ks n

abbrev pub standard_kinds : List Kind
standard_kinds = And ∷ Or ∷ Not ∷ Add ∷ AddD ∷ DivD ∷ Lim ∷ LimD ∷ Pde ∷ Ctr ∷ Rsr ∷ NswD ∷ IR ∷ RD ∷ N2R ∷ []

abbrev pub house_kinds : List Kind
house_kinds = Hys ∷ []

-- numbers are bytes
pub few_standard : length standard_kinds ≤ 255
few_standard = lit≤ tt

pub few_house : length house_kinds ≤ 255
few_house = lit≤ tt

abbrev pub standard_kind : ℕ → Option Kind
standard_kind = counted_from_one standard_kinds

abbrev pub house_kind : ℕ → Option Kind
house_kind = counted_from_one house_kinds

abbrev bit : SignalType
bit = SignalType.Bool

abbrev int : SignalType
int = SignalType.Int

abbrev dint : SignalType
dint = SignalType.Dint

abbrev real : SignalType
real = SignalType.Real

abbrev pub pin_types : Kind → List SignalType
pin_types And = bit ∷ bit ∷ []
pin_types Or = bit ∷ bit ∷ []
pin_types Not = bit ∷ []
pin_types Add = real ∷ real ∷ []
pin_types AddD = dint ∷ dint ∷ []
pin_types DivD = dint ∷ dint ∷ []
pin_types Lim = real ∷ real ∷ real ∷ []
pin_types LimD = dint ∷ dint ∷ dint ∷ []
pin_types Pde = bit ∷ dint ∷ []
pin_types Ctr = bit ∷ bit ∷ bit ∷ int ∷ int ∷ []
pin_types Rsr = bit ∷ bit ∷ []
pin_types NswD = dint ∷ dint ∷ bit ∷ []
pin_types IR = int ∷ []
pin_types RD = real ∷ []
pin_types N2R = int ∷ real ∷ int ∷ []
pin_types Hys = dint ∷ dint ∷ dint ∷ []

abbrev off : Signal
off = Signal.Bool false

abbrev on : Signal
on = Signal.Bool true

abbrev no_int : Signal
no_int = Signal.Int (pos 0)

abbrev no_dint : Signal
no_dint = Signal.Dint (pos 0)

abbrev no_real : Signal
no_real = Signal.Real zero_real

-- Cells start at zero, except QU and QL of the limiters, which start at 1. A cell has the type of its starting signal.
abbrev pub start_cells : Kind → List Signal
start_cells And = off ∷ []
start_cells Or = off ∷ []
start_cells Not = off ∷ []
start_cells Add = no_real ∷ []
start_cells AddD = no_dint ∷ []
start_cells DivD = no_dint ∷ no_dint ∷ off ∷ []
start_cells Lim = no_real ∷ on ∷ on ∷ []
start_cells LimD = no_dint ∷ on ∷ on ∷ []
start_cells Pde = off ∷ no_dint ∷ []
start_cells Ctr = no_int ∷ off ∷ off ∷ off ∷ off ∷ []
start_cells Rsr = off ∷ []
start_cells NswD = no_dint ∷ []
start_cells IR = no_real ∷ []
start_cells RD = no_dint ∷ off ∷ []
start_cells N2R = no_real ∷ []
start_cells Hys = off ∷ []

-- the outputs are the first cells; N of PDE, and PU and PD of CTR are hidden
abbrev pub output_count : Kind → ℕ
output_count And = 1
output_count Or = 1
output_count Not = 1
output_count Add = 1
output_count AddD = 1
output_count DivD = 3
output_count Lim = 3
output_count LimD = 3
output_count Pde = 1
output_count Ctr = 3
output_count Rsr = 1
output_count NswD = 1
output_count IR = 1
output_count RD = 2
output_count N2R = 1
output_count Hys = 1

abbrev pub shape_of : Kind → Shape
shape_of k = record { pins = pin_types k; cells = map type_of (start_cells k); outputs = output_count k }
