-- What a step of each kind makes of its pins and cells. Assumes nothing.
use Rattle.std.specs.Prelude.{ℕ, Bool, false, cond, List, [], ◌∷◌, map, ℤ, pos, Some, None, Ok, Err, Option, Result, int_lt, slice_index_or, Float}
use Rattle.std.specs.Float.Ieee.{lt}
use Rattle.signals.specs.Real.{zero_real}
use Rattle.signals.specs.Signals.{type_of}
use Rattle.signals.specs.declared.signal.Signal.{Signal}
use Rattle.blocks.specs.Meanings.{stepped_as, typed}
use Rattle.rules.specs.Gates.{both, either, opposite, remembered, switched, hysteresis}
use Rattle.rules.specs.Arithmetic.{real_sum, dint_sum, divided}
use Rattle.rules.specs.Limiter.{limited}
use Rattle.rules.specs.Delay.{delayed}
use Rattle.rules.specs.Counter.{counted}
use Rattle.rules.specs.Conversion.{real, whole, scaled}
use Rattle.rules.specs.declared.limiter.Limited.{Limited}
use Rattle.rules.specs.declared.arithmetic.Divided.{Divided}
use Rattle.rules.specs.declared.delay.Delayed.{Delayed}
use Rattle.rules.specs.declared.counter.Counted.{Counted}
use Rattle.rules.specs.declared.counter.CounterMemory.{CounterMemory}
use Rattle.rules.specs.declared.counter.CounterPins.{CounterPins}
use Rattle.rules.specs.declared.conversion.Whole.{Whole}
use Rattle.table.specs.Kinds.{shape_of, pin_types}
use Rattle.table.specs.declared.Kind.{Kind}
use Rattle.table.specs.declared.Kind.TheVariants.{And, Or, Not, Add, AddD, DivD, Lim, LimD, Pde, Ctr, Rsr, NswD, IR, RD, N2R, Hys}

-- ---- the value of a signal at its type; of another type the zero stands here, which no step that is taken reads

abbrev pub as_bool : Signal → Bool
as_bool (Signal.Bool b) = b
as_bool (Signal.Int n) = false
as_bool (Signal.Dint n) = false
as_bool (Signal.Real x) = false

abbrev pub as_int : Signal → ℤ
as_int (Signal.Bool b) = pos 0
as_int (Signal.Int n) = n
as_int (Signal.Dint n) = pos 0
as_int (Signal.Real x) = pos 0

abbrev pub as_dint : Signal → ℤ
as_dint (Signal.Bool b) = pos 0
as_dint (Signal.Int n) = pos 0
as_dint (Signal.Dint n) = n
as_dint (Signal.Real x) = pos 0

abbrev pub as_real : Signal → Float
as_real (Signal.Bool b) = zero_real
as_real (Signal.Int n) = zero_real
as_real (Signal.Dint n) = zero_real
as_real (Signal.Real x) = x

-- the i-th pin or cell
abbrev pub at : List Signal → ℕ → Signal
at xs i = slice_index_or xs i (Signal.Bool false)

abbrev pub bool_at : List Signal → ℕ → Bool
bool_at xs i = as_bool (at xs i)

abbrev pub int_at : List Signal → ℕ → ℤ
int_at xs i = as_int (at xs i)

abbrev pub dint_at : List Signal → ℕ → ℤ
dint_at xs i = as_dint (at xs i)

abbrev pub real_at : List Signal → ℕ → Float
real_at xs i = as_real (at xs i)

-- New cells in place of the old ones: the answer and the cells after it. 11 for another count or other types, with the cells left.
abbrev pub replaced : List Signal → List Signal → Result (Unit {0}) ℕ × List Signal
replaced new cs = cond (typed (map type_of new) cs) (Ok tt, new) (Err 11, cs)

-- ---- results as cells, in the order of the outputs and then of the hidden cells

abbrev pub divided_cells : Divided → List Signal
divided_cells d = Signal.Dint d.y ∷ Signal.Dint d.rest ∷ Signal.Bool d.qf ∷ []

abbrev pub limited_cells : {T : Type 0} → (T → Signal) → Limited T → List Signal
limited_cells signal l = signal l.y ∷ Signal.Bool l.qu ∷ Signal.Bool l.ql ∷ []

abbrev pub delayed_cells : Delayed → List Signal
delayed_cells d = Signal.Bool d.q ∷ Signal.Dint d.n ∷ []

abbrev pub counted_cells : Counted → List Signal
counted_cells c = Signal.Int c.count.y ∷ Signal.Bool c.count.qu ∷ Signal.Bool c.count.ql ∷ Signal.Bool c.pu ∷ Signal.Bool c.pd ∷ []

abbrev pub whole_cells : Whole → List Signal
whole_cells w = Signal.Dint w.y ∷ Signal.Bool w.qf ∷ []

-- ---- the pins and the memory of the counter

abbrev pub pins_by_name : List Signal → CounterPins
pins_by_name ps = record { iu = bool_at ps 0; id = bool_at ps 1; r = bool_at ps 2; lu = int_at ps 3; ll = int_at ps 4 }

abbrev pub memory_by_name : List Signal → CounterMemory
memory_by_name cs = record { y = int_at cs 0; pu = bool_at cs 3; pd = bool_at cs 4 }

-- none for signals that are not a counter's
abbrev pub counter_pins : List Signal → Option CounterPins
counter_pins ps = cond (typed (pin_types Ctr) ps) (Some (pins_by_name ps)) None

abbrev pub counter_memory : List Signal → Option CounterMemory
counter_memory cs = cond (typed (shape_of Ctr).cells cs) (Some (memory_by_name cs)) None

-- ---- the new cells of each kind, for its pins and its old cells

abbrev pub new_cells : Kind → List Signal → List Signal → List Signal
new_cells And ps cs = Signal.Bool (both (bool_at ps 0) (bool_at ps 1)) ∷ []
new_cells Or ps cs = Signal.Bool (either (bool_at ps 0) (bool_at ps 1)) ∷ []
new_cells Not ps cs = Signal.Bool (opposite (bool_at ps 0)) ∷ []
new_cells Add ps cs = Signal.Real (real_sum (real_at ps 0) (real_at ps 1)) ∷ []
new_cells AddD ps cs = Signal.Dint (dint_sum (dint_at ps 0) (dint_at ps 1)) ∷ []
new_cells DivD ps cs = divided_cells (divided (dint_at ps 0) (dint_at ps 1))
new_cells Lim ps cs = limited_cells (λ y. Signal.Real y) (limited lt (real_at ps 0) (real_at ps 1) (real_at ps 2))
new_cells LimD ps cs = limited_cells (λ y. Signal.Dint y) (limited int_lt (dint_at ps 0) (dint_at ps 1) (dint_at ps 2))
new_cells Pde ps cs = delayed_cells (delayed (bool_at ps 0) (dint_at ps 1) (dint_at cs 1))
new_cells Ctr ps cs = counted_cells (counted (pins_by_name ps) (memory_by_name cs))
new_cells Rsr ps cs = Signal.Bool (remembered (bool_at ps 0) (bool_at ps 1) (bool_at cs 0)) ∷ []
new_cells NswD ps cs = Signal.Dint (switched (dint_at ps 0) (dint_at ps 1) (bool_at ps 2)) ∷ []
new_cells IR ps cs = Signal.Real (real (int_at ps 0)) ∷ []
new_cells RD ps cs = whole_cells (whole (real_at ps 0))
new_cells N2R ps cs = Signal.Real (scaled (int_at ps 0) (record { factor = real_at ps 1; reference = int_at ps 2 })) ∷ []
new_cells Hys ps cs = Signal.Bool (hysteresis (dint_at ps 0) (dint_at ps 1) (dint_at ps 2) (bool_at cs 0)) ∷ []

-- the answer of a step and the cells after it
abbrev pub stepped_kind : Kind → List Signal → List Signal → Result (Unit {0}) ℕ × List Signal
stepped_kind k ps cs = stepped_as (Some (shape_of k)) (new_cells k) ps cs
