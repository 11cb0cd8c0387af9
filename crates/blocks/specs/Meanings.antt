-- The meaning of a block library, the law that it keeps, and what the library answers. Assumes nothing.
use Rattle.std.specs.Prelude.{◌≡◌, ℕ, ◌≤◌, Bool, true, false, cond, ◌&&◌, List, [], ◌∷◌, map, length, Some, None, Ok, Err, Option, Result, ◌==◌}
use Rattle.std.specs.Option.{option_map}
use Rattle.std.specs.List.{slice_get}
use Rattle.signals.specs.Signals.{type_of}
use Rattle.signals.specs.declared.signal.Signal.{Signal}
use Rattle.signals.specs.declared.signal.SignalType.{SignalType}

-- The typed pins and cells of a kind. The outputs are the first cells, the others are hidden.
pub record Shape : Type 0 where
  pub pins : List SignalType
  pub cells : List SignalType
  pub outputs : ℕ

-- For each kind a shape or none, and for each kind with a shape the starting cells and, for all pins and cells, the new cells.
pub record Meaning : Type 0 where
  pub shape : ℕ → Option Shape
  pub start : ℕ → List Signal
  pub new : ℕ → List Signal → List Signal → List Signal

-- ---- the law

pub record Sized (s : Shape) : Type 0 where
  pub some_pins : 1 ≤ length s.pins
  pub few_pins : length s.pins ≤ 8
  pub some_cells : 1 ≤ length s.cells
  pub few_cells : length s.cells ≤ 8
  pub some_outputs : 1 ≤ s.outputs
  pub few_outputs : s.outputs ≤ length s.cells

-- kinds are 0 to 255 and kind 0 has no shape; shapes are sized; starting and new cells have the shape's types
pub record Lawful (m : Meaning) : Type 0 where
  pub zero_none : m.shape 0 ≡ None
  pub beyond_none : (k : ℕ) → 256 ≤ k → m.shape k ≡ None
  pub sized : (k : ℕ) (s : Shape) → m.shape k ≡ Some s → Sized s
  pub starts : (k : ℕ) (s : Shape) → m.shape k ≡ Some s → map type_of (m.start k) ≡ s.cells
  pub steps : (k : ℕ) (s : Shape) (ps cs : List Signal) → m.shape k ≡ Some s → map type_of ps ≡ s.pins → map type_of cs ≡ s.cells → map type_of (m.new k ps cs) ≡ s.cells

-- ---- the answers

-- an answer for a kind with a shape, none for any other
abbrev pub with_shape : {X : Type 0} → Option Shape → (Shape → Option X) → Option X
with_shape None f = None
with_shape (Some s) f = f s

-- the numbers of pins, cells and outputs
abbrev pub counts : Shape → ℕ × ℕ × ℕ
counts s = (length s.pins, length s.cells, s.outputs)

abbrev pub counts_of : Meaning → ℕ → Option (ℕ × ℕ × ℕ)
counts_of m k = option_map counts (m.shape k)

abbrev pub pin_type_of : Meaning → ℕ → ℕ → Option SignalType
pin_type_of m k p = with_shape (m.shape k) (λ s. slice_get s.pins p)

abbrev pub cell_type_of : Meaning → ℕ → ℕ → Option SignalType
cell_type_of m k c = with_shape (m.shape k) (λ s. slice_get s.cells c)

abbrev pub start_of : Meaning → ℕ → ℕ → Option Signal
start_of m k c = with_shape (m.shape k) (λ s. slice_get (m.start k) c)

-- ---- the step

-- the four types by number
abbrev pub rank : SignalType → ℕ
rank SignalType.Bool = 0
rank SignalType.Int = 1
rank SignalType.Dint = 2
rank SignalType.Real = 3

abbrev pub same_type : SignalType → SignalType → Bool
same_type t u = rank t == rank u

-- as many signals as types, each of its type
abbrev pub typed : List SignalType → List Signal → Bool
typed [] [] = true
typed [] (x ∷ xs) = false
typed (t ∷ ts) [] = false
typed (t ∷ ts) (x ∷ xs) = same_type t (type_of x) && typed ts xs

-- The answer of a step and the cells after it: 10 for an absent kind, then 11 for a wrong count or type, with the cells left.
abbrev pub stepped_as : Option Shape → (List Signal → List Signal → List Signal) → List Signal → List Signal → Result (Unit {0}) ℕ × List Signal
stepped_as None f ps cs = (Err 10, cs)
stepped_as (Some s) f ps cs = cond (typed s.pins ps && typed s.cells cs) (Ok tt, f ps cs) (Err 11, cs)

abbrev pub stepped : Meaning → ℕ → List Signal → List Signal → Result (Unit {0}) ℕ × List Signal
stepped m k ps cs = stepped_as (m.shape k) (m.new k) ps cs
