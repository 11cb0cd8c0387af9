-- What the two walks over a chart find, record by record and pin by pin. Assumes nothing.
use Rattle.std.specs.Prelude.{◌≡◌, ℕ, cond, List, [], ◌∷◌, ◌++◌, length, Some, None, Ok, Err, Option, Result, slice_index}
use Rattle.signals.specs.Terminals.{terminal_type}
use Rattle.signals.specs.declared.signal.SignalType.{SignalType}
use Rattle.blocks.specs.Meanings.{Meaning}
use Rattle.charts.specs.declared.page.OutputRecord.{OutputRecord}
use Rattle.charts.specs.Pages.{Shapes, block_limit, wire_type}
use Rattle.charts.specs.Loading as Loading
use Rattle.loading.specs.declared.fault.LoadError.{LoadError}
use Rattle.loading.specs.FaultNumbers.{fault_number}

-- bytes begin with a record whose body has the length that its kind fixes, and the rest stands behind it
abbrev pub Begins : Shapes → (bytes : List ℕ) → Loading.Raw → (rest : List ℕ) → Type 0
Begins shapes bytes r rest = (bytes ≡ Loading.raw_bytes r ++ rest) × (Loading.body_length shapes r.kind ≡ Some (length r.body))

-- ---- walk one

-- the kinds of the blocks, behind one record more
abbrev pub with_kind : List ℕ → ℕ → List ℕ
with_kind kinds kind = cond (Loading.is_block kind) (kinds ++ kind ∷ []) kinds

-- ---- walk two

-- The records that walk one gives have no fault, or the first fault among them is this one, by the kinds of the blocks. No memory is wanted.
abbrev pub WalkedTwo : Meaning → List ℕ → List ℕ → Result (Unit {0}) LoadError → Type 0
WalkedTwo m kinds chart (Ok u) = (rs : List Loading.Raw) → Loading.walk_one m.shape block_limit Loading.nothing_met 0 0 chart ≡ Ok rs → Loading.walk_two m.shape kinds 0 rs ≡ None
WalkedTwo m kinds chart (Err (LoadError.Refused f place)) =
    (rs : List Loading.Raw) → Loading.walk_one m.shape block_limit Loading.nothing_met 0 0 chart ≡ Ok rs → Loading.walk_two m.shape kinds 0 rs ≡ Some (fault_number f, place)
WalkedTwo m kinds chart (Err LoadError.Memory) = ⊥

-- the fault of an output record
abbrev pub fault_of_output_record : Shapes → List ℕ → OutputRecord → Option ℕ
fault_of_output_record shapes kinds r = Loading.fault_of_output (terminal_type r.terminal) (wire_type shapes kinds r.block r.output)

-- what is tested before a record's pins: an output record, and nothing of a block
abbrev pub fault_before_pins : Shapes → List ℕ → (kind : ℕ) (body : List ℕ) → Option ℕ
fault_before_pins shapes kinds kind body = cond (Loading.is_block kind) None (fault_of_output_record shapes kinds (Loading.output_in body))

-- a pin, by its five bytes
abbrev pub pin_of : List ℕ → Loading.Pin
pin_of bytes = record { tag = slice_index bytes 0; first = slice_index bytes 1; second = slice_index bytes 2; third = slice_index bytes 3; fourth = slice_index bytes 4 }

-- the fault of a pin, by its type; none where the kind has no such pin
abbrev pub fault_at_pin : Shapes → List ℕ → Option SignalType → Loading.Pin → Option ℕ
fault_at_pin shapes kinds None p = None
fault_at_pin shapes kinds (Some t) p = Loading.fault_of_pin shapes kinds t p
