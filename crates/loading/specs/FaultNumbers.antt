-- The numbers of a chart's faults. Assumes nothing.
use Rattle.std.specs.Prelude.{ℕ, Some, None, Ok, Err, Option, Result}
use Rattle.loading.specs.declared.fault.Fault.{Fault}
use Rattle.loading.specs.declared.fault.Fault.TheVariants.{CutShort, UnknownKind, TooManyBlocks, Malformed, Missing, TypesDiffer, UnfitConstant, OutOfOrder, NoBlock}

abbrev pub fault_number : Fault → ℕ
fault_number CutShort = 1
fault_number UnknownKind = 2
fault_number TooManyBlocks = 3
fault_number Malformed = 4
fault_number Missing = 5
fault_number TypesDiffer = 6
fault_number UnfitConstant = 7
fault_number OutOfOrder = 8
fault_number NoBlock = 9

-- the number of the fault that a test finds, none where the test is passed
abbrev pub fault_in : {X : Type 0} → Result X Fault → Option ℕ
fault_in (Ok x) = None
fault_in (Err f) = Some (fault_number f)
