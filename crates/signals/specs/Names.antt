-- The names of the types, as they are printed. Assumes nothing.
use Rattle.std.specs.Prelude.{ℕ, List, codes}
use Rattle.signals.specs.declared.signal.SignalType.{SignalType}

abbrev pub type_name : SignalType → List ℕ
type_name SignalType.Bool = codes "BOOL"
type_name SignalType.Int = codes "INT"
type_name SignalType.Dint = codes "DINT"
type_name SignalType.Real = codes "REAL"
