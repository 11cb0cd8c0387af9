-- The meanings of the three layers, given those below. Assumes nothing.
use Rattle.std.specs.Prelude.{◌-◌, Bool, cond, ◌||◌, List, [], map, Some, None, Option, nat_lt}
use Rattle.std.specs.List.{list_any}
use Rattle.signals.specs.Signals.{type_of, zero_of, one_of, lit, cleaned}
use Rattle.signals.specs.declared.signal.Signal.{Signal}
use Rattle.signals.specs.declared.signal.SignalType.{SignalType}
use Rattle.blocks.specs.Meanings.{Shape, Meaning}

-- Kinds 0 to 127 of the first, kinds 128 to 255 from the second as 0 to 127.
abbrev pub paired : Meaning → Meaning → Meaning
paired m n = record {
  shape = λ k. cond (nat_lt k 128) (m.shape k) (cond (nat_lt k 256) (n.shape (k - 128)) None);
  start = λ k. cond (nat_lt k 128) (m.start k) (n.start (k - 128));
  new = λ k. cond (nat_lt k 128) (m.new k) (n.new (k - 128));
}

-- The same shapes; every cell cleaned, starting and new. Only a REAL is altered by that.
abbrev pub cleaned_meaning : Meaning → Meaning
cleaned_meaning m = record {
  shape = m.shape;
  start = λ k. map cleaned (m.start k);
  new = λ k ps cs. map cleaned (m.new k ps cs);
}

abbrev pub any_lit : List Signal → Bool
any_lit = list_any lit

-- a cell as a lamp: the one of its type where it is lit, else the zero
abbrev pub lamp : Bool → Signal → Signal
lamp b c = cond b (one_of (type_of c)) (zero_of (type_of c))

abbrev pub cell_types : Option Shape → List SignalType
cell_types None = []
cell_types (Some s) = s.cells

-- The same shapes; all cells start at zero; a step sets all cells to 1 if any pin or cell is unequal to zero, else all to zero.
abbrev pub lamp_meaning : Meaning → Meaning
lamp_meaning m = record {
  shape = m.shape;
  start = λ k. map zero_of (cell_types (m.shape k));
  new = λ k ps cs. map (lamp (any_lit ps || any_lit cs)) cs;
}
