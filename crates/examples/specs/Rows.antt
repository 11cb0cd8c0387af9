-- Signals and rows as text. Assumes nothing.
use Rattle.std.specs.Prelude.{ℕ, ◌/◌, ◌%◌, cond, List, Some, None, codes, decimal, Option}
use Rattle.std.specs.Fmt.{signed_decimal, option_append}
use Rattle.signals.specs.declared.signal.Signal.{Signal}
use Rattle.examples.specs.declared.gate.Row.{Row}

-- BOOL as 0 or 1, a whole number in decimal; of a REAL nothing is said
abbrev pub signal_text : Signal → Option (List ℕ)
signal_text (Signal.Bool b) = Some (decimal (cond b 1 0))
signal_text (Signal.Int n) = Some (signed_decimal n)
signal_text (Signal.Dint n) = Some (signed_decimal n)
signal_text (Signal.Real x) = None

-- as `07:00  level 1260  call 1  delayed 1  openings 1  gate 20`
abbrev pub row_text : Row → Option (List ℕ)
row_text row =
    option_append (Some (decimal (row.hour / 10)))
    (option_append (Some (decimal (row.hour % 10)))
    (option_append (Some (codes ":00  level "))
    (option_append (signal_text row.level)
    (option_append (Some (codes "  call "))
    (option_append (signal_text row.call)
    (option_append (Some (codes "  delayed "))
    (option_append (signal_text row.delayed)
    (option_append (Some (codes "  openings "))
    (option_append (signal_text row.openings)
    (option_append (Some (codes "  gate "))
    (signal_text row.position)))))))))))
