-- The lines that a run prints. Assumes nothing.
use Rattle.std.specs.Prelude.{ℕ, ◌+◌, ◌/◌, ◌%◌, cond, List, [], ◌∷◌, ◌++◌, codes, decimal, nat_lt, slice_index}
use Rattle.signals.specs.Coding.{encoded}
use Rattle.signals.specs.Names.{type_name}
use Rattle.signals.specs.Signals.{type_of}
use Rattle.console.specs.declared.line.Line.{Line}

-- a digit of 0 to 9 and A to F
abbrev pub hex_digit : ℕ → List ℕ
hex_digit n = cond (nat_lt n 10) (48 + n) (55 + n) ∷ []

abbrev pub hex_byte : ℕ → List ℕ
hex_byte b = hex_digit (b / 16) ++ hex_digit (b % 16)

-- the first four bytes
abbrev pub hex_code : List ℕ → List ℕ
hex_code bytes = hex_byte (slice_index bytes 0) ++ (hex_byte (slice_index bytes 1) ++ (hex_byte (slice_index bytes 2) ++ hex_byte (slice_index bytes 3)))

-- a line, without its line feed
abbrev pub line_text : Line → List ℕ
line_text Line.Done = codes "ok"
line_text (Line.Signal x) = type_name (type_of x) ++ (codes " " ++ hex_code (encoded x))
line_text (Line.Refused n) = codes "refused " ++ decimal n
line_text Line.Stop = codes "stop"
line_text (Line.Chart n place) = codes "chart " ++ (decimal n ++ (codes " " ++ decimal place))
