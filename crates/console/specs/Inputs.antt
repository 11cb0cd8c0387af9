-- How much is taken of an input. Assumes nothing.
use Rattle.std.specs.Prelude.{ℕ}

-- the most bytes of a chart and of the requests
abbrev pub input_limit : ℕ
input_limit = 4096
