-- Lengths that a usize may not hold. Assumes nothing.
use Rattle.std.specs.Prelude.{ℕ, ◌^◌, ◌<◌, Option}
use Rattle.std.specs.Option.{SomeIff}

-- a number where a usize holds it, none where it is too large
abbrev pub IsInUsize : Option ℕ → ℕ → Type 0
IsInUsize found n = SomeIff found (n < 2 ^ 64) n
