-- The rule of the switch-on delay PDE. Assumes nothing.
use Rattle.rules.specs.Arithmetic.{dint}
use Rattle.rules.specs.declared.delay.Delayed.{Delayed}
use Rattle.std.specs.Prelude.{Bool, false, cond, ℤ, pos, ◌+ℤ◌, int_lt}

-- N cycles with I at 1: Q where they exceed T.
abbrev pub reached : (t n : ℤ) → Delayed
reached t n = record { q = int_lt t n; n = n }

-- I at 0 clears N and Q. I at 1 makes N one more, up to 2147483647.
abbrev pub delayed : Bool → (t n : ℤ) → Delayed
delayed i t n = cond i (reached t (dint (n +ℤ pos 1))) (record { q = false; n = pos 0 })
