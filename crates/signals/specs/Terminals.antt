-- The types of the terminals, input and output alike. Assumes nothing.
use Rattle.std.specs.Prelude.{◌≡◌, ℕ, ◌+◌, ◌<◌, ◌≤◌, cond, Some, None, Option, nat_lt}
use Rattle.signals.specs.declared.signal.SignalType.{SignalType}

-- 0 to 7 BOOL, 8 to 15 INT, 16 to 23 DINT, 24 to 31 REAL, and no terminal beyond
abbrev pub terminal_type : ℕ → Option SignalType
terminal_type n =
    cond (nat_lt n 8) (Some SignalType.Bool) (cond (nat_lt n 16) (Some SignalType.Int) (cond (nat_lt n 24) (Some SignalType.Dint) (cond (nat_lt n 32) (Some SignalType.Real) None)))

-- the first terminal of a type
abbrev pub first_of : SignalType → ℕ
first_of SignalType.Bool = 0
first_of SignalType.Int = 8
first_of SignalType.Dint = 16
first_of SignalType.Real = 24

-- Which terminals there are.
pub record TerminalsByType : Type 0 where
  -- The eight from a type's first on have that type.
  pub eight : (t : SignalType) (n : ℕ) → first_of t ≤ n → n < first_of t + 8 → terminal_type n ≡ Some t
  -- No others have it.
  pub only : (t : SignalType) (n : ℕ) → terminal_type n ≡ Some t → (first_of t ≤ n) × (n < first_of t + 8)
  -- From 32 on there is none.
  pub none : (n : ℕ) → 32 ≤ n → terminal_type n ≡ None
