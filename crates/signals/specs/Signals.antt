-- Signals: a signal's type, which the machine holds, the zero and the one of a type, and what is clean. Assumes nothing.
use Rattle.std.specs.Prelude.{◌≡◌, Bool, true, false, ◌||◌, T, ◌⊎◌, ℤ, pos, FitsSigned, from_bits, int_lt, Float}
use Rattle.std.specs.Bool.{beq}
use Rattle.std.specs.Ordering.{int_eq}
use Rattle.std.specs.Float.{binary32, nan}
use Rattle.std.specs.Float.Ieee.{fits, ne}
use Rattle.std.specs.Int.{w16, w32}
use Rattle.signals.specs.Real.{zero_real, clean_real, cleaned_real, same_real}
use Rattle.signals.specs.declared.signal.Signal.{Signal}
use Rattle.signals.specs.declared.signal.SignalType.{SignalType}

abbrev pub type_of : Signal → SignalType
type_of (Signal.Bool b) = SignalType.Bool
type_of (Signal.Int n) = SignalType.Int
type_of (Signal.Dint n) = SignalType.Dint
type_of (Signal.Real x) = SignalType.Real

-- The signals that the machine holds: an INT of 16 bits, a DINT of 32, a REAL of binary32.
abbrev pub Held : Signal → Type 0
Held (Signal.Bool b) = Unit {0}
Held (Signal.Int n) = FitsSigned w16 n
Held (Signal.Dint n) = FitsSigned w32 n
Held (Signal.Real x) = T (fits binary32 x)

abbrev pub zero_of : SignalType → Signal
zero_of SignalType.Bool = Signal.Bool false
zero_of SignalType.Int = Signal.Int (pos 0)
zero_of SignalType.Dint = Signal.Dint (pos 0)
zero_of SignalType.Real = Signal.Real zero_real

abbrev pub one_of : SignalType → Signal
one_of SignalType.Bool = Signal.Bool true
one_of SignalType.Int = Signal.Int (pos 1)
one_of SignalType.Dint = Signal.Dint (pos 1)
one_of SignalType.Real = Signal.Real (from_bits binary32 0x3F800000)

abbrev pub not_zero : ℤ → Bool
not_zero n = int_lt n (pos 0) || int_lt (pos 0) n

-- Unequal to zero. REAL is compared as IEEE 754 does: negative zero equals zero, what is not a number does not.
abbrev pub lit : Signal → Bool
lit (Signal.Bool b) = b
lit (Signal.Int n) = not_zero n
lit (Signal.Dint n) = not_zero n
lit (Signal.Real x) = ne x zero_real

-- only a REAL can be unclean
abbrev pub clean : Signal → Bool
clean (Signal.Bool b) = true
clean (Signal.Int n) = true
clean (Signal.Dint n) = true
clean (Signal.Real x) = clean_real x

abbrev pub cleaned : Signal → Signal
cleaned (Signal.Bool b) = Signal.Bool b
cleaned (Signal.Int n) = Signal.Int n
cleaned (Signal.Dint n) = Signal.Dint n
cleaned (Signal.Real x) = Signal.Real (cleaned_real x)

-- whether two signals are one value of one type
abbrev pub same_signal : Signal → Signal → Bool
same_signal (Signal.Bool a) (Signal.Bool b) = beq a b
same_signal (Signal.Int a) (Signal.Int b) = int_eq a b
same_signal (Signal.Dint a) (Signal.Dint b) = int_eq a b
same_signal (Signal.Real a) (Signal.Real b) = same_real a b
same_signal x y = false

-- What cleaning does to a signal.
pub record Cleaning : Type 0 where
  -- It gives a clean signal.
  pub clears : (s : Signal) → clean (cleaned s) ≡ true
  -- It leaves a clean signal as it is.
  pub keeps : (s : Signal) → clean s ≡ true → cleaned s ≡ s
  -- It changes no type.
  pub typed : (s : Signal) → type_of (cleaned s) ≡ type_of s
  -- The machine holds the result as it held the signal.
  pub holds : (s : Signal) → Held s → Held (cleaned s)
  -- Only negative zero, the infinities and what is not a number are not clean.
  pub unclean : (x : Float) → T (fits binary32 x) → clean_real x ≡ false →
      (x ≡ from_bits binary32 0x80000000) ⊎ (x ≡ from_bits binary32 0x7F800000) ⊎ (x ≡ from_bits binary32 0xFF800000) ⊎ (x ≡ nan)
  -- Negative zero becomes 0.
  pub negative_zero : cleaned (Signal.Real (from_bits binary32 0x80000000)) ≡ Signal.Real (from_bits binary32 0)
  -- What is not a number becomes 0.
  pub not_a_number : cleaned (Signal.Real nan) ≡ Signal.Real (from_bits binary32 0)
  -- Infinity becomes the largest finite value.
  pub infinite : cleaned (Signal.Real (from_bits binary32 0x7F800000)) ≡ Signal.Real (from_bits binary32 0x7F7FFFFF)
  -- Negative infinity becomes the lowest finite value.
  pub minus_infinite : cleaned (Signal.Real (from_bits binary32 0xFF800000)) ≡ Signal.Real (from_bits binary32 0xFF7FFFFF)
