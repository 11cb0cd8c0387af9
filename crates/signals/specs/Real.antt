-- REAL values: which are clean, and what cleaning makes of one. Assumes nothing.
use Rattle.std.specs.Prelude.{Bool, true, false, cond, not, ◌&&◌, ◌==◌, from_bits, Float}
use Rattle.std.specs.Bool.{beq}
use Rattle.std.specs.Ordering.{int_eq}
use Rattle.std.specs.Float.{nan, inf, fin, binary32}

abbrev pub zero_real : Float
zero_real = from_bits binary32 0

abbrev pub finite_real : Float → Bool
finite_real nan = false
finite_real (inf s) = false
finite_real (fin s m e) = true

-- `fin true 0 (pos 0)`; zero is `fin false 0 (pos 0)`
abbrev pub negative_zero : Float → Bool
negative_zero nan = false
negative_zero (inf s) = false
negative_zero (fin s m e) = s && m == 0

abbrev pub clean_real : Float → Bool
clean_real x = finite_real x && not (negative_zero x)

-- the largest finite REAL of a sign, negative where it is true
abbrev pub largest : Bool → Float
largest s = cond s (from_bits binary32 0xFF7FFFFF) (from_bits binary32 0x7F7FFFFF)

-- what stands in for a REAL that is not clean
abbrev pub stand_in : Float → Float
stand_in nan = zero_real
stand_in (inf s) = largest s
stand_in (fin s m e) = zero_real

abbrev pub cleaned_real : Float → Float
cleaned_real x = cond (clean_real x) x (stand_in x)

-- whether two REALs are one value: 0 and negative zero are two, all that is not a number is one
abbrev pub same_real : Float → Float → Bool
same_real nan nan = true
same_real (inf s) (inf t) = beq s t
same_real (fin s m e) (fin t n f) = beq s t && (m == n && int_eq e f)
same_real x y = false
