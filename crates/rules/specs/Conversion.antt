-- The rules of the conversions and the scaling: I_R, R_D and N2_R. Assumes nothing.
use Rattle.std.specs.Prelude.{suc, ◌*◌, ◌/◌, Bool, true, false, cond, ℤ, pos, negsuc, ◌≤ℤ◌, nat_lt, Float}
use Rattle.rules.specs.declared.conversion.Setting.{Setting}
use Rattle.rules.specs.declared.conversion.Whole.{Whole}
use Rattle.std.specs.Float.{nan, inf, fin, binary32}
use Rattle.std.specs.Float.Ieee.{up, down, of_int, to_signed, mul, div}
use Rattle.std.specs.Float.Ieee.Exact.{HasValue}

-- I_R is the REAL nearest to the number.
abbrev pub real : ℤ → Float
real x = of_int binary32 x

-- A REAL that is exactly the integer: finite, of its sign and of its size.
abbrev pub Is : Float → ℤ → Type 0
Is r (pos n) = HasValue r false n 1
Is r (negsuc n) = HasValue r true (suc n) 1

-- For every INT, I_R is the same number.
abbrev pub IntKept : Type 0
IntKept = (x : ℤ) → negsuc 32767 ≤ℤ x → x ≤ℤ pos 32767 → Is (real x) x

-- Whether X without its fraction is no DINT: it is not a number, an infinity, or its whole part is beyond the end on its side.
abbrev pub outside : Float → Bool
outside nan = true
outside (inf s) = true
outside (fin s m e) = nat_lt (cond s 2147483648 2147483647) (m * up e / down e)

-- R_D drops the fraction and limits to the DINT range; not a number gives 0. QF is 1 exactly if X is outside.
abbrev pub whole : Float → Whole
whole x = record { y = to_signed 31 x; qf = outside x }

-- N2_R is X * NF / BV: the product is rounded, then the quotient.
abbrev pub scaled : ℤ → Setting → Float
scaled x setting = div binary32 (mul binary32 (real x) setting.factor) (real setting.reference)
