-- The rules of the sums and the division: ADD, ADD_D and DIV_D. Assumes nothing.
use Rattle.rules.specs.declared.arithmetic.Divided.{Divided}
use Rattle.std.specs.Int.{saturate_to_bits}
use Rattle.std.specs.Float.{binary32}
use Rattle.std.specs.Float.Ieee.{add}
use Rattle.std.specs.Prelude.{Bool, true, false, cond, ◌&&◌, ℤ, pos, negsuc, ◌+ℤ◌, ◌-ℤ◌, ◌*ℤ◌, int_div, int_le, int_lt, Float}

-- ADD is the sum of two REAL, rounded once to the nearest, ties to even.
abbrev pub real_sum : Float → Float → Float
real_sum x1 x2 = add binary32 x1 x2

-- The ends of the DINT range, -2147483648 and 2147483647.
abbrev pub least : ℤ
least = negsuc 2147483647

abbrev pub most : ℤ
most = pos 2147483647

-- The number of the DINT range that is nearest to z.
abbrev pub dint : ℤ → ℤ
dint z = saturate_to_bits 31 z

-- ADD_D is the sum of two DINT, limited to the DINT range.
abbrev pub dint_sum : ℤ → ℤ → ℤ
dint_sum x1 x2 = dint (x1 +ℤ x2)

-- The end of the DINT range on the side of x, and 0 for 0.
abbrev pub furthest : ℤ → ℤ
furthest x = cond (int_lt x (pos 0)) least (cond (int_lt (pos 0) x) most (pos 0))

-- The quotient without its fraction, toward zero, and what is left: X1 - Y * X2.
unfoldable pub quotient : (x1 x2 : ℤ) → Divided
quotient x1 x2 = record { y = int_div x1 x2; rest = x1 -ℤ int_div x1 x2 *ℤ x2; qf = false }

-- Y in place of a quotient that is no DINT: MOD is 0 and QF 1.
abbrev pub no_quotient : ℤ → Divided
no_quotient y = record { y = y; rest = pos 0; qf = true }

-- Whether a and b are one number.
abbrev pub equal : ℤ → ℤ → Bool
equal a b = int_le a b && int_le b a

-- DIV_D by 0 gives the end on the side of X1, and -2147483648 by -1, which is one beyond the upper end, gives that end.
abbrev pub divided : (x1 x2 : ℤ) → Divided
divided x1 x2 =
    cond (equal x2 (pos 0)) (no_quotient (furthest x1))
    (cond (equal x1 least && equal x2 (negsuc 0)) (no_quotient most)
    (quotient x1 x2))
