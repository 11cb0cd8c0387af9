-- The first whole numbers beyond the DINT range tell by comparison what is outside it. Assumes nothing.
use Rattle.std.proofs.Common.{◌≡◌, ℕ, suc, ◌+◌, ◌*◌, ◌/◌, ◌<◌, true, false, not, ◌&&◌, ltb, refl, div-lt_iff_lt-mul, arith}
use Rattle.rules.specs.Conversion.{outside}
use Rattle.std.proofs.lemmas.Bool.Decides.{nat_tests}
use lib.Count.{count_trailing_zeros}
use lib.Ieee.{Float, nan, inf, fin, up, down, binary64, lt, of_bits, of_fields, odd}
use lib.Ieee.Fits.{down_pos}

-- The quotient of n by d is beyond k exactly if n is not below k + 1 times d.
beyond : (n d k : ℕ) → 0 < d → not (ltb n (suc k * d)) ≡ ltb k (n / d)
beyond n d k p =
    let to : n / d < suc k → n < suc k * d = (div-lt_iff_lt-mul p).0 in
    let from : n < suc k * d → n / d < suc k = (div-lt_iff_lt-mul p).1 in
    grind (arith, nat_tests)

-- The two comparisons for n / d, and for -n / d.
positive : (n d : ℕ) → 0 < d → not (ltb 0 (2147483649 * 1 * d + n * 1) && ltb (n * 1) (1 * 2147483648 * d)) ≡ ltb 2147483647 (n / d)
positive n d p = let b = beyond n d 2147483647 p in grind (arith, nat_tests)

negative : (n d : ℕ) → 0 < d → not (ltb (n * 1) (2147483649 * 1 * d) && ltb 0 (n * 1 + 1 * 2147483648 * d)) ≡ ltb 2147483648 (n / d)
negative n d p = let b = beyond n d 2147483648 p in grind (arith, nat_tests)

-- The two numbers by their bits: -2147483649 and 2147483648.
pub outside_is : (x : Float) → not (lt (of_bits binary64 0xC1E0_0000_0020_0000) x && lt x (of_bits binary64 0x41E0_0000_0000_0000)) ≡ outside x
unfolding lt of_bits of_fields odd count_trailing_zeros
outside_is nan = refl
outside_is (inf true) = refl
outside_is (inf false) = refl
outside_is (fin false m e) = positive (m * up e) (down e) (down_pos e)
outside_is (fin true m e) = negative (m * up e) (down e) (down_pos e)
