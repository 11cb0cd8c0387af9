-- What the tests of a REAL tell. Assumes nothing.
use Rattle.std.proofs.Common.{◌≡◌, ℕ, zero, suc, ◌*◌, ◌<◌, Bool, true, false, not, T, eqb, ℤ, pos, sym, refl, true≢false, zero-lt-suc, mul-pos, zero-mul, arith}
use lib.Count.{count_trailing_zeros}
use lib.Ieee.{Float, nan, inf, fin, of_bits, of_fields, odd, is_nan, eq, lt, up, down}
use lib.Ieee.Fits.{up_pos}
use Rattle.std.specs.Float.{float_is_finite, is_sign_negative}
use Rattle.std.proofs.lemmas.Bool.Decides.{nat_tests}
use Rattle.signals.specs.Real.{zero_real, finite_real, negative_zero, clean_real, stand_in, largest}

pub finite_is : (x : Float) → float_is_finite x ≡ finite_real x
unfolding float_is_finite
finite_is nan = refl
finite_is (inf s) = refl
finite_is (fin s m e) = refl

-- a finite value equals zero exactly if its significand is 0
eq_zero : (s : Bool) (m : ℕ) (e : ℤ) → eq (fin s m e) (fin false 0 (pos 0)) ≡ eqb m 0
unfolding eq
eq_zero s zero e = let z = zero-mul (up e) in let d = zero-mul (down e) in grind (arith, nat_tests)
eq_zero s (suc m) e =
    let p : 0 < suc m * up e = mul-pos (zero-lt-suc m) (up_pos e) in
    let d = zero-mul (down e) in
    grind (arith, nat_tests)

-- what equals zero has a sign, and by it is the one zero or the other
pub zero_signed : (x : Float) → eq x zero_real ≡ true → T (not (is_nan x))
unfolding eq is_nan
zero_signed nan h = true≢false (sym h)
zero_signed (inf s) h = tt
zero_signed (fin s m e) h = tt

pub zero_by_sign : (x : Float) → eq x zero_real ≡ true → is_sign_negative x ≡ negative_zero x
unfolding eq is_sign_negative of_bits of_fields odd
zero_by_sign nan h = refl
zero_by_sign (inf s) h = absurd (true≢false (sym h))
zero_by_sign (fin s m e) h = let k = eq_zero s m e in grind (arith, nat_tests)

pub unequal_no_zero : (x : Float) → eq x zero_real ≡ false → false ≡ negative_zero x
unfolding eq of_bits of_fields odd
unequal_no_zero nan h = refl
unequal_no_zero (inf s) h = refl
unequal_no_zero (fin s m e) h = let k = eq_zero s m e in grind (arith, nat_tests)

-- the three ways through the choice of a stand_in
pub high_end : (x : Float) → clean_real x ≡ false → lt (largest false) x ≡ true → largest false ≡ stand_in x
unfolding lt of_bits of_fields odd count_trailing_zeros
high_end nan u h = absurd (true≢false (sym h))
high_end (inf true) u h = absurd (true≢false (sym h))
high_end (inf false) u h = refl
high_end (fin true m e) u h = absurd (true≢false (sym h))
high_end (fin false m e) u h = absurd (true≢false u)

pub low_end : (x : Float) → clean_real x ≡ false → lt x (largest true) ≡ true → largest true ≡ stand_in x
unfolding lt of_bits of_fields odd count_trailing_zeros
low_end nan u h = absurd (true≢false (sym h))
low_end (inf true) u h = refl
low_end (inf false) u h = absurd (true≢false (sym h))
low_end (fin true zero e) u h = let z = zero-mul (up e) in let c : ◌≡◌ {A = ℕ} 0 1 = grind (arith, nat_tests) in absurd (omega arith)
low_end (fin true (suc m) e) u h = let c : ◌≡◌ {A = ℕ} 0 1 = grind (arith, nat_tests) in absurd (omega arith)
low_end (fin false m e) u h = absurd (true≢false u)

pub no_end : (x : Float) → lt (largest false) x ≡ false → lt x (largest true) ≡ false → zero_real ≡ stand_in x
unfolding lt of_bits of_fields odd count_trailing_zeros
no_end nan h l = refl
no_end (inf true) h l = absurd (true≢false l)
no_end (inf false) h l = absurd (true≢false h)
no_end (fin s m e) h l = refl
