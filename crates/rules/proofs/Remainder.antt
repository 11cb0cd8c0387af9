-- The remainder of a division toward zero is what the quotient leaves. Assumes nothing.
use Rattle.std.proofs.Common.{◌≡◌, ℕ, zero, suc, ◌*◌, ℤ, pos, negsuc, ◌-ℤ◌, ◌*ℤ◌, neg_ℤ, refl, div-add-mod', zero-mul, arith}
use borrow.Author.Differences.{ints}
use lib.Signed.{quot_z, rem_z}

-- A negated quotient times the divisor.
negated_by_pos : (q b : ℕ) → neg_ℤ (pos q) *ℤ pos b ≡ neg_ℤ (pos (q * b))
negated_by_pos zero b = rw zero-mul
negated_by_pos (suc q) b = refl

negated_by_neg : (q b : ℕ) → neg_ℤ (pos q) *ℤ negsuc b ≡ pos (q * suc b)
negated_by_neg zero b = rw zero-mul
negated_by_neg (suc q) b = refl

pub left_over : (x d : ℤ) → rem_z x d ≡ x -ℤ quot_z x d *ℤ d
left_over (pos a) (pos b) = let e = div-add-mod' a b in omega (arith, ints)
left_over (pos a) (negsuc b) = let e = div-add-mod' a (suc b) in rw negated_by_neg (omega (arith, ints))
left_over (negsuc a) (pos b) = let e = div-add-mod' (suc a) b in rw negated_by_pos (omega (arith, ints))
left_over (negsuc a) (negsuc b) = let e = div-add-mod' (suc a) (suc b) in omega (arith, ints)
