-- The rules of the gates, the memory and the switches: AND, OR, NOT, RSR, NSW_D and HYS. Assumes nothing.
use Rattle.std.specs.Prelude.{Bool, true, false, cond, not, ◌&&◌, ◌||◌, ℤ, int_le}

-- AND is 1 where both pins are.
abbrev pub both : Bool → Bool → Bool
both x1 x2 = x1 && x2

-- OR is 1 where either pin is.
abbrev pub either : Bool → Bool → Bool
either x1 x2 = x1 || x2

-- NOT is the other value.
abbrev pub opposite : Bool → Bool
opposite x = not x

-- RSR is 0 if R, else 1 if S, else what it was: a reset wins over a set.
abbrev pub remembered : (s r q : Bool) → Bool
remembered s r q = cond r false (cond s true q)

-- NSW_D is X1 where I is 0, and X2 where I is 1.
abbrev pub switched : (x1 x2 : ℤ) → Bool → ℤ
switched x1 x2 i = cond i x2 x1

-- HYS is 1 if X ≥ ON, else 0 if X ≤ OFF, else what it was.
abbrev pub hysteresis : (x on off : ℤ) → Bool → Bool
hysteresis x on off q = cond (int_le on x) true (cond (int_le x off) false q)
