-- The limiter with INT limits cannot tell a number from the INT that is nearest to it. Assumes nothing.
use Rattle.rules.specs.Limiter.{limited}
use Rattle.std.specs.Int.{saturate_to_bits}
use borrow.Author.Differences.{ints}
use Rattle.std.proofs.Common.{◌≡◌, ℤ, arith, w16, SFits}
use lib.Signed.{lt_z}

pub limited_nearest : (z lu ll : ℤ) → SFits w16 lu → SFits w16 ll → limited lt_z (saturate_to_bits 15 z) lu ll ≡ limited lt_z z lu ll
limited_nearest z lu ll u l = grind (arith, ints)
