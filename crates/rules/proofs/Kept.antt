-- An INT has fewer digits than a REAL keeps, so I_R is exact. Assumes nothing.
use Rattle.std.proofs.Common.{suc, true, false, pos, negsuc, arith}
use Rattle.rules.specs.Conversion.{IntKept}
use borrow.Author.Differences.{ints}
use lib.Ieee.{binary32, of_int}
use lib.Ieee.Back.{round_whole}

pub int_kept : IntKept
unfolding of_int
int_kept (pos n) low high = round_whole binary32 false n (omega (arith, ints))
int_kept (negsuc n) low high = round_whole binary32 true (suc n) (omega (arith, ints))
