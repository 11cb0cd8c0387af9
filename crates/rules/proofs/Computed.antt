-- The worked examples of the rules: every one computes. Assumes nothing.
use Rattle.rules.specs.Arithmetic.{quotient}
use Rattle.rules.specs.Examples.{Examples}
use lib.Count.{count_trailing_zeros}
use lib.Ieee.{of_bits, of_fields, odd, to_signed}
use Rattle.std.proofs.Common.{refl}

pub examples : Examples
unfolding quotient of_bits of_fields odd count_trailing_zeros to_signed
examples = record {
  at_upper = refl;
  between = refl;
  at_lower = refl;
  equal_limits = λ x. refl;
  sum_limited = refl;
  toward_zero = refl;
  by_zero = refl;
  one_beyond = refl;
  first_cycle = refl;
  second_cycle = refl;
  third_cycle = refl;
  both_edges = refl;
  up_alone = refl;
  cut_limited = refl;
  cut_within = refl;
}
