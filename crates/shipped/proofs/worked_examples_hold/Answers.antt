use Rattle.std.proofs.Common.{refl}
use lib.Ieee.{eq, ne, of_bits, of_fields, odd}
use lib.Count.{count_trailing_zeros}
use Rattle.rules.proofs.Computed.{examples}
use Rattle.shipped.proofs.worked_examples_hold.Goals as goal

pub returns : goal.returns
unfolding eq ne of_bits of_fields odd count_trailing_zeros
returns c = record {
  rules = examples;
  empty_chart = refl;
  cut_short = refl;
  wired_to_nothing = refl;
  trace_of_and = refl;
  trace_of_not = refl;
}
