use Rattle.std.proofs.Common.{T, rules}
use lib.Ieee.{fits, binary32}
use lib.Ieee.Bits.{of_bits-to_bits}
use Rattle.signals.proofs.real.pattern.Goals as goal

pub returns : goal.returns
returns c =
    let f : T (fits binary32 c.args.x) = search rules in
    record {
      bits = c.f32_to_bits_with_nan.ensures;
      back = rw c.f32_to_bits_with_nan.ensures (of_bits-to_bits binary32 _ f);
    }
