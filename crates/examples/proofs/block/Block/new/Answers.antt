use Rattle.std.proofs.Common.{◌≡◌, ℕ, Some, refl, rules}
use Rattle.blocks.specs.Meanings.{counts_of}
use Rattle.examples.proofs.Starts.{all_started}
use Rattle.examples.proofs.block.Block.new.Goals as goal

pub returns : goal.returns
returns g c =
    let m = g.L.Library.meaning c.args.library.now in
    let law = g.L.Library.lawful c.args.library.now in
    let counted : ℕ × ℕ × ℕ = (c.in_ok-count.field-0-0, c.in_ok-count.count, c.in_ok-count.field-0-2) in
    let shaped : Some counted ≡ counts_of m c.args.kind = search rules in
    record { kind = refl; cells = all_started m law c.args.kind counted _ shaped c.in_ok-cells.ensures }
