use Rattle.std.proofs.Common.{◌∙◌, refl, ap, arith}
use Rattle.std.specs.List.{flat_map}
use Rattle.charts.specs.Charts.{block_bytes, output_bytes}
use Rattle.loading.specs.Models.{block_model}
use Rattle.saving.specs.Saving.{at_front}
use Rattle.saving.proofs.Pieces.{behind, chart_of, chart_length}
use Rattle.saving.proofs.write.PagePiece.write.Goals as goal

pub write_all-behind-requires : goal.write_all-behind-requires
write_all-behind-requires c =
    let all = chart_length c.args.self.now c.as_slice.result.now c.args.self.now.outputs.items c.as_slice.ensures.value refl in
    omega (arith, c.requires)

pub returns-clause-writes : goal.returns-clause-writes
returns-clause-writes c =
    let blocks = flat_map (λ b. block_bytes (block_model b)) c.as_slice.result.now in
    let outputs = flat_map output_bytes c.as_slice-2.result.now in
    let first = c.write_all-behind in
    behind c.args.buffer.now first.new.buffer c.write_all.new.buffer blocks outputs first.result first.ensures.count first.ensures.writes c.write_all.ensures.writes
    ∙ ap (λ chart. at_front chart c.args.buffer.now) (chart_of c.args.self.now c.as_slice.result.now c.as_slice-2.result.now c.as_slice.ensures.value c.as_slice-2.ensures.value)
