use Rattle.std.proofs.Common.{length, take, Some}
use Rattle.std.specs.List.{flat_map}
use Rattle.charts.specs.Charts.{block_bytes}
use Rattle.loading.specs.Models.{wiring}
use Rattle.saving.specs.Lengths.{IsInUsize}
use Rattle.saving.proofs.length.blocks_length.Given as goal

-- the length of the blocks so far
abbrev pub invariant-loop-block : goal.invariant-loop-block
invariant-loop-block l = IsInUsize (Some l.total) (length (flat_map block_bytes (wiring (take l.block-index l.blocks))))
