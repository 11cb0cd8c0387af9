use Rattle.std.proofs.Common.{rules}
use Rattle.std.proofs.lemmas.List.{take_all, drop_all}
use Rattle.blocks.specs.Layers.{lamp}
use Rattle.std.proofs.lemmas.List.Edits.{map_over_more}
use Rattle.blocks.proofs.lamps.set_all.Goals as goal

pub loop-cell-preserved : goal.loop-cell-preserved
loop-cell-preserved c = search (rules, map_over_more (lamp c.args.lit))

pub returns : goal.returns
returns c = search (rules, take_all, drop_all)
