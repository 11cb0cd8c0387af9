use Rattle.std.proofs.Common.{rules}
use Rattle.signals.specs.Signals.{cleaned}
use Rattle.std.proofs.lemmas.List.Edits.{map_over_more}
use Rattle.std.proofs.lemmas.List.{take_all, drop_all}
use Rattle.blocks.proofs.cleaner.clean_all.Goals as goal

pub loop-cell-preserved : goal.loop-cell-preserved
loop-cell-preserved c = search (rules, map_over_more cleaned)

pub returns : goal.returns
returns c = search (rules, take_all, drop_all)
