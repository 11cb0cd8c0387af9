use Rattle.std.proofs.Common.{rules, ◌∙◌}
use Rattle.std.proofs.lemmas.Iterator.{YieldsList-from_slice}
use Rattle.std.proofs.lemmas.Iterator.Search.{all_from_yields_List}
use Rattle.charts.specs.Tracing.{is_one}
use Rattle.tracing.proofs.Reading.{all_lit}
use Rattle.tracing.proofs.lamps.is_lit_block.Goals as goal

pub returns : goal.returns
returns c = all_from_yields_List is_one _ _ c.all.result c.all.ensures.ran (YieldsList-from_slice c.args.cells.now (search rules)) (λ x b q k. search rules) ∙ all_lit c.args.cells.now
