use Rattle.std.proofs.Common.{rules, tests, ◌∙◌}
use Rattle.std.proofs.lemmas.Bool.{ne_eqb}
use Rattle.std.proofs.lemmas.Iterator.{YieldsList-from_slice, YieldsList-from_zip}
use Rattle.std.proofs.lemmas.Iterator.Search.{all_from_yields_List}
use Rattle.steps.proofs.Written.{pair_fits, pairwise, other_count}
use Rattle.steps.proofs.cells.are_same_types.Goals as goal

pub returns-then-new-old : goal.returns-then-new-old
returns-then-new-old c =
    all_from_yields_List pair_fits c.all.new.self _ c.all.result c.all.ensures.ran (YieldsList-from_zip (YieldsList-from_slice c.args.new.now cc) (YieldsList-from_slice c.args.old.now cc)) (λ x b q k. search (rules, tests))
    ∙ pairwise c.args.new.now c.args.old.now c.if-new-old.true

pub returns-else-new-old : goal.returns-else-new-old
returns-else-new-old c = ne_eqb _ _ c.if-new-old.false ∙ other_count c.args.new.now c.args.old.now c.if-new-old.false
