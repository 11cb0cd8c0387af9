use Rattle.std.proofs.Common.{reverse, refl, rules, Bor}
use Rattle.std.specs.Iterator.Adapters.{rev_steps}
use Rattle.std.specs.Slice.Iter.{iter_steps_back}
use Rattle.std.proofs.lemmas.Fn.{fold_over}
use Rattle.std.proofs.lemmas.Iterator.Adapters.{YieldsList-from_rev_slice}
use Rattle.loading.specs.declared.page.Block.{Block}
use Rattle.tracing.proofs.Reading.{ReadSoFar, read_more, read_all}
use Rattle.tracing.proofs.lamps.lit_set.Goals as goal

pub returns : goal.returns
returns c =
    let bs = c.args.blocks.now in
    let items = YieldsList-from_rev_slice {s = c.rev.result} bs (search rules) in
    let read = fold_over (rev_steps iter_steps_back) (λ (y : Bor Block). y.now) _ ReadSoFar _ (λ ys a x b f' before call. (read_more ys a b x.now before (search rules), search rules)) c.rev.result (reverse bs) 0 c.fold.result items.runs (λ _. refl) c.fold.ensures.ran in
    read_all bs c.fold.result read c.requires
