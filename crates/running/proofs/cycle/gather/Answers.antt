use Rattle.std.proofs.Common.{◌<◌, [], ◌∷◌, ◌++◌, map, length, take, sym, ap, ◌∙◌, arith}
use Rattle.std.proofs.lemmas.List.{take_all, take_more_set, map_more}
use Rattle.charts.specs.Boxes.{taken}
use Rattle.loading.specs.Models.{all_cells}
use Rattle.running.proofs.cycle.gather.Goals as goal

pub loop-place-preserved : goal.loop-place-preserved
loop-place-preserved c =
    let f = taken c.args.terminals.now (all_cells c.args.blocks.now) in
    let i = c.loop-place.place in
    let sources = c.args.sources.now in
    let kept = c.loop-place.auto.pins in
    let test = c.loop-place-test.true in
    let below : i < length c.loop-place.pins = omega arith in
    take_more_set c.loop-place.pins i c.take_source.result below
    ∙ ap (λ xs. xs ++ c.take_source.result ∷ []) c.loop-place.invariant
    ∙ ap (λ x. map f (take i sources) ++ x ∷ []) c.take_source.ensures
    ∙ sym (map_more f sources i _ (omega arith))

pub returns : goal.returns
returns c =
    let i = c.loop-place.place in
    let past = c.loop-place-test.false in
    let kept = c.loop-place.auto.pins in
    sym (take_all i c.loop-place.pins (omega arith))
    ∙ c.loop-place.invariant
    ∙ ap (map (taken c.args.terminals.now (all_cells c.args.blocks.now))) (take_all i c.args.sources.now (omega arith))
