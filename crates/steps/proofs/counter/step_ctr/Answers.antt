use Rattle.std.proofs.Common.{◌≡◌, cond, ◌&&◌, [], ◌∷◌, Ok, Err, sym, ap, ◌∙◌, w16, SFits, rules}
use Rattle.std.proofs.lemmas.Int.{to_z-of_z}
use Rattle.signals.specs.declared.signal.Signal.{Signal}
use Rattle.blocks.specs.Meanings.{typed}
use Rattle.rules.specs.Counter.{counted}
use Rattle.table.specs.Kinds.{pin_types, shape_of}
use Rattle.steps.specs.Rules.{replaced, counted_cells, pins_by_name, memory_by_name}
use Rattle.table.specs.declared.Kind.TheVariants.{Ctr}
use Rattle.steps.proofs.Counters.{some_when}
use Rattle.steps.proofs.counter.step_ctr.Goals as goal

pub returns : goal.returns
returns c =
    let ps = c.args.pins.now in
    let cs = c.args.cells.now in
    let p = some_when (typed (pin_types Ctr) ps) c.in-Some-Some.pins (pins_by_name ps) c.in-Some-Some.ensures in
    let m = some_when (typed (shape_of Ctr).cells cs) c.in-Some-Some.memory (memory_by_name cs) c.in-Some-Some.ensures' in
    let r = c.ctr-new.result in
    let fits : SFits w16 r.count.y = search rules in
    let new : r ≡ counted (pins_by_name ps) (memory_by_name cs) = c.ctr-new.ensures ∙ (λ i. counted (p.1 i) (m.1 i)) in
    c.put.ensures
    ∙ ap (λ y. replaced (Signal.Int y ∷ Signal.Bool r.count.qu ∷ Signal.Bool r.count.ql ∷ Signal.Bool r.pu ∷ Signal.Bool r.pd ∷ []) cs) (to_z-of_z w16 r.count.y fits)
    ∙ (λ i. cond (sym p.0 i && typed (shape_of Ctr).cells cs) (Ok tt, counted_cells (new i)) (Err 11, cs))
