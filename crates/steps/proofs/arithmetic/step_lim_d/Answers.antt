use Rattle.std.proofs.Common.{◌≡◌, [], ◌∷◌, ap, ◌∙◌, arith}
use Rattle.std.proofs.lemmas.Grind.{common_steps}
use Rattle.signals.specs.declared.signal.Signal.{Signal}
use Rattle.blocks.specs.Refusals.{numbered}
use Rattle.steps.specs.Rules.{replaced, limited_cells}
use Rattle.steps.proofs.arithmetic.step_lim_d.Goals as goal

pub returns-in-Dint : goal.returns-in-Dint
returns-in-Dint c =
    let l = c.limit-new.result in
    let e : c.limited_cells.result ≡ limited_cells (λ y. Signal.Dint y) l = c.limited_cells.ensures.2 ∙ ap (λ y. y ∷ Signal.Bool l.qu ∷ Signal.Bool l.ql ∷ []) c.limited_cells.ensures.1 in
    let p : (numbered c.put.result, c.put.new.cells) ≡ replaced (limited_cells (λ y. Signal.Dint y) l) c.args.cells.now = c.put.ensures ∙ ap (λ xs. replaced xs c.args.cells.now) e in
    grind (arith, common_steps)
