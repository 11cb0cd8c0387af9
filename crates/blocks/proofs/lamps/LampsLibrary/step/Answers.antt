use Rattle.std.proofs.Common.{map, Ok, ap, ◌∙◌}
use Rattle.blocks.specs.Layers.{lamp}
use Rattle.blocks.proofs.Answered.{lamp_stepped}
use Rattle.blocks.proofs.lamps.LampsLibrary.step.Goals as goal

pub returns : goal.returns
returns g c =
    let l = g.L.Library in
    let below = c.args.self.now.below in
    let done = lamp_stepped (l.meaning below) (l.lawful below) c.args.kind c.args.pins.now c.args.cells.now c.step.new.cells c.in_ok-step.ensures in
    ap (λ xs. (Ok tt, xs)) (c.set_all.ensures ∙ ap (λ b. map (lamp b) c.step.new.cells) c.is_reached-lit.ensures) ∙ done
