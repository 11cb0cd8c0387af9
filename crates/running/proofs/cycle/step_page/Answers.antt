use Rattle.std.proofs.Common.{sym, subst}
use Rattle.charts.specs.Boxes.{Box, CycleLaw}
use Rattle.charts.proofs.Stepping.{cycle_lawful, none_refused}
use Rattle.running.specs.Turns.{box_of}
use Rattle.running.proofs.Turning.{turned_page}
use Rattle.running.proofs.cycle.step_page.Goals as goal

pub returns : goal.returns
returns g c =
    let l = g.L.Library in
    let m = l.meaning c.args.library.now in
    let law = l.lawful c.args.library.now in
    let x = box_of c.args.page.now c.args.terminals.now in
    let is = turned_page m c.args.page.now c.args.terminals.now c.deref_mut.result.now c.step_all.new.blocks c.deref_mut.ensures.value c.step_all.auto.blocks c.step_all.ensures in
    let Obeys : Box → Type 0 = CycleLaw m x in
    record {
      cycled = is;
      law = λ limit sound. (subst Obeys (sym is) (cycle_lawful m law limit x sound), none_refused m law limit x sound);
    }
