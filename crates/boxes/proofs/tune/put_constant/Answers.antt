use Rattle.std.proofs.Common.{refl}
use Rattle.boxes.proofs.Tunings.{found, lacking, none_tuned, block_tuned, cells_kept}
use Rattle.boxes.proofs.tune.put_constant.Goals as goal

pub returns-in-Some : goal.returns-in-Some
returns-in-Some c =
    let p = c.args.page.now in
    let put = c.put_source in
    let held = found _ _ _ c.in-Some.ensures.item.0 c.in-Some.ensures.item.1 in
    record {
      page = block_tuned p c.args.block c.in-Some.found.now put.new.block held c.args.pin c.args.signal put.ensures.kind put.ensures.pins;
      cells = cells_kept p c.args.block c.in-Some.found.now put.new.block held put.ensures.cells;
    }

pub returns-in_default : goal.returns-in_default
returns-in_default c =
    record { page = none_tuned c.args.page.now c.args.block c.args.pin c.args.signal (lacking _ _ c.in_default.ensures.item.0); cells = refl }
