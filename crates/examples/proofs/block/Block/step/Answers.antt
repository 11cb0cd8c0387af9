use Rattle.std.proofs.Common.{◌≡◌, length, drop, vec_items, refl, rules}
use Rattle.blocks.specs.Refusals.{numbered}
use Rattle.examples.proofs.Cells.{stepped_in_place}
use Rattle.examples.proofs.block.Block.step.Goals as goal

pub returns : goal.returns
returns g c =
    let m = g.L.Library.meaning c.args.library.now in
    let block = c.args.self.now in
    let long : length c.step.new.cells ≡ block.cells.len = search rules in
    record {
      stepped = stepped_in_place m block.kind c.args.pins.now (vec_items block.cells) c.as_mut_slice.result.now c.step.new.cells block.cells.len (numbered c.step.result) (drop (length c.step.new.cells) block.cells.items) long c.as_mut_slice.ensures.value c.step.ensures;
      kind = refl {a = block.kind};
    }
