use Rattle.loading.proofs.Building.{output_added, block_added}
use Rattle.loading.proofs.build.add_record.Goals as goal

pub returns-in_ok-push : goal.returns-in_ok-push
returns-in_ok-push g c rs built =
    output_added (g.L.Library.meaning c.args.library.now) rs c.args.page.now built c.args.found.now.kind c.args.found.now.body.now c.if-found-eq0.true
    c.output_record.result c.output_record.ensures c.push.new.self c.in_ok-push.ensures.items

pub returns-in_ok-push-2 : goal.returns-in_ok-push-2
returns-in_ok-push-2 g c rs built =
    block_added (g.L.Library.meaning c.args.library.now) rs c.args.page.now built c.args.found.now.kind c.args.found.now.body.now c.if-found-eq0.false
    c.in_ok-read_block.field-0 c.in_ok-read_block.ensures c.push-else-found-eq0.new.self c.in_ok-push-2.ensures.items
