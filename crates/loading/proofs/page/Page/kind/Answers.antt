use Rattle.loading.proofs.Looks.{kind_found}
use Rattle.loading.proofs.page.Page.kind.Goals as goal

pub returns : goal.returns
returns c =
    kind_found c.args.self.now c.deref.result.now c.from.result c.args.block c.in_ok-found.found.now c.deref.ensures.value c.from.ensures c.in_ok-found.ensures.lookup.0 c.in_ok-found.ensures.lookup.1
